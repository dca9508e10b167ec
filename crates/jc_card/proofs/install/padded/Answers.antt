use Rattle.jc_card.proofs.Installing.{padded_is}
use Rattle.jc_card.proofs.install.padded.Goals as goal

pub returns-clause-padded : goal.returns-clause-padded
returns-clause-padded c = padded_is c.copy_from_slice.new.self c.args.bytes.now c.copy_from_slice.ensures.after
