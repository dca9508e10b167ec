use Rattle.jc_program.proofs.Unknown.{below_itself}
use Rattle.jc_program.proofs.laws.unknown_classes_are_below_themselves.Goals as goal

pub returns : goal.returns
returns c = below_itself
