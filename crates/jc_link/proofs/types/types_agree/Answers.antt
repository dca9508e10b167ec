use Rattle.jc_link.proofs.Agree.{other_lengths}
use Rattle.jc_link.proofs.types.types_agree.Goals as goal

pub returns-then-types-others : goal.returns-then-types-others
returns-then-types-others c = other_lengths _ _ _ _ c.if-types-others.true
