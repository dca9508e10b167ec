use Rattle.jc_base.proofs.Bits.{none_has}
use Rattle.jc_base.proofs.number_set.NumberSet.empty.Goals as goal

-- src/number_set.rt:27:5
pub returns : goal.returns
returns c = none_has
