use Rattle.std.proofs.Common.{arith, bit_or, get_or, set}
use Rattle.jc_base.proofs.Bits.{has_with}
use Rattle.jc_base.proofs.number_set.NumberSet.insert.Goals as goal

-- src/number_set.rt:42:5
pub returns : goal.returns
returns c n = grind (arith, set, bit_or, get_or, has_with)
