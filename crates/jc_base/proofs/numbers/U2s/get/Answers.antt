use Rattle.std.proofs.Common.{arith}
use Rattle.jc_base.proofs.Pairs.{get_within, get_past}
use Rattle.jc_base.proofs.numbers.U2s.get.Goals as goal

pub returns-then-index-self : goal.returns-then-index-self
returns-then-index-self c = grind (arith, get_within)

pub returns-else-index-self : goal.returns-else-index-self
returns-else-index-self c = grind (arith, get_past)
