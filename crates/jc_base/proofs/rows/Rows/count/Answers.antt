use Rattle.std.proofs.Common.{arith}
use Rattle.jc_base.proofs.Repeats.{count_is}
use Rattle.jc_base.proofs.rows.Rows.count.Goals as goal

pub returns : goal.returns
returns g c = grind (arith, count_is)
