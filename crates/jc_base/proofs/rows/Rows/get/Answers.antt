use Rattle.std.proofs.Common.{arith}
use Rattle.jc_base.proofs.Repeats.{past_rows, look_up, not_stuck}
use Rattle.jc_base.proofs.rows.Rows.get.Goals as goal

pub returns-then-self-index : goal.returns-then-self-index
returns-then-self-index g c = grind (arith, past_rows)

pub returns-in_default : goal.returns-in_default
returns-in_default g c = grind (arith, not_stuck)

pub returns : goal.returns
returns g c = grind (arith, look_up)
