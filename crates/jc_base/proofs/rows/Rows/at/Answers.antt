use Rattle.std.proofs.Common.{arith}
use Rattle.jc_base.proofs.Repeats.{past_rows}
use Rattle.jc_base.proofs.Fixed.{row_there, times}
use Rattle.jc_base.proofs.rows.Rows.at.Goals as goal

pub returns-then-self-index : goal.returns-then-self-index
returns-then-self-index g c = grind (arith, past_rows)

pub returns : goal.returns
returns g c = grind (arith, times, row_there)
