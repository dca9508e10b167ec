use Rattle.std.proofs.Common.{arith}
use Rattle.jc_program.proofs.Indexing.{indexes_above, indexes_end, indexes_here, indexes_none}
use Rattle.jc_program.proofs.interfaces.indexes_at.Goals as goal

pub loop-init : goal.loop-init
loop-init c = grind arith

pub returns-in_err-at : goal.returns-in_err-at
returns-in_err-at c = grind (arith, indexes_none)

pub returns-in-Some : goal.returns-in-Some
returns-in-Some c = grind (arith, indexes_here)

pub returns-in_err-number : goal.returns-in_err-number
returns-in_err-number c = grind (arith, indexes_above)

pub loop-preserved : goal.loop-preserved
loop-preserved c = grind (arith, indexes_above)

pub returns : goal.returns
returns c = grind (arith, indexes_end)
