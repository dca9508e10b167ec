use Rattle.std.proofs.Common.{arith}
use Rattle.jc_program.proofs.Sharing.{has_end, has_here, has_next, has_none}
use Rattle.jc_program.proofs.chained.ChainedTables.find.Goals as goal

pub loop-init : goal.loop-init
loop-init c = grind arith

pub returns-in_err-number : goal.returns-in_err-number
returns-in_err-number c = grind (arith, has_none)

pub returns-in_err-key : goal.returns-in_err-key
returns-in_err-key c = grind (arith, has_end)

pub returns-then-branch-key : goal.returns-then-branch-key
returns-then-branch-key c = grind (arith, has_here)

pub loop-preserved : goal.loop-preserved
loop-preserved c = grind (arith, has_next)

pub returns : goal.returns
returns c = grind arith
