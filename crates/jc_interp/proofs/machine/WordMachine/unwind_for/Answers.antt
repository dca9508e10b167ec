use Rattle.std.proofs.Common.{arith}
use Rattle.jc_interp.proofs.Outward.{found_at, none_at}
use Rattle.jc_interp.proofs.machine.WordMachine.unwind_for.Goals as goal

pub returns-in-Some : goal.returns-in-Some
returns-in-Some c = grind (arith, found_at)

pub loop-others-preserved : goal.loop-others-preserved
loop-others-preserved c = grind (arith, none_at)
