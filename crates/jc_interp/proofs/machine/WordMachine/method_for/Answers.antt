use Rattle.std.proofs.Common.{arith}
use Rattle.jc_interp.proofs.MembersFor.{method_is}
use Rattle.jc_interp.proofs.machine.WordMachine.method_for.Goals as goal

pub returns : goal.returns
returns c w heap object name accepted program reads numbered found is = grind (arith, method_is)
