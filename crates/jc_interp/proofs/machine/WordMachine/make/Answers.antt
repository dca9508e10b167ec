use Rattle.std.proofs.Common.{arith}
use Rattle.jc_interp.proofs.machine.WordMachine.make.Goals as goal

pub returns : goal.returns
returns g c = search arith
