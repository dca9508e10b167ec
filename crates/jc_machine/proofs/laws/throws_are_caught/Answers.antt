use Rattle.jc_machine.proofs.CatchingThrows.{throws_unwind}
use Rattle.jc_machine.proofs.laws.throws_are_caught.Goals as goal

pub returns : goal.returns
returns g c = throws_unwind
