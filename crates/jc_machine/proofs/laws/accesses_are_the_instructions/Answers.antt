use Rattle.jc_machine.proofs.AccessingSteps.{steps_access}
use Rattle.jc_machine.proofs.laws.accesses_are_the_instructions.Goals as goal

pub returns : goal.returns
returns g c = steps_access
