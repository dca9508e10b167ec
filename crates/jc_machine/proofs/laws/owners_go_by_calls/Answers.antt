use Rattle.jc_machine.proofs.OwningSteps.{steps_owned}
use Rattle.jc_machine.proofs.laws.owners_go_by_calls.Goals as goal

pub returns : goal.returns
returns g c = steps_owned
