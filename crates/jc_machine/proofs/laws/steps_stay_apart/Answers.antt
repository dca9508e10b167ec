use Rattle.jc_machine.proofs.GuardingSteps.{steps_stay_apart}
use Rattle.jc_machine.proofs.StayingApart.{objects_stay_apart}
use Rattle.jc_machine.proofs.laws.steps_stay_apart.Goals as goal

pub returns-clause-steps : goal.returns-clause-steps
returns-clause-steps g c = steps_stay_apart

pub returns-clause-objects : goal.returns-clause-objects
returns-clause-objects g c = objects_stay_apart
