use Rattle.jc_machine.proofs.GuardingSteps.{denied_are_refused, objects_are_kept, steps_keep}
use Rattle.jc_machine.proofs.laws.accesses_are_guarded.Goals as goal

pub returns-clause-guarded : goal.returns-clause-guarded
returns-clause-guarded g c = steps_keep

pub returns-clause-denied : goal.returns-clause-denied
returns-clause-denied g c = denied_are_refused

pub returns-clause-kept : goal.returns-clause-kept
returns-clause-kept g c = objects_are_kept
