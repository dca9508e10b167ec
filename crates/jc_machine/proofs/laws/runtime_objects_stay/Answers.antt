use Rattle.jc_machine.proofs.Staying.{they_stay}
use Rattle.jc_machine.proofs.laws.runtime_objects_stay.Goals as goal

pub returns : goal.returns
returns c = they_stay
