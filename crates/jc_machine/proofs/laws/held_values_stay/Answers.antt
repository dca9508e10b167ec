use Rattle.jc_machine.proofs.Storing.{fields_still, held_still}
use Rattle.jc_machine.proofs.laws.held_values_stay.Goals as goal

pub returns-clause-held : goal.returns-clause-held
returns-clause-held c = held_still

pub returns-clause-fields : goal.returns-clause-fields
returns-clause-fields c = fields_still
