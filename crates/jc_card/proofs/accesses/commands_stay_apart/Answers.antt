use Rattle.jc_card.proofs.Guarding.{apdus_stay_apart, installs_stay_apart, resets_stay_apart}
use Rattle.jc_card.proofs.SetApart.{load_apart, new_apart}
use Rattle.jc_card.proofs.accesses.commands_stay_apart.Goals as goal

pub returns-clause-new : goal.returns-clause-new
returns-clause-new c = new_apart c.new_machines_are_typed.ensures.there

pub returns-clause-apdu : goal.returns-clause-apdu
returns-clause-apdu c = apdus_stay_apart c.steps_are_guarded.ensures

pub returns-clause-install : goal.returns-clause-install
returns-clause-install c = installs_stay_apart c.steps_are_guarded.ensures

pub returns-clause-reset : goal.returns-clause-reset
returns-clause-reset c = resets_stay_apart c.steps_are_guarded.ensures

pub returns-clause-load : goal.returns-clause-load
returns-clause-load c = load_apart (record {
  own = c.runtime_objects_stay.ensures;
  held = c.held_values_stay.ensures.held;
  fields = c.held_values_stay.ensures.fields;
})
