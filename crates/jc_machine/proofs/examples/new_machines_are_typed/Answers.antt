use Rattle.jc_link.specs.Built.IsBuilt.{api}
use Rattle.jc_classes.specs.Api.{api_world}
use Rattle.jc_machine.proofs.Accepting.{api_is_accepted}
use Rattle.jc_machine.proofs.IdleLaw.{idle_is_lawful}
use Rattle.jc_machine.proofs.NewMachines.{new_heap_has_them, new_heap_typed, new_machine_typed}
use Rattle.jc_machine.proofs.examples.new_machines_are_typed.Goals as goal

pub returns-clause-there : goal.returns-clause-there
returns-clause-there c = new_heap_has_them

pub returns-clause-objects : goal.returns-clause-objects
returns-clause-objects c = λ world built.
    new_heap_typed world (c.built_worlds_have_the_api.ensures world built)
    (c.api_classes_have_objects.ensures world built)

pub returns-clause-beside : goal.returns-clause-beside
returns-clause-beside c = λ bound apart.
    let built = api bound apart in
    new_machine_typed bound
    (new_heap_typed (api_world bound) (c.built_worlds_have_the_api.ensures (api_world bound) built)
    (c.api_classes_have_objects.ensures (api_world bound) built))

pub returns-clause-runs : goal.returns-clause-runs
returns-clause-runs c = λ bound apart. record { accepted = api_is_accepted bound apart; natives = idle_is_lawful }
