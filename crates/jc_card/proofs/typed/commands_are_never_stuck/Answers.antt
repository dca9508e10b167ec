use Rattle.jc_firewall.specs.Verdict.{runtime}
use Rattle.jc_machine.specs.Accepted.{api_alone}
use Rattle.jc_machine.specs.Step.{no_frame}
use Rattle.jc_machine.specs.Runtime.{new_heap}
use Rattle.jc_card.proofs.TypedCards.{load_typed, new_typed}
use Rattle.jc_card.proofs.TypedCommands.{apdu_typed, install_typed, reset_typed}
use Rattle.jc_card.proofs.typed.commands_are_never_stuck.Goals as goal

pub returns-clause-new : goal.returns-clause-new
returns-clause-new c limits binding cells clash =
    new_typed limits cells binding (c.accepted_worlds_grow.ensures.api binding clash) (no_frame runtime)
    (c.new_machines_are_typed.ensures.beside binding clash (no_frame runtime))
    (c.calls_keep_fitting.ensures.new (api_alone binding) new_heap)

pub returns-clause-apdu : goal.returns-clause-apdu
returns-clause-apdu c = apdu_typed c.parts_stay_typed.ensures

pub returns-clause-install : goal.returns-clause-install
returns-clause-install c = install_typed c.parts_stay_typed.ensures

pub returns-clause-reset : goal.returns-clause-reset
returns-clause-reset c = reset_typed c.parts_stay_typed.ensures

pub returns-clause-load : goal.returns-clause-load
returns-clause-load c =
    load_typed c.fit_packages_are_accepted.ensures c.loads_stay_typed.ensures c.loads_keep_fitting.ensures
