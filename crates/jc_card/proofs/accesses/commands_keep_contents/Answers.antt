use Rattle.jc_card.proofs.Guarding.{apdus_keep_out, installs_keep_out, resets_keep_out}
use Rattle.jc_card.proofs.accesses.commands_keep_contents.Goals as goal

pub returns-clause-apdu : goal.returns-clause-apdu
returns-clause-apdu c = apdus_keep_out c.steps_are_guarded.ensures

pub returns-clause-install : goal.returns-clause-install
returns-clause-install c = installs_keep_out c.steps_are_guarded.ensures

pub returns-clause-reset : goal.returns-clause-reset
returns-clause-reset c = resets_keep_out c.steps_are_guarded.ensures
