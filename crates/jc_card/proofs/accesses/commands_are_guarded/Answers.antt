use Rattle.jc_card.proofs.Guarding.{apdus_guarded, installs_guarded, loads_leave, resets_guarded}
use Rattle.jc_card.proofs.LeadingWrites.{all_cleared}
use Rattle.jc_card.proofs.accesses.commands_are_guarded.Goals as goal

pub returns-clause-apdu : goal.returns-clause-apdu
returns-clause-apdu c = apdus_guarded c.steps_are_guarded.ensures

pub returns-clause-install : goal.returns-clause-install
returns-clause-install c = installs_guarded c.steps_are_guarded.ensures

pub returns-clause-reset : goal.returns-clause-reset
returns-clause-reset c = resets_guarded c.steps_are_guarded.ensures

pub returns-clause-cleared : goal.returns-clause-cleared
returns-clause-cleared c = all_cleared

pub returns-clause-load : goal.returns-clause-load
returns-clause-load c = loads_leave
