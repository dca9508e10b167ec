use Rattle.jc_machine.proofs.AppletCarried.{applet_accepted}
use Rattle.jc_machine.proofs.FirstFrame.{applet_resolved, first_machine_typed}
use Rattle.jc_machine.proofs.IdleLaw.{idle_is_lawful}
use Rattle.jc_machine.proofs.examples.first_frames_are_typed.Goals as goal

pub returns-clause-resolved : goal.returns-clause-resolved
returns-clause-resolved c = applet_resolved

pub returns-clause-typed : goal.returns-clause-typed
returns-clause-typed c = first_machine_typed

pub returns-clause-runs : goal.returns-clause-runs
returns-clause-runs c = λ clear.
    record { accepted = applet_accepted c.an_applet_is_well_formed.ensures clear; natives = idle_is_lawful }
