use Rattle.std.proofs.Common.{ap}
use Rattle.jc_run.proofs.Commands.{apdu_done, install_done, load_done}
use Rattle.jc_script.specs.Shown.{shown_command}
use Rattle.jc_run.proofs.command.perform.Goals as goal

pub returns-in_ok-files-in-Load-clause-done : goal.returns-in_ok-files-in-Load-clause-done
returns-in_ok-files-in-Load-clause-done g c = λ t h.
    let files = c.in_ok-files-in-Load.ensures in
    load_done _ _ t _ _ _ _ _ _ _ (ap shown_command c.in-Load.is) files.image files.bytes files.certificate
    (c.load.ensures t h)

pub returns-in-Install-clause-done : goal.returns-in-Install-clause-done
returns-in-Install-clause-done g c = λ t h. install_done _ _ t _ _ _ _ _ _
    (ap shown_command c.in-Install.is) (c.install.ensures t h)

pub returns-in-Apdu-clause-done : goal.returns-in-Apdu-clause-done
returns-in-Apdu-clause-done g c = λ t h. apdu_done _ _ t _ _ _ _
    (ap shown_command c.in-Apdu.is) (c.respond.ensures t h)
