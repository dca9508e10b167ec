use Rattle.jc_run.proofs.Commands.{also, says_install}
use Rattle.std.proofs.Common.{Ok, Err}
use Rattle.jc_run.proofs.command.install.Goals as goal

pub returns-in-Ok : goal.returns-in-Ok
returns-in-Ok c = λ t h. also _ _ _ _ (says_install (Ok c.in-Ok.number)) (c.in-Ok.ensures.done t h)

pub returns-in-Err : goal.returns-in-Err
returns-in-Err c = λ t h. also _ _ _ _ (says_install (Err c.in-Err.fault)) (c.in-Err.ensures.done t h)
