use Rattle.jc_host.specs.Saying.IsSaidOfWork.{done}
use Rattle.jc_host.proofs.Jobs.{said_undone}
use Rattle.jc_host.proofs.verify_folders.said_of_work.Goals as goal

pub returns-in-Ok-clause-said : goal.returns-in-Ok-clause-said
returns-in-Ok-clause-said g c = done c.in-Ok.answer c.in-Ok.ensures.done c.said_of_verified.ensures

pub returns-in-Err-clause-said : goal.returns-in-Err-clause-said
returns-in-Err-clause-said g c = said_undone _ _ _ _ c.in-Err.fault c.in-Err.ensures.faults c.said_of_files.ensures
