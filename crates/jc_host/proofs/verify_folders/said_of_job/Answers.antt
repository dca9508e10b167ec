use Rattle.jc_host.specs.Saying.IsSaidOfJob.{worked}
use Rattle.jc_host.proofs.Jobs.{none_beside, said_kept}
use Rattle.jc_host.proofs.verify_folders.said_of_job.Goals as goal

pub returns-in-Ok-clause-said : goal.returns-in-Ok-clause-said
returns-in-Ok-clause-said g c = worked c.in-Ok.ensures.place c.said_of_work.ensures.said

pub returns-in-Err-clause-said : goal.returns-in-Err-clause-said
returns-in-Err-clause-said g c =
    said_kept (g.F.Files.holds c.args.files.now) (g.F.Files.has_written c.args.files.now) c.args.job.now
    c.said_of_files.result c.in-Err.fault c.in-Err.ensures.faults c.said_of_files.ensures

pub returns-in-Err-clause-alone : goal.returns-in-Err-clause-alone
returns-in-Err-clause-alone g c = none_beside (g.F.Files.has_written c.args.files.now) c.args.job.now.cert.now
