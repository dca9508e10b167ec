use Rattle.std.proofs.lemmas.Result.{err_from_is_err_and}
use Rattle.jc_host.proofs.Jobs.{earlier_unread, last_unread}
use Rattle.jc_host.proofs.Reading.{images_of}
use Rattle.jc_host.proofs.verify_folders.worked_out.Goals as goal

pub returns-in_err-earlier-clause-faults : goal.returns-in_err-earlier-clause-faults
returns-in_err-earlier-clause-faults g c =
    let told = err_from_is_err_and c.from_residual-in_err-earlier.result c.from_residual-in_err-earlier.ensures.1 in
    let failing = earlier_unread (g.F.Files.holds c.args.files.now) c.args.job.now c.in_ok-binding.binding
    c.in_err-earlier.field-0.0 c.in_ok-binding.ensures.bound
    (rw (← c.deref.ensures.value) c.in_err-earlier.ensures.faults) in
    rw (told.1, told.2) failing

pub returns-in_err-image-clause-faults : goal.returns-in_err-image-clause-faults
returns-in_err-image-clause-faults g c =
    let told = err_from_is_err_and c.from_residual-in_err-image.result c.from_residual-in_err-image.ensures.1 in
    let failing = last_unread (g.F.Files.holds c.args.files.now) c.args.job.now c.in_ok-binding.binding
    (images_of c.in_ok-earlier.earlier.items) c.in_err-image.field-0.0 c.in_ok-binding.ensures.bound
    (rw (← c.deref.ensures.value) c.in_ok-earlier.ensures.images) c.in_err-image.ensures.faults in
    rw (told.1, told.2) failing
