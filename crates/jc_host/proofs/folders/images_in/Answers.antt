use Rattle.std.proofs.Common.{[]}
use Rattle.std.proofs.lemmas.Result.{err_from_is_err_and}
use Rattle.jc_host.specs.Folders.{IsFolderFault, IsImage}
use Rattle.jc_host.proofs.Reading.{first_fault, image_further}
use Rattle.jc_host.proofs.folders.images_in.Goals as goal

pub returns-in_err-image-clause-faults : goal.returns-in_err-image-clause-faults
returns-in_err-image-clause-faults g c =
    let holds = g.F.Files.holds c.args.files.now in
    let told = err_from_is_err_and c.from_residual.result c.from_residual.ensures.1 in
    let first = first_fault (IsImage holds) (IsFolderFault holds) c.args.folders.now c.loop-folder.folder-index
    (record { ref_ptr = (0, 0); now = [] })
    _ c.in_err-image.field-0.0 c.loop-folder-test.true c.loop-folder.invariant c.in_err-image.ensures.faults in
    rw (told.1, told.2) first

pub loop-folder-preserved : goal.loop-folder-preserved
loop-folder-preserved g c =
    image_further (IsImage (g.F.Files.holds c.args.files.now)) c.args.folders.now c.loop-folder.folder-index
    (record { ref_ptr = (0, 0); now = [] }) _ _ c.in_ok-image.image
    c.loop-folder-test.true c.in_ok-image.ensures.image c.in_ok-push.ensures.items c.loop-folder.invariant
