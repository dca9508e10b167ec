use Rattle.std.proofs.lemmas.Result.{IfErr-weaker}
use Rattle.jc_host.specs.Files.{OfFile}
use Rattle.jc_host.specs.Folders.{FailsFirst, IsComponentFault, IsComponentIn, IsFolderFault, components}
use Rattle.jc_host.specs.Folders.IsFolderFault.{component}
use Rattle.jc_host.proofs.Reading.{of_file}
use Rattle.jc_host.proofs.folders.image_in.Goals as goal

pub returns-clause-faults : goal.returns-clause-faults
returns-clause-faults g c =
    let holds = g.F.Files.holds c.args.files.now in
    let folder = c.args.folder.now in
    let first = FailsFirst (IsComponentIn holds folder) (IsComponentFault holds folder) components in
    IfErr-weaker c.joined.result (OfFile first) (OfFile (IsFolderFault holds folder))
    (λ fault told. of_file first (IsFolderFault holds folder) fault
    (λ f failing. component c.in_ok-look_for_folder.ensures.there failing) told) c.joined.ensures.faults
