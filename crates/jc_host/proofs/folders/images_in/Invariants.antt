use Rattle.std.proofs.Common.{map, take}
use Rattle.std.specs.List.{AllZip}
use Rattle.jc_host.specs.Folders.{IsImage}
use Rattle.jc_host.proofs.Reading.{names_of}
use Rattle.jc_host.proofs.folders.images_in.Given as goal

abbrev pub invariant-loop-folder : goal.invariant-loop-folder
invariant-loop-folder g l = AllZip (IsImage (g.F.Files.holds l.files)) (names_of (take l.folder-index l.folders))
    (map (λ image. image.items) l.images.items)
