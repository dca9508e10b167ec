use Rattle.std.proofs.Common.{take}
use Rattle.jc_host.specs.Folders.{AreJoined}
use Rattle.jc_host.proofs.Reading.{names_of}
use Rattle.jc_host.proofs.folders.joined.Given as goal

abbrev pub invariant-loop-name : goal.invariant-loop-name
invariant-loop-name g l = AreJoined (g.F.Files.holds l.files) l.folder (names_of (take l.name-index l.names))
    l.bytes.items
