use Rattle.std.proofs.Common.{subst}
use Rattle.jc_source.specs.Source.{Image}
use Rattle.jc_host.specs.Files.{OfFile}
use Rattle.jc_host.specs.FileSource.{IsSourceFault}
use Rattle.jc_host.proofs.Sources.{reading_failed}
use Rattle.jc_host.proofs.file_source.FileSourcePackageSource.image.Goals as goal

pub fail-requires-clause-fault : goal.fail-requires-clause-fault
fail-requires-clause-fault g c =
    subst (λ s. OfFile (IsSourceFault (g.F.Files.holds s.files)) c.in-Err.fault) c.self.view_is
    (reading_failed (g.F.Files.holds c.self.inside.files.now) (Image c.args.name.now) c.in-Err.fault
    c.in-Err.ensures.faults)
