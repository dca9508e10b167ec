-- The faults of folders and of certificates' files, as those of a source.
use Rattle.std.proofs.Common.{ℕ, List}
use Rattle.jc_source.specs.Source.{Asked}
use Rattle.jc_host.specs.Files.{Entry, OfFile}
use Rattle.jc_host.specs.FileSource.{IsFaultOf, IsSourceFault}
use Rattle.jc_host.specs.declared.files.ReadFault.{ReadFault}
use Rattle.jc_host.proofs.Reading.{of_file}

-- the fault of a reading, by what was asked for
pub reading_failed : (holds : List ℕ → Entry → Type 0) (asked : Asked) (fault : ReadFault)
    → OfFile (IsFaultOf holds asked) fault → OfFile (IsSourceFault holds) fault
reading_failed holds asked fault =
    of_file (IsFaultOf holds asked) (IsSourceFault holds) fault (λ f told. record { asked = asked; is = told })
