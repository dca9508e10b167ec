-- Packages in folders and certificates in files: the contents of such a source, the fault of a failed read, and which
-- fault is kept.
use Rattle.std.specs.Prelude.{◌≡◌, ◌<◌, ℕ, List, Option, Some, None}
use Rattle.jc_source.specs.Source.{Asked, Certificate, Image}
use Rattle.jc_host.specs.Files.{Entry, IsContent, IsFaultAt, IsIrregular, IsLonger, most_certificate}
use Rattle.jc_host.specs.Files.Entry.{failing}
use Rattle.jc_host.specs.Folders.{IsFolderFault}
use Rattle.jc_host.specs.declared.files.FileCause.{FileCause}
use Rattle.jc_host.specs.declared.files.FileCause.TheVariants.{System, NoFolder, NotRegular, TooLong, NotText}
use Rattle.jc_host.specs.declared.files.FileCause.TheVariants.{LongCertificate, NoBinding, NoCertificate}
use Rattle.jc_host.specs.declared.files.FileFault.{FileFault}

-- the certificate under a name is the bytes of the file with this name
abbrev pub HoldsCertificate : (List ℕ → Entry → Type 0) → List ℕ → List ℕ → Type 0
HoldsCertificate holds name bytes = IsContent (holds name) most_certificate bytes

-- why there is no certificate at a path
abbrev pub IsNoCertificate : (Entry → Type 0) → FileCause → Type 0
IsNoCertificate holds (System error) = holds (failing error)
IsNoCertificate holds NoFolder = ⊥
IsNoCertificate holds NotRegular = IsIrregular holds
IsNoCertificate holds (TooLong limit) = (limit ≡ most_certificate) × IsLonger holds most_certificate
IsNoCertificate holds NotText = ⊥
IsNoCertificate holds (NoBinding fault) = ⊥
IsNoCertificate holds NoCertificate = ⊥
IsNoCertificate holds (LongCertificate limit) = ⊥

-- why the file with a name has no certificate
abbrev pub IsCertificateFault : (List ℕ → Entry → Type 0) → List ℕ → FileFault → Type 0
IsCertificateFault holds name fault = IsFaultAt name (IsNoCertificate (holds name)) fault

-- why a read failed: a folder has no image, or a file no certificate
abbrev pub IsFaultOf : (List ℕ → Entry → Type 0) → Asked → FileFault → Type 0
IsFaultOf holds (Image name) = IsFolderFault holds name
IsFaultOf holds (Certificate name) = IsCertificateFault holds name

-- the fault of some read
pub record IsSourceFault (holds : List ℕ → Entry → Type 0) (fault : FileFault) : Type 0 where
  pub asked : Asked
  pub is : IsFaultOf holds asked fault

-- a source: the files that it reads, how many reads failed, for how many memory ran out, and the fault of the last that
-- failed
pub record Readings (F : Type 0) : Type 0 where
  pub files : F
  pub failures : ℕ
  pub shortages : ℕ
  pub fault : Option FileFault

-- a fault that may be reported for some read
pub record IsToldOfSome (tells : Asked → FileFault → Type 0) (fault : FileFault) : Type 0 where
  pub asked : Asked
  pub told : tells asked fault

-- a fault that may be reported is kept if reads failed, and nothing if none did
abbrev pub IsKept : (Asked → FileFault → Type 0) → ℕ → Option FileFault → Type 0
IsKept tells failures None = failures ≡ 0
IsKept tells failures (Some fault) = (0 < failures) × IsToldOfSome tells fault

-- a fault is kept, and may be reported for a read
abbrev pub IsKeptOf : (Asked → FileFault → Type 0) → Option FileFault → Asked → Type 0
IsKeptOf tells None asked = ⊥
IsKeptOf tells (Some fault) asked = tells asked fault

-- all faults of reads may be reported, each for its read
abbrev pub TellsAll : (List ℕ → Entry → Type 0) → (Asked → FileFault → Type 0) → Type 0
TellsAll holds tells = (asked : Asked) (fault : FileFault) → IsFaultOf holds asked fault → tells asked fault
