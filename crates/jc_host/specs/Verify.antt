-- The answer to a package in a folder after others, what is written of it, and which file is at fault if there is no
-- answer.
use Rattle.std.specs.Prelude.{⊤, ◌≡◌, ◌≢◌, ◌≤◌, ℕ, ◌∷◌, [], List, length, map}
use Rattle.std.specs.IoError.{error_kind}
use Rattle.std.specs.List.{AllZip}
use Rattle.jc_api.specs.Bound.{Bound}
use Rattle.jc_offcard.specs.Named.{AnswersNamed}
use Rattle.jc_offcard.specs.declared.verify_answer.VerifyAnswer.{VerifyAnswer}
use Rattle.jc_offcard.specs.declared.verify_answer.VerifyAnswer.TheVariants.{Certificate, NoCertificate, Refused}
use Rattle.jc_offcard.specs.declared.verify_answer.VerifyAnswer.TheVariants.{Memory}
use Rattle.jc_host.specs.Binding.{IsBindingFault, IsBindingFor}
use Rattle.std.specs.declared.io.Error.{Error}
use Rattle.std.specs.declared.io.ErrorKind.TheVariants.{NotFound}
use Rattle.jc_cert.specs.Cert.{Row}
use Rattle.jc_host.specs.Eval.{SpellsCert, SpellsNone}
use Rattle.jc_host.specs.Files.{Entry, IsFaultAt, IsIrregular, IsLonger, IsUnwritten, Written, failing, file}
use Rattle.jc_host.specs.Files.{most_certificate}
use Rattle.jc_host.specs.declared.files.FileCause.{FileCause}
use Rattle.jc_host.specs.declared.files.FileCause.TheVariants.{LongCertificate, NoBinding, NoFolder, NotRegular}
use Rattle.jc_host.specs.declared.files.FileCause.TheVariants.{NotText}
use Rattle.jc_host.specs.declared.files.FileCause.TheVariants.{System, TooLong}
use Rattle.jc_host.specs.declared.files.FileCause.TheVariants as causes
use Rattle.jc_host.specs.Folders.{FailsFirst, IsFolderFault, IsImage}
use Rattle.jc_host.specs.declared.files.FileFault.{FileFault}
use Rattle.jc_host.specs.declared.job.VerifyJob.{VerifyJob}

-- the earlier folders of a job, in order
abbrev pub earlier_of : VerifyJob → List (List ℕ)
earlier_of job = map (λ name. name.now) job.earlier.items

-- the answer to the package in the folder of a job: to the images in the folders, with the job's binding
pub record IsAnswerOf (holds : List ℕ → Entry → Type 0) (job : VerifyJob) (answer : VerifyAnswer) : Type 0 where
  pub binding : Bound
  pub bound : IsBindingFor holds job.binding binding
  pub answered : AnswersNamed (IsImage holds) binding (earlier_of job) job.folder.now answer

-- which file of a job isn't read: the first, in the order of the binding, the earlier folders, the package's folder
pub data IsUnreadOf (holds : List ℕ → Entry → Type 0) (job : VerifyJob) (fault : FileFault) : Type 0 where
  binding : IsBindingFault holds job.binding fault → IsUnreadOf holds job fault
  earlier : (bound : Bound) → IsBindingFor holds job.binding bound
      → FailsFirst (IsImage holds) (IsFolderFault holds) (earlier_of job) fault → IsUnreadOf holds job fault
  last : (bound : Bound) (images : List (List ℕ)) → IsBindingFor holds job.binding bound
      → AllZip (IsImage holds) (earlier_of job) images
      → IsFolderFault holds job.folder.now fault → IsUnreadOf holds job fault

-- what is written of an answer: all bytes of the certificate to its file, and otherwise nothing
abbrev pub written_of : List ℕ → VerifyAnswer → List Written
written_of path (Certificate bytes) = (record { path = path; bytes = bytes.items }) ∷ []
written_of path (NoCertificate method fault) = []
written_of path (Refused fault) = []
written_of path Memory = []

-- why an answer isn't written: it has a certificate, whose file can't be written
abbrev pub IsUnwrittenOf : (List ℕ → Entry → Type 0) → List ℕ → VerifyAnswer → FileFault → Type 0
IsUnwrittenOf holds path (Certificate bytes) fault = IsFaultAt path (IsUnwritten (holds path) bytes.items) fault
IsUnwrittenOf holds path (NoCertificate method reason) fault = ⊥
IsUnwrittenOf holds path (Refused refusal) fault = ⊥
IsUnwrittenOf holds path Memory fault = ⊥

-- a certificate that is written has no more bytes than a file of one may have
abbrev pub IsShort : VerifyAnswer → Type 0
IsShort (Certificate bytes) = length bytes.items ≤ most_certificate
IsShort (NoCertificate method reason) = ⊤
IsShort (Refused refusal) = ⊤
IsShort Memory = ⊤

-- the answer to a job; everything that it has to write was written
pub record IsDone (holds : List ℕ → Entry → Type 0) (wrote : List Written → Type 0) (job : VerifyJob)
    (answer : VerifyAnswer) : Type 0 where
  pub answered : IsAnswerOf holds job answer
  pub written : wrote (written_of job.cert.now answer)
  pub short : IsShort answer

-- what may be overwritten: nothing is there, or an empty file, or a certificate
pub data IsReplaceable (holds : Entry → Type 0) : Type 0 where
  absent : (error : Error) → holds (failing error) → error_kind error ≡ NotFound → IsReplaceable holds
  empty : holds (file []) → IsReplaceable holds
  certificate : (bytes : List ℕ) (rows : List Row) → holds (file bytes) → SpellsCert bytes rows → IsReplaceable holds

-- a file that is neither empty nor a certificate
pub record IsOther (holds : Entry → Type 0) : Type 0 where
  pub bytes : List ℕ
  pub held : holds (file bytes)
  pub some : bytes ≢ []
  pub none : SpellsNone bytes

-- why something may not be overwritten: it is no regular file, or has too many bytes for a certificate, or is none; or
-- the system reports an error
abbrev pub IsInTheWay : (Entry → Type 0) → FileCause → Type 0
IsInTheWay holds (System error) = holds (failing error)
IsInTheWay holds NoFolder = ⊥
IsInTheWay holds NotRegular = IsIrregular holds
IsInTheWay holds (TooLong limit) = (limit ≡ most_certificate) × IsLonger holds most_certificate
IsInTheWay holds NotText = ⊥
IsInTheWay holds (NoBinding fault) = ⊥
IsInTheWay holds causes.NoCertificate = IsOther holds
IsInTheWay holds (LongCertificate limit) = ⊥

-- which file is at fault if there is no answer: one isn't read, and nothing was written, or the certificate's isn't
-- written
pub data IsUndone (holds : List ℕ → Entry → Type 0) (wrote : List Written → Type 0) (job : VerifyJob)
    (fault : FileFault) : Type 0 where
  unread : IsUnreadOf holds job fault → wrote [] → IsUndone holds wrote job fault
  unwritten : (answer : VerifyAnswer) → IsAnswerOf holds job answer → IsUnwrittenOf holds job.cert.now answer fault
      → IsUndone holds wrote job fault
