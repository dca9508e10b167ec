-- What comes of a job, by its steps.
use Rattle.std.proofs.Common.{subst, sym, ℕ, true, List, [], inl, inr}
use Rattle.std.proofs.lemmas.List.{append-nil}
use Rattle.std.specs.List.{AllZip}
use Rattle.jc_api.specs.Bound.{Bound}
use Rattle.jc_host.specs.Binding.{IsBindingFor}
use Rattle.jc_host.specs.Files.{Entry, IsFaultAt, IsWritten, OfFile, WritesAlone, Written, file}
use Rattle.jc_host.specs.Folders.{FailsFirst, IsFolderFault, IsImage}
use Rattle.jc_host.specs.PrivateVerify.{MayBeLost}
use Rattle.jc_host.specs.Saying.{IsSaidOfFiles, IsSaidOfJob, IsSaidOfWork}
use Rattle.jc_host.specs.Saying.IsSaidOfJob.{kept, no_memory}
use Rattle.jc_host.specs.Saying.IsSaidOfWork.{memory, undone}
use Rattle.jc_host.specs.Verify.{IsInTheWay, IsReplaceable, IsUndone, IsUnreadOf, earlier_of}
use Rattle.jc_host.specs.Verify.IsReplaceable.{certificate, empty}
use Rattle.jc_host.specs.Verify.IsUndone.{unread}
use Rattle.jc_host.specs.Verify.IsUnreadOf.{earlier, last}
use Rattle.jc_host.specs.declared.files.ReadFault.{ReadFault}
use Rattle.jc_host.specs.declared.files.ReadFault.TheVariants.{File, Memory}
use Rattle.jc_host.specs.declared.job.VerifyJob.{VerifyJob}
use Rattle.jc_host.specs.declared.saying.Said.{Said}
use Rattle.jc_host.proofs.Reading.{of_file}

-- nothing is written where nothing is done
pub none_written : (has : List Written → Type 0) → IsWritten has has []
none_written has before h = subst has (sym (append-nil before)) h

pub none_beside : (has : List Written → Type 0) (path : List ℕ) → WritesAlone has has path
none_beside has path before h = record { files = []; alone = tt; wrote = none_written has before h }

-- one of the earlier folders is at fault
pub earlier_unread : (holds : List ℕ → Entry → Type 0) (job : VerifyJob) (bound : Bound) (fault : ReadFault)
    → IsBindingFor holds job.binding bound
    → OfFile (FailsFirst (IsImage holds) (IsFolderFault holds) (earlier_of job)) fault
    → OfFile (IsUnreadOf holds job) fault
earlier_unread holds job bound fault is =
    of_file (FailsFirst (IsImage holds) (IsFolderFault holds) (earlier_of job)) (IsUnreadOf holds job) fault
    (λ f told. earlier bound is told)

-- the package's folder is at fault
pub last_unread : (holds : List ℕ → Entry → Type 0) (job : VerifyJob) (bound : Bound) (images : List (List ℕ))
    (fault : ReadFault) → IsBindingFor holds job.binding bound
    → AllZip (IsImage holds) (earlier_of job) images → OfFile (IsFolderFault holds job.folder.now) fault
    → OfFile (IsUnreadOf holds job) fault
last_unread holds job bound images fault is read =
    of_file (IsFolderFault holds job.folder.now) (IsUnreadOf holds job) fault (λ f told. last bound images is read told)

-- a file isn't read, and nothing is written
pub unread_undone : (holds : List ℕ → Entry → Type 0) (has : List Written → Type 0) (job : VerifyJob)
    (fault : ReadFault) → OfFile (IsUnreadOf holds job) fault
    → OfFile (IsUndone holds (IsWritten has has) job) fault
unread_undone holds has job fault =
    of_file (IsUnreadOf holds job) (IsUndone holds (IsWritten has has) job) fault
    (λ f told. unread told (none_written has))

-- what is said where a job isn't done
pub said_undone : (holds : List ℕ → Entry → Type 0) (wrote : List Written → Type 0) (job : VerifyJob) (said : Said)
    (fault : ReadFault) → OfFile (IsUndone holds wrote job) fault
    → IsSaidOfFiles fault said → IsSaidOfWork holds wrote job said
said_undone holds wrote job said (File fault) told says = undone fault told says
said_undone holds wrote job said Memory told says = memory says

-- what is said where something else is under the certificate's name
pub said_kept : (holds : List ℕ → Entry → Type 0) (has : List Written → Type 0) (job : VerifyJob) (said : Said)
    (fault : ReadFault) → OfFile (IsFaultAt job.cert.now (IsInTheWay (holds job.cert.now))) fault
    → IsSaidOfFiles fault said → IsSaidOfJob holds (IsWritten has has) job said
said_kept holds has job said (File fault) told says = kept fault told (none_written has) says
said_kept holds has job said Memory told says = no_memory (none_written has) says

-- a file may be written over whose bytes may be lost
pub replaceable : (holds : Entry → Type 0) (bytes : List ℕ) → holds (file bytes) → MayBeLost bytes true
    → IsReplaceable holds
replaceable holds bytes held (inl none) = empty (subst (λ (bs : List ℕ). holds (file bs)) none held)
replaceable holds bytes held (inr spelled) = certificate bytes spelled.rows held spelled.spells
