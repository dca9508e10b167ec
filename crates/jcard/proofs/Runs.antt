-- What comes of a job of `run` or `session`, by its steps.
use Rattle.std.proofs.Common.{◌∷◌, subst, sym, ℕ, List, [], inl, inr}
use Rattle.std.specs.Prelude.{Option, Err, refl}
use Rattle.std.proofs.lemmas.List.{append-nil}
use Rattle.jc_api.specs.Bound.{Bound}
use Rattle.jc_host.specs.Binding.{IsBindingFault, IsBindingFor}
use Rattle.jc_host.specs.Files.{Entry, IsFaultAt, OfFile}
use Rattle.jc_run.specs.Reports.{Report}
use Rattle.jcard.specs.Play.{told_of}
use Rattle.jcard.specs.Ran.{ComesOfRun, ComesOfSession}
use Rattle.jcard.specs.Ran.ComesOfRun.{memory, unbound, unopened}
use Rattle.jcard.specs.Ran.ComesOfSession.{memory as session_memory, unbound as session_unread}
use Rattle.jc_host.specs.Scripts.{AreAsked, IsUnopened, Opening}
use Rattle.jc_host.specs.declared.files.ReadFault.{ReadFault}
use Rattle.jc_host.specs.declared.files.ReadFault.TheVariants.{File, Memory}
use Rattle.jc_host.specs.declared.job.CardJob.{CardJob}
use Rattle.jc_host.specs.declared.job.RunJob.{RunJob}

-- no script is opened where none was to be
none_asked : (has : List (List ℕ) → Type 0) → AreAsked has has []
none_asked has before h = subst has (sym (append-nil before)) h

-- the binding of a script isn't read
pub run_unbound : {W : Type 0} (holds : List ℕ → Entry → Type 0) (tells : List ℕ → Opening → Type 0)
    (has : List (List ℕ) → Type 0) (told_lines : List Report → Type 0) (contents : W → Option (List ℕ))
    (unwritable : Type 0) (old : W) (job : RunJob) (fault : ReadFault)
    → told_lines [] → OfFile (IsBindingFault holds job.card.binding) fault
    → ComesOfRun holds tells (AreAsked has has) told_lines contents unwritable old old job (Err (told_of fault))
run_unbound holds tells has told_lines contents unwritable old job (File f) silent told =
    unbound f told (none_asked has) silent refl
run_unbound holds tells has told_lines contents unwritable old job Memory silent told =
    memory (inl (none_asked has)) silent refl

-- a script isn't opened
pub run_unopened : {W : Type 0} (holds : List ℕ → Entry → Type 0) (tells : List ℕ → Opening → Type 0)
    (asked : List (List ℕ) → Type 0) (told_lines : List Report → Type 0) (contents : W → Option (List ℕ))
    (unwritable : Type 0) (old : W) (job : RunJob) (bound : Bound) (fault : ReadFault)
    → told_lines [] → IsBindingFor holds job.card.binding bound
    → OfFile (IsFaultAt job.script.now (IsUnopened (tells job.script.now))) fault → asked (job.script.now ∷ [])
    → ComesOfRun holds tells asked told_lines contents unwritable old old job (Err (told_of fault))
run_unopened holds tells asked told_lines contents unwritable old job bound (File f) silent is told asks =
    unopened f (record { binding = bound; bound = is; faulty = told }) asks silent refl
run_unopened holds tells asked told_lines contents unwritable old job bound Memory silent is told asks =
    memory (inr asks) silent refl

-- the binding of a session isn't read
pub session_unbound : {R W : Type 0} (holds : List ℕ → Entry → Type 0) (remaining : R → Option (List ℕ))
    (unreadable : Type 0) (from : R) (told_lines : List Report → Type 0) (contents : W → Option (List ℕ))
    (unwritable : Type 0) (old : W) (job : CardJob) (fault : ReadFault)
    → told_lines [] → OfFile (IsBindingFault holds job.binding) fault
    → ComesOfSession holds remaining unreadable from from told_lines contents unwritable old old job
    (Err (told_of fault))
session_unbound holds remaining unreadable from told_lines contents unwritable old job (File f) silent told =
    session_unread f told refl silent refl
session_unbound holds remaining unreadable from told_lines contents unwritable old job Memory silent told =
    session_memory refl silent refl
