-- The results of `run` and `session`: the binding, the limits and the script, what is written, and the end.
use Rattle.std.specs.Prelude.{⊤, ◌≡◌, ◌⊎◌, ◌∷◌, [], ℕ, List, Option, Some, Result, Err, IfErr}
use Rattle.jc_api.specs.Bound.{Bound}
use Rattle.jc_machine.specs.declared.limits.Limits.{Limits}
use Rattle.jc_run.specs.Performs.{HasRun}
use Rattle.jc_run.specs.Reports.{Report}
use Rattle.jc_host.specs.Binding.{IsBindingFault, IsBindingFor}
use Rattle.jc_host.specs.Files.{Entry, IsFaultAt}
use Rattle.jc_host.specs.FileSource.{HoldsCertificate, IsFaultOf, IsSourceFault}
use Rattle.jc_host.specs.Folders.{IsImage}
use Rattle.jcard.specs.Play.{HoldsLines, IsTold, IsToldOfSession, end_of_play, fault_of_end, told_causes}
use Rattle.jc_host.specs.Scripts.{IsUnopened, Opening}
use Rattle.jc_host.specs.Scripts.Opening.{readable}
use Rattle.jc_host.specs.declared.files.FileFault.{FileFault}
use Rattle.jc_host.specs.declared.job.CardJob.{CardJob}
use Rattle.jc_host.specs.declared.job.RunJob.{RunJob}
use Rattle.jcard.specs.declared.play.PlayFault.{PlayFault}
use Rattle.jcard.specs.declared.play.PlayFault.TheVariants.{File, Memory}

-- the end of a play: normal, or this fault
abbrev pub Played : Type 0
Played = Result (Unit {0}) PlayFault

-- ---- a script

-- what was appended to the output, and the end, are those of a script on a new card with these limits and this binding.
-- Nothing is said of why its lines can't be read
abbrev pub ScriptComesTo : (List ℕ → Entry → Type 0) → (unwritable : Type 0) → (told : List Report → Type 0) → Limits
    → Bound → (bytes before : List ℕ) → Option (List ℕ) → Played → Type 0
ScriptComesTo holds unwritable told limits binding bytes before now result =
    HasRun (IsImage holds) (HoldsCertificate holds)
    (told_causes (fault_of_end (IsFaultOf holds) result) ⊤ unwritable) told limits binding bytes before now
    (end_of_play result)

-- the binding that the job names was read, the script that it names was opened, and it was played with its limits. Its
-- result is known if its bytes, and the output before, are
pub record PlaysJob (holds : List ℕ → Entry → Type 0) (tells : List ℕ → Opening → Type 0) (unwritable : Type 0)
    (told_lines : List Report → Type 0) (job : RunJob) (before now : Option (List ℕ)) (result : Played) : Type 0 where
  pub binding : Bound
  pub bound : IsBindingFor holds job.card.binding binding
  pub content : Option (List ℕ)
  pub opened : tells job.script.now (readable content)
  pub runs : (bytes earlier : List ℕ) → content ≡ Some bytes → before ≡ Some earlier
      → ScriptComesTo holds unwritable told_lines job.card.limits binding bytes earlier now result
  pub told : IfErr result (IsTold (IsSourceFault holds))

-- the binding that the job names was read, and then the script that it names can't be opened
pub record FailsToOpen (holds : List ℕ → Entry → Type 0) (tells : List ℕ → Opening → Type 0) (job : RunJob)
    (fault : FileFault) : Type 0 where
  pub binding : Bound
  pub bound : IsBindingFor holds job.card.binding binding
  pub faulty : IsFaultAt job.script.now (IsUnopened (tells job.script.now)) fault

-- the result of a job of `run`, for a writer with these contents, which may have become unwritable. The scripts that
-- were to be opened are listed by their paths; these reports were told of the script's lines
pub data ComesOfRun {W : Type 0} (holds : List ℕ → Entry → Type 0) (tells : List ℕ → Opening → Type 0)
    (asked : List (List ℕ) → Type 0) (told : List Report → Type 0) (contents : W → Option (List ℕ))
    (unwritable : Type 0) (old new : W) (job : RunJob) : Played → Type 0
  where
    -- the file of the binding is at fault: no script is opened, and nothing is written or told
    unbound : (fault : FileFault) → IsBindingFault holds job.card.binding fault → asked [] → told [] → new ≡ old
        → ComesOfRun holds tells asked told contents unwritable old new job (Err (File fault))
    -- the file of the script is at fault: nothing is written or told
    unopened : (fault : FileFault) → FailsToOpen holds tells job fault → asked (job.script.now ∷ []) → told []
        → new ≡ old
        → ComesOfRun holds tells asked told contents unwritable old new job (Err (File fault))
    -- memory runs out before the script is played: nothing is written or told
    memory : asked [] ⊎ asked (job.script.now ∷ []) → told [] → new ≡ old
        → ComesOfRun holds tells asked told contents unwritable old new job (Err Memory)
    -- the script is played
    played : (result : Played) → PlaysJob holds tells unwritable told job (contents old) (contents new) result
        → asked (job.script.now ∷ []) → ComesOfRun holds tells asked told contents unwritable old new job result

-- ---- a session

-- what was appended to the output, and the end, are those of the lines of a session on a new card with these limits and
-- this binding
abbrev pub SessionComesTo : (List ℕ → Entry → Type 0) → (unreadable unwritable : Type 0)
    → (told : List Report → Type 0) → Limits → Bound → (bytes before : List ℕ) → Option (List ℕ) → Played → Type 0
SessionComesTo holds unreadable unwritable told limits binding bytes before now result =
    HoldsLines (IsImage holds) (HoldsCertificate holds) unreadable unwritable told limits binding bytes before now
    (end_of_play result)

-- the binding that the job names was read, and the lines of a reader were answered with its limits. Their result is
-- known if their bytes, and the output before, are
pub record HoldsSession (holds : List ℕ → Entry → Type 0) (unreadable unwritable : Type 0)
    (told_lines : List Report → Type 0) (job : CardJob) (lines before now : Option (List ℕ))
    (result : Played) : Type 0 where
  pub binding : Bound
  pub bound : IsBindingFor holds job.binding binding
  pub held : (bytes earlier : List ℕ) → lines ≡ Some bytes → before ≡ Some earlier
      → SessionComesTo holds unreadable unwritable told_lines job.limits binding bytes earlier now result
  pub told : IfErr result IsToldOfSession

-- the result of a job of `session`, for a reader with these bytes left, which may have become unreadable, and a writer
-- with these contents, which may have become unwritable; these reports were told of its lines
pub data ComesOfSession {R W : Type 0} (holds : List ℕ → Entry → Type 0) (remaining : R → Option (List ℕ))
    (unreadable : Type 0) (from to : R) (told : List Report → Type 0) (contents : W → Option (List ℕ))
    (unwritable : Type 0) (old new : W) (job : CardJob) : Played → Type 0 where
  -- the file of the binding is at fault: nothing is read, written or told
  unbound : (fault : FileFault) → IsBindingFault holds job.binding fault → to ≡ from → told [] → new ≡ old
      → ComesOfSession holds remaining unreadable from to told contents unwritable old new job (Err (File fault))
  -- memory runs out before a line is read: nothing is read, written or told
  memory : to ≡ from → told [] → new ≡ old
      → ComesOfSession holds remaining unreadable from to told contents unwritable old new job (Err Memory)
  -- the session is held
  held : (result : Played)
      → HoldsSession holds unreadable unwritable told job (remaining from) (contents old) (contents new) result
      → ComesOfSession holds remaining unreadable from to told contents unwritable old new job result
