-- How a script ended, by what is told in place of what its source knows.
use Rattle.std.proofs.Common.{◌≡◌, ℕ, List, Option, refl}
use Rattle.std.specs.Prelude.{⊤}
use Rattle.jc_api.specs.Bound.{Bound}
use Rattle.jc_machine.specs.declared.limits.Limits.{Limits}
use Rattle.jc_source.specs.Source.{Asked}
use Rattle.jc_run.proofs.Laws.{run_as as run_known}
use Rattle.jc_run.specs.Performs.{HasRun}
use Rattle.jc_run.specs.Play.{BadLimits, BadLine, NoMemory, NotRead, NotWritten, Over, ScriptEnd, SourceFailed}
use Rattle.jc_run.specs.Reports.{Report}
use Rattle.jc_host.specs.FileSource.{IsFaultOf, IsSourceFault, IsToldOfSome}
use Rattle.jc_host.specs.Files.{Entry}
use Rattle.jcard.specs.Play.{IsTold, told_causes}
use Rattle.jcard.specs.PrivatePlay.{IsToldAt}
use Rattle.jcard.specs.declared.play.PlayFault.{PlayFault}
use Rattle.jcard.specs.declared.play.PlayFault.TheVariants.{File, Load, Memory, Script as OfScript}

-- what is known of the source's last failed read is told
told_failing : (end : ScriptEnd) (failed_at told_at : Asked → Type 0) → IsToldAt end failed_at told_at → (number : ℕ)
    → end ≡ SourceFailed number → (asked : Asked) → failed_at asked → told_at asked
told_failing Over failed_at told_at told number is asked h = absurd cc
told_failing (BadLine at fault) failed_at told_at told number is asked h = absurd cc
told_failing (SourceFailed at) failed_at told_at told number is asked h = told asked h
told_failing NotRead failed_at told_at told number is asked h = absurd cc
told_failing NotWritten failed_at told_at told number is asked h = absurd cc
told_failing NoMemory failed_at told_at told number is asked h = absurd cc
told_failing BadLimits failed_at told_at told number is asked h = absurd cc

-- what is known of the source at the end is told
pub run_as : (images certificates : List ℕ → List ℕ → Type 0) (failed_at told_at : Asked → Type 0)
    {short : ℕ} {unread unread_later unwritten : Type 0} {told : List Report → Type 0} {limits : Limits}
    {binding : Bound} {script before : List ℕ} {now : Option (List ℕ)} {end : ScriptEnd}
    → IsToldAt end failed_at told_at → (unread → unread_later)
    → HasRun images certificates
    (record { failed_at = failed_at; short = short; unread = unread; unwritten = unwritten }) told limits binding
    script before now end
    → HasRun images certificates (told_causes told_at unread_later unwritten) told limits binding script before now end
run_as images certificates failed_at told_at {short = short} {unread = unread} {unread_later = unread_later}
    {unwritten = unwritten} {told = told} {end = end} known lead r =
    run_known images certificates
    (record { failed_at = failed_at; short = short; unread = unread; unwritten = unwritten })
    (told_causes told_at unread_later unwritten) told told (record {
      failing = told_failing end failed_at told_at known;
      short = λ one. refl;
      unread = lead;
      unwritten = λ why. why;
      telling = λ reports t. t;
    }) r

-- less is known of a reader that isn't there any more
pub runs_unread : (images certificates : List ℕ → List ℕ → Type 0) (failed_at : Asked → Type 0)
    {unread unwritten : Type 0} {told : List Report → Type 0} {limits : Limits} {binding : Bound}
    {script before : List ℕ} {now : Option (List ℕ)} {end : ScriptEnd}
    → HasRun images certificates (told_causes failed_at unread unwritten) told limits binding script before now end
    → HasRun images certificates (told_causes failed_at ⊤ unwritten) told limits binding script before now end
runs_unread images certificates failed_at {unread = unread} {unwritten = unwritten} {told = told} r =
    run_known images certificates (told_causes failed_at unread unwritten) (told_causes failed_at ⊤ unwritten) told
    told (record {
      failing = λ number is asked h. h;
      short = λ one. refl;
      unread = λ why. tt;
      unwritten = λ why. why;
      telling = λ reports t. t;
    }) r

-- what is told of some file is a fault of a source
pub told_of_source : (holds : List ℕ → Entry → Type 0) (fault : PlayFault)
    → IsTold (IsToldOfSome (IsFaultOf holds)) fault → IsTold (IsSourceFault holds) fault
told_of_source holds (File fault) h = h
told_of_source holds (Load number fault) h = record { asked = h.asked; is = h.told }
told_of_source holds (OfScript fault) h = h
told_of_source holds Memory h = h
