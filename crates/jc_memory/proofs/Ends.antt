-- How a script ended, by the contents of its source before it.
use Rattle.std.proofs.Common.{◌≡◌, ℕ, List, [], Option, Some, None, refl}
use Rattle.jc_api.specs.Bound.{Bound}
use Rattle.jc_machine.specs.declared.limits.Limits.{Limits}
use Rattle.jc_source.specs.Source.{Asked, Certificate, HoldSame, Image}
use Rattle.jc_run.proofs.Laws.{simulated_as}
use Rattle.jc_run.specs.Performs.{HasRun}
use Rattle.jc_run.specs.Play.{ScriptEnd}
use Rattle.jc_run.specs.Reports.{Report}
use Rattle.jc_run.specs.Runs.{IsSimulated}
use Rattle.jc_run.specs.EndCauses.{end_causes}
use Rattle.jc_memory.specs.Memory.{Holds, IsMissing, Stored, missing_causes, stored_under, unheard}

-- ---- what is missing

nothing_was : (before after : Option (List ℕ)) → ((bytes : List ℕ) → before ≡ Some bytes → after ≡ Some bytes)
    → after ≡ None → before ≡ None
nothing_was None after still none = refl
nothing_was (Some bytes) after still none =
    let now : after ≡ Some bytes = still bytes refl in
    absurd cc

missing_before : (images certificates images_after certificates_after : List Stored)
    → HoldSame (Holds images) (Holds images_after) → HoldSame (Holds certificates) (Holds certificates_after)
    → (asked : Asked) → IsMissing images_after certificates_after asked → IsMissing images certificates asked
missing_before images certificates images_after certificates_after same same_certificates (Image name) none =
    nothing_was (stored_under images name) (stored_under images_after name) (same.still name) none
missing_before images certificates images_after certificates_after same same_certificates (Certificate name) none =
    nothing_was (stored_under certificates name) (stored_under certificates_after name) (same_certificates.still name)
    none

-- ---- the end of a script

-- what was written to an empty writer is all that it holds
pub run_in_memory : (images certificates images_after certificates_after : List Stored) (unread unwritten : Type 0)
    (told : List Report → Type 0) (limits : Limits) (binding : Bound) (script written : List ℕ)
    (end : ScriptEnd) (before after : ℕ)
    → HoldSame (Holds images) (Holds images_after) → HoldSame (Holds certificates) (Holds certificates_after)
    → HasRun (Holds images) (Holds certificates)
    (end_causes (IsMissing images_after certificates_after) before after unread unwritten) told limits binding script []
    (Some written) end
    → IsSimulated (Holds images) (Holds certificates) (missing_causes images certificates) unheard limits binding script
    written end
run_in_memory images certificates images_after certificates_after unread unwritten told limits binding script written
    end before after same also r =
    let is : written ≡ r.written = cc in
    rw is (simulated_as (Holds images) (Holds certificates)
    (end_causes (IsMissing images_after certificates_after) before after unread unwritten)
    (missing_causes images certificates) told unheard (record {
      failing = λ number ends. missing_before images certificates images_after certificates_after same also;
      short = λ short. refl;
      unread = λ why. tt;
      unwritten = λ why. tt;
      telling = λ reports t. tt;
    }) r.simulated)
