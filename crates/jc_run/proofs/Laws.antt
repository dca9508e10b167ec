-- What holds of a script on a new card, if less is known of its reads and of what its teller got.
use Rattle.std.proofs.Common.{◌≡◌, ℕ, List, Option, refl}
use Rattle.jc_api.specs.Bound.{Bound}
use Rattle.jc_card.specs.Card.{CardState}
use Rattle.jc_card.specs.Load.{IsLoad}
use Rattle.jc_machine.specs.declared.limits.Limits.{Limits}
use Rattle.jc_source.specs.Source.{Asked}
use Rattle.jc_run.specs.Performs.{HasRun}
use Rattle.jc_run.specs.Play.{IsFailing, ScriptEnd, SourceFailed}
use Rattle.jc_run.specs.Play.IsFailing.{certificate as of_certificate, image as of_image}
use Rattle.jc_run.specs.EndCauses.{EndCauses}
use Rattle.jc_run.specs.Loading.{Loading, exactly, loading_by}
use Rattle.jc_run.specs.Reports.{Report}
use Rattle.jc_run.specs.Runs.{EndsWith, IsPlayed, IsSimulated, RunsTo}
use Rattle.jc_run.specs.Runs.EndsWith.{bad_line, memory, over, source, unread, unwritten}
use Rattle.jc_run.specs.Runs.RunsTo.{no_card, played, unfit}
use Rattle.jc_script.specs.Whole.{FaultyLine, Numbered, Script}

-- what is known of reads and of reports leads to what else is said of them, at this end of a script
pub record LeadTo (causes said : EndCauses) (told later : List Report → Type 0) (end : ScriptEnd) : Type 0 where
  pub failing : (number : ℕ) → end ≡ SourceFailed number → (asked : Asked) → causes.failed_at asked
      → said.failed_at asked
  pub short : causes.short ≡ 1 → said.short ≡ 1
  pub unread : causes.unread → said.unread
  pub unwritten : causes.unwritten → said.unwritten
  pub telling : (reports : List Report) → told reports → later reports

module _ (loading : Loading) (causes said : EndCauses)
    (told later : List Report → Type 0) where
  failing_as : {folder name : List ℕ} → ((asked : Asked) → causes.failed_at asked → said.failed_at asked)
      → IsFailing causes.failed_at folder name → IsFailing said.failed_at folder name
  failing_as lead (of_image h) = of_image (lead _ h)
  failing_as lead (of_certificate h) = of_certificate (lead _ h)

  ends_as : {c : CardState} {bad : Option FaultyLine} {left : List Numbered} {part : List ℕ} {end : ScriptEnd}
      → LeadTo causes said told later end → EndsWith loading causes c bad left part end
      → EndsWith loading said c bad left part end
  ends_as lead (over none) = over none
  ends_as lead (bad_line at is) = bad_line at is
  ends_as lead (source next left folder name is fails) =
      source next left folder name is (failing_as (lead.failing next.number refl) fails)
  ends_as lead (memory next left folder name is short) = memory next left folder name is (lead.short short)
  ends_as lead (unread left why) = unread left (lead.unread why)
  ends_as lead (unwritten next left part answer after why answered is) =
      unwritten next left part answer after (lead.unwritten why) answered is

  played_as : {script : Script} {c : CardState} {written : List ℕ} {end : ScriptEnd}
      → LeadTo causes said told later end → IsPlayed loading causes told script c written end
      → IsPlayed loading said later script c written end
  played_as lead p = record {
    done = p.done;
    left = p.left;
    in_order = p.in_order;
    answers = p.answers;
    touches = p.touches;
    ran = p.ran;
    card = p.card;
    run = p.run;
    part = p.part;
    lines = p.lines;
    reports = p.reports;
    reported = p.reported;
    were_told = lead.telling p.reports p.were_told;
    ends = ends_as lead p.ends;
  }

  runs_as : {limits : Limits} {binding : Bound} {script written : List ℕ} {end : ScriptEnd}
      → LeadTo causes said told later end → RunsTo loading causes told limits binding script written end
      → RunsTo loading said later limits binding script written end
  runs_as lead (unfit too_far silent) = unfit too_far (lead.telling _ silent)
  runs_as lead (no_card fit silent) = no_card fit (lead.telling _ silent)
  runs_as lead (played written end fit p) = played written end fit (played_as lead p)

module _ (images certificates : List ℕ → List ℕ → Type 0) (causes said : EndCauses)
    (told later : List Report → Type 0) where
  pub simulated_as : {limits : Limits} {binding : Bound} {script written : List ℕ} {end : ScriptEnd}
      → LeadTo causes said told later end
      → IsSimulated images certificates causes told limits binding script written end
      → IsSimulated images certificates said later limits binding script written end
  simulated_as lead s = record {
    safe = record {
      responses = runs_as (loading_by IsLoad images certificates) causes said told later lead s.safe.responses;
      card = s.safe.card;
    };
    exact = record {
      responses = runs_as (exactly images certificates) causes said told later lead s.exact.responses;
    };
  }

  pub run_as : {limits : Limits} {binding : Bound} {script before : List ℕ} {now : Option (List ℕ)} {end : ScriptEnd}
      → LeadTo causes said told later end
      → HasRun images certificates causes told limits binding script before now end
      → HasRun images certificates said later limits binding script before now end
  run_as lead r =
      record { written = r.written; simulated = simulated_as lead r.simulated; now_is = r.now_is }
