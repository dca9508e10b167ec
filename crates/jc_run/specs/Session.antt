-- A session: lines that are answered one by one on the card of the defensive machine; it goes on after a refused line.
use Rattle.std.specs.Prelude.{◌≡◌, ◌+◌, ℕ, suc, false, true, List, [], ◌∷◌, ◌++◌, length, Option, Some, nat_lt}
use Rattle.std.specs.Prelude.{if◌then◌else◌}
use Rattle.jc_api.specs.Bound.{Bound}
use Rattle.jc_card.specs.Accesses.{IsApartCard}
use Rattle.jc_card.specs.Card.{CardState}
use Rattle.jc_card.specs.Load.{IsLoad}
use Rattle.jc_card.specs.New.{new_card}
use Rattle.jc_interp.specs.declared.shown.ShownFrame.{ShownFrame}
use Rattle.jc_machine.specs.Limits.{are_limits}
use Rattle.jc_machine.specs.declared.limits.Limits.{Limits}
use Rattle.jc_machine.specs.Machine.{Touch}
use Rattle.jc_run.specs.Answer.{Answered}
use Rattle.jc_run.specs.EndCauses.{SessionCauses}
use Rattle.jc_run.specs.Loading.{LoadRule, Loading, exactly, loading_by}
use Rattle.jc_run.specs.Play.{BadLimits, IsAnswered, IsPart, NoMemory, NotRead, NotWritten, Over, ScriptEnd}
use Rattle.jc_run.specs.Play.{answer_line}
use Rattle.jc_run.specs.CardRun.{IsCardRun}
use Rattle.jc_run.specs.Reports.{AnsweredLine, RefusedLine, Report, failures_told, shortages_told}
use Rattle.jc_run.specs.Runs.{IsSafeCard, answer_lines}
use Rattle.jc_run.specs.declared.refusal.LineRefusal.TheVariants as refusals
use Rattle.jc_script.specs.Faults.{fault_at, fault_in}
use Rattle.jc_script.specs.Script.{Asks, Bad, Load, ScriptCommand, Skipped, lines_of, most_in_line, session_line}
use Rattle.jc_script.specs.declared.fault.LineCause.TheVariants.{TooLong}
use Rattle.jc_script.specs.declared.fault.LineFault.{LineFault}
use Rattle.jc_script.specs.declared.finding.Dialect.TheVariants as dialects
use Rattle.jc_source.specs.declared.source.SourceFault.{SourceFault}

-- the fault of a session's line that is no command: it is too long, or has a first fault
abbrev pub session_fault : List ℕ → LineFault
session_fault line =
    if nat_lt most_in_line (length line) then fault_at TooLong (most_in_line + 1) else fault_in dialects.Session line

-- these commands of lines, of which the first has a number, were answered, in order; these are their answers, and these
-- reports were told: of each answered line, and of each refused one. The lines at the end are left; the first of them
-- has the second number. A line is skipped, or refused if it is none, or if it is a load and a file can't be read, or
-- memory runs out for it
pub data AreAnswered
    : ℕ → List (List ℕ) → List ScriptCommand → List Answered → List Report → ℕ → List (List ℕ) → Type 0 where
  none : (number : ℕ) (lines : List (List ℕ)) → AreAnswered number lines [] [] [] number lines
  answered : (number last : ℕ) (first : List ℕ) (lines left : List (List ℕ)) (command : ScriptCommand)
      (commands : List ScriptCommand) (answer : Answered) (answers : List Answered)
      (stopped : Option ShownFrame) (reports : List Report) → session_line first ≡ Asks command
      → AreAnswered (suc number) lines commands answers reports last left
      → AreAnswered number (first ∷ lines) (command ∷ commands) (answer ∷ answers)
      (AnsweredLine number answer stopped ∷ reports) last left
  skipped : (number last : ℕ) (first : List ℕ) (lines left : List (List ℕ)) (commands : List ScriptCommand)
      (answers : List Answered) (reports : List Report) → session_line first ≡ Skipped
      → AreAnswered (suc number) lines commands answers reports last left
      → AreAnswered number (first ∷ lines) commands answers reports last left
  bad : (number last : ℕ) (first : List ℕ) (lines left : List (List ℕ)) (commands : List ScriptCommand)
      (answers : List Answered) (reports : List Report) → session_line first ≡ Bad
      → AreAnswered (suc number) lines commands answers reports last left
      → AreAnswered number (first ∷ lines) commands answers
      (RefusedLine number (refusals.Bad (session_fault first)) ∷ reports) last left
  unloaded : (number last : ℕ) (first : List ℕ) (lines left : List (List ℕ)) (commands : List ScriptCommand)
      (answers : List Answered) (reports : List Report) (folder certificate : List ℕ) (why : SourceFault)
      → session_line first ≡ Asks (Load folder certificate)
      → AreAnswered (suc number) lines commands answers reports last left
      → AreAnswered number (first ∷ lines) commands answers (RefusedLine number (refusals.Unread why) ∷ reports) last
      left

-- the end of a session, on the card after the commands that were answered: which lines are left, the first with a
-- number; what is written after the answers, and the end. No line is left; or none can be read; or a part of the next
-- command's answer is written
pub data SessionEndsWith (loading : Loading) (causes : SessionCauses) (c : CardState)
    : ℕ → List (List ℕ) → List ℕ → ScriptEnd → Type 0 where
  over : (number : ℕ) → SessionEndsWith loading causes c number [] [] Over
  unread : (number : ℕ) (left : List (List ℕ)) → causes.unread number
      → SessionEndsWith loading causes c number left [] NotRead
  unwritten : (number : ℕ) (next : List ℕ) (left : List (List ℕ)) (command : ScriptCommand) (part : List ℕ)
      (answer : Answered) (after : CardState) → causes.unwritten → session_line next ≡ Asks command
      → IsAnswered loading c command answer after → IsPart part (answer_line answer)
      → SessionEndsWith loading causes c number (next ∷ left) part NotWritten

-- how many reads of a source failed, and for how many memory ran out, before a session and after it
pub record FaultCount : Type 0 where
  pub failed : ℕ
  pub short : ℕ
  pub failed_after : ℕ
  pub short_after : ℕ

abbrev pub fault_count : (failed short failed_after short_after : ℕ) → FaultCount
fault_count failed short failed_after short_after =
    record { failed = failed; short = short; failed_after = failed_after; short_after = short_after }

-- as many as the refusals among these reports name
pub record AreCounted (faults : FaultCount) (reports : List Report) : Type 0 where
  pub failures : faults.failed_after ≡ faults.failed + failures_told reports
  pub shortages : faults.short_after ≡ faults.short + shortages_told reports

-- lines on a card: the commands that were answered are a run of the card, up to an end. Their answers are what is
-- written, each answer in a line of its own, and what the teller gets, beside the refused lines. The source counted the
-- faults for which loads were refused
pub record IsHeld (loading : Loading) (causes : SessionCauses) (faults : FaultCount)
    (told : List Report → Type 0) (lines : List (List ℕ)) (c : CardState) (written : List ℕ) (end : ScriptEnd)
    : Type 0 where
  pub done : List ScriptCommand
  pub answers : List Answered
  pub reports : List Report
  pub last : ℕ
  pub left : List (List ℕ)
  pub in_order : AreAnswered 1 lines done answers reports last left
  pub counted : AreCounted faults reports
  pub were_told : told reports
  pub touches : List Touch
  pub ran : List ℕ
  pub card : CardState
  pub run : IsCardRun loading done c answers touches ran card
  pub part : List ℕ
  pub written_is : written ≡ answer_lines answers ++ part
  pub ends : SessionEndsWith loading causes card last left part end

-- a session on a new card, which is made first: its limits are bad, or memory runs out for it, and no line is answered,
-- and nothing is told
pub data SessionRunsTo (loading : Loading) (causes : SessionCauses) (faults : FaultCount)
    (told : List Report → Type 0) (limits : Limits) (binding : Bound) (input : List ℕ) : List ℕ → ScriptEnd → Type 0
  where
    unfit : are_limits limits ≡ false → told []
        → SessionRunsTo loading causes faults told limits binding input [] BadLimits
    no_card : are_limits limits ≡ true → told []
        → SessionRunsTo loading causes faults told limits binding input [] NoMemory
    held : (written : List ℕ) (end : ScriptEnd) → are_limits limits ≡ true
        → IsHeld loading causes faults told (lines_of input) (new_card limits binding) written end
        → SessionRunsTo loading causes faults told limits binding input written end

-- the theorem, as for scripts. The responses are those of the defensive machine on a new card, without the refused
-- lines
pub record IsSafeSession (rule : LoadRule) (apart : CardState → Type 0)
    (images certificates : List ℕ → List ℕ → Type 0) (causes : SessionCauses) (faults : FaultCount)
    (told : List Report → Type 0) (limits : Limits) (binding : Bound) (input written : List ℕ) (end : ScriptEnd)
    : Type 0 where
  pub responses : SessionRunsTo (loading_by rule images certificates) causes faults told limits binding input written
      end
  pub card : IsSafeCard rule apart limits binding

pub record IsExactSession (images certificates : List ℕ → List ℕ → Type 0) (causes : SessionCauses)
    (faults : FaultCount) (told : List Report → Type 0) (limits : Limits) (binding : Bound)
    (input written : List ℕ) (end : ScriptEnd) : Type 0 where
  pub responses : SessionRunsTo (exactly images certificates) causes faults told limits binding input written end

pub record IsSessionSimulated (images certificates : List ℕ → List ℕ → Type 0) (causes : SessionCauses)
    (faults : FaultCount) (told : List Report → Type 0) (limits : Limits) (binding : Bound)
    (input written : List ℕ) (end : ScriptEnd) : Type 0 where
  pub safe : IsSafeSession IsLoad IsApartCard images certificates causes faults told limits binding input written end
  pub exact : IsExactSession images certificates causes faults told limits binding input written end

-- what was appended to the output, what the teller got, and the end, are those of the session on a new card: the
-- theorem holds for it
pub record HasHeld (images certificates : List ℕ → List ℕ → Type 0) (causes : SessionCauses) (faults : FaultCount)
    (told : List Report → Type 0) (limits : Limits) (binding : Bound) (input before : List ℕ)
    (now : Option (List ℕ)) (end : ScriptEnd) : Type 0 where
  pub written : List ℕ
  pub simulated : IsSessionSimulated images certificates causes faults told limits binding input written end
  pub now_is : now ≡ Some (before ++ written)

-- the same for a session on an existing card
pub record ConversesOn (images certificates : List ℕ → List ℕ → Type 0) (causes : SessionCauses) (faults : FaultCount)
    (told : List Report → Type 0) (bytes : List ℕ) (c : CardState) (before : List ℕ) (now : Option (List ℕ))
    (end : ScriptEnd) : Type 0 where
  pub written : List ℕ
  pub held : IsHeld (exactly images certificates) causes faults told (lines_of bytes) c written end
  pub now_is : now ≡ Some (before ++ written)
