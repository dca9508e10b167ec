-- Reports to a teller, besides the answers that are written.
use Rattle.std.specs.Prelude.{ℕ, ◌+◌, List, [], ◌∷◌, Option}
use Rattle.jc_interp.specs.declared.shown.ShownFrame.{ShownFrame}
use Rattle.jc_run.specs.Answer.{Answered}
use Rattle.jc_run.specs.declared.refusal.LineRefusal.{LineRefusal}
use Rattle.jc_run.specs.declared.refusal.LineRefusal.TheVariants.{Bad, Unread}
use Rattle.jc_script.specs.Whole.{Numbered}
use Rattle.jc_source.specs.Source.{failures_of, shortages_of}

-- the line with a number was answered, or refused. With an answer comes the frame in which a call stopped, if the card
-- has it
pub data Report : Type 0 where
  AnsweredLine : (number : ℕ) (answer : Answered) (stopped : Option ShownFrame) → Report
  RefusedLine : (number : ℕ) (refusal : LineRefusal) → Report

-- a teller gets these reports, one after the other; `tells` says what each one does to it
pub data AreTold {T : Type 0} (tells : T → Report → T → Type 0) : (before after : T) → List Report → Type 0 where
  none : (teller : T) → AreTold tells teller teller []
  more : (before between after : T) (report : Report) (reports : List Report) → tells before report between
      → AreTold tells between after reports → AreTold tells before after (report ∷ reports)

-- ---- the reports of a script

-- one for each answered line, in order, with its number and its answer. Which frames come with them is left open
pub data AreReported : List Numbered → List Answered → List Report → Type 0 where
  none : AreReported [] [] []
  more : (line : Numbered) (lines : List Numbered) (answer : Answered) (answers : List Answered)
      (stopped : Option ShownFrame) (reports : List Report) → AreReported lines answers reports
      → AreReported (line ∷ lines) (answer ∷ answers) (AnsweredLine line.number answer stopped ∷ reports)

-- ---- refused loads

-- how many reads of the source failed for a report, and for how many memory ran out
abbrev pub failures_by : Report → ℕ
failures_by (AnsweredLine number answer stopped) = 0
failures_by (RefusedLine number (Bad fault)) = 0
failures_by (RefusedLine number (Unread fault)) = failures_of fault

abbrev pub shortages_by : Report → ℕ
shortages_by (AnsweredLine number answer stopped) = 0
shortages_by (RefusedLine number (Bad fault)) = 0
shortages_by (RefusedLine number (Unread fault)) = shortages_of fault

abbrev pub failures_told : List Report → ℕ
failures_told [] = 0
failures_told (report ∷ reports) = failures_by report + failures_told reports

abbrev pub shortages_told : List Report → ℕ
shortages_told [] = 0
shortages_told (report ∷ reports) = shortages_by report + shortages_told reports
