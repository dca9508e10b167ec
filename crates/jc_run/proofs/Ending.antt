-- Lines that end a script, and commands that are done.
use Rattle.std.proofs.Common.{◌≡◌, ◌≤◌, ◌+◌, ◌-◌, ℕ, List, [], ◌∷◌, ◌++◌, length, Option, Some, Result, IfErr, false}
use Rattle.std.proofs.Common.{nat_lt, arith}
use Rattle.std.proofs.Common.{refl, sym, ap, ◌∙◌, append-nil, rules}
use Rattle.std.proofs.lemmas.Result.{err_from_is_err_and}
use Rattle.std.specs.Io.KnownBytes.{Appends}
use Rattle.std.specs.Prelude.{IsErrAnd}
use Rattle.jc_card.specs.Card.{CardState}
use Rattle.jc_card.specs.Reads.{CardWords, Holds}
use Rattle.jc_interp.specs.declared.shown.ShownFrame.{ShownFrame}
use Rattle.jc_source.specs.Source.{Asked}
use Rattle.jc_run.specs.Answer.{Answered}
use Rattle.jc_run.specs.Performs.{Answers, AsksSource, IsFailingOf}
use Rattle.jc_run.specs.Play.{BadLine, IsPart, NoMemory, NotRead, NotWritten, Over, ScriptEnd}
use Rattle.jc_run.specs.Play.{SourceFailed, answer_line}
use Rattle.jc_run.specs.EndCauses.{EndCauses}
use Rattle.jc_run.specs.Reports.{AnsweredLine, AreTold, Report}
use Rattle.jc_run.specs.Reports.AreTold.{more as told_one, none}
use Rattle.jc_run.specs.PrivatePlay.{AppendsPart, IsEnd, IsLineDone, IsLineEnd, IsTaken, IsUnread, Plays}
use Rattle.jc_run.specs.PrivatePlay.{PlaysFrom}
use Rattle.jc_run.specs.PrivatePlay.EndsAt.{bad, memory, source, unwritten}
use Rattle.jc_run.specs.PrivatePlay.Plays.{ended, over, unread}
use Rattle.jc_script.specs.Reading.{BeginsBad}
use Rattle.jc_script.specs.Script.{Apdu, Asks, Bad, Cells, Install, Load, Objects, Reset, ScriptCommand, ScriptLine}
use Rattle.jc_script.specs.Script.{Skipped, Steps}
use Rattle.jc_script.specs.Script.{is_unread, line_at, lines_of, most_in_line, most_lines, said_by}
use Rattle.jc_script.specs.Faults.{fault_in}
use Rattle.jc_script.specs.Whole.{unread_fault}
use Rattle.jc_script.specs.declared.fault.LineFault.{LineFault}
use Rattle.jc_script.specs.declared.finding.Dialect.TheVariants as dialects

-- ---- what is known to be written

pub none_more : {now : Option (List ℕ)} {before : List ℕ} → now ≡ Some before → now ≡ Some (before ++ [])
none_more {before = before} is = is ∙ ap (λ (bs : List ℕ). Some bs) (sym (append-nil before))

grown_known : (before : List ℕ) (now : Option (List ℕ)) (bytes : List ℕ) → Appends (Some before) now bytes
    → now ≡ Some (before ++ bytes)
grown_known before now bytes h1 = grind arith

pub grown : (old now : Option (List ℕ)) (before bytes : List ℕ) → old ≡ Some before → Appends old now bytes
    → now ≡ Some (before ++ bytes)
grown old now before bytes is h = grown_known before now bytes (rw is at h)

record IsParted (before whole : List ℕ) (now : Option (List ℕ)) : Type 0 where
  bytes : List ℕ
  part : IsPart bytes whole
  now_is : now ≡ Some (before ++ bytes)

parted_known : (before : List ℕ) (now : Option (List ℕ)) (whole : List ℕ) → AppendsPart (Some before) now whole
    → IsParted before whole now
parted_known before now whole h1 = grind arith

parted : (old now : Option (List ℕ)) (before whole : List ℕ) → old ≡ Some before → AppendsPart old now whole
    → IsParted before whole now
parted old now before whole is h = parted_known before now whole (rw is at h)

-- ---- commands

pub one_short : (old new : ℕ) → new ≡ old + 1 → new - old ≡ 1
one_short old new h = omega (arith, h)

pub one_told : {T : Type 0} {tells : T → Report → T → Type 0} {before after : T} (report : Report)
    → tells before report after → AreTold tells before after (report ∷ [])
one_told {before = before} {after = after} report told = told_one before after after report [] told (none after)

-- no report is told to a teller that stays as it is
pub none_told : {T : Type 0} {tells : T → Report → T → Type 0} {before after : T} → after ≡ before
    → AreTold tells before after []
none_told {before = before} same = rw same (none before)

unfoldable pub command_done : (images certificates : List ℕ → List ℕ → Type 0) (told : List Report → Type 0)
    (c : CardState) (number : ℕ) (command : ScriptCommand) (answer : Answered) (after : CardWords)
    (old now : Option (List ℕ)) (before : List ℕ) (stopped : Option ShownFrame)
    → told (AnsweredLine number answer stopped ∷ []) → Answers images certificates c command answer after
    → old ≡ Some before → Appends old now (answer_line answer)
    → IsLineDone images certificates told c number (Asks command) after before now
command_done images certificates told c number command answer after old now before stopped t a is h = record {
  reports = AnsweredLine number answer stopped ∷ [];
  were_told = t;
  card = a.card;
  written = answer_line answer;
  played = record {
    answer = answer;
    answered = a.answered;
    written_is = refl;
    stopped = stopped;
    reports_are = refl;
  };
  holds = a.holds;
  now_is = grown old now before _ is h;
}

-- a skipped line
unfoldable pub nothing_done : (images certificates : List ℕ → List ℕ → Type 0) (told : List Report → Type 0)
    (c : CardState) (number : ℕ) (said : ScriptLine) (after : CardWords) (before : List ℕ) (now : Option (List ℕ))
    → told [] → Skipped ≡ said → Holds after c → now ≡ Some before
    → IsLineDone images certificates told c number said after before now
nothing_done images certificates told c number said after before now t is holds known = record {
  reports = [];
  were_told = t;
  card = c;
  written = [];
  played = rw (← is) (refl, refl, refl);
  holds = holds;
  now_is = none_more known;
}

module _ (images certificates : List ℕ → List ℕ → Type 0) (failed_at : Asked → Type 0) (short : ℕ)
    (unwritable : Type 0) (c : CardState) (number : ℕ) (told : LineFault) where
  pub source_end : (command : ScriptCommand) (before : List ℕ) (now : Option (List ℕ))
      → IsFailingOf failed_at command → now ≡ Some before
      → IsLineEnd images certificates failed_at short unwritable c number told (Asks command) before now
      (SourceFailed number)
  source_end (Load folder certificate) before now failing is =
      record { written = []; ends = source folder certificate failing; now_is = none_more is }
  source_end (Install applet instance incoming) before now failing is = elim failing [ ]
  source_end (Apdu bytes) before now failing is = elim failing [ ]
  source_end Reset before now failing is = elim failing [ ]
  source_end Cells before now failing is = elim failing [ ]
  source_end Objects before now failing is = elim failing [ ]
  source_end (Steps steps) before now failing is = elim failing [ ]

  pub memory_end : (command : ScriptCommand) (before : List ℕ) (now : Option (List ℕ)) → AsksSource command
      → short ≡ 1 → now ≡ Some before
      → IsLineEnd images certificates failed_at short unwritable c number told (Asks command) before now NoMemory
  memory_end (Load folder certificate) before now asks one is =
      record { written = []; ends = memory folder certificate one; now_is = none_more is }
  memory_end (Install applet instance incoming) before now asks one is = elim asks [ ]
  memory_end (Apdu bytes) before now asks one is = elim asks [ ]
  memory_end Reset before now asks one is = elim asks [ ]
  memory_end Cells before now asks one is = elim asks [ ]
  memory_end Objects before now asks one is = elim asks [ ]
  memory_end (Steps steps) before now asks one is = elim asks [ ]

  pub command_unwritten : (command : ScriptCommand) (answer : Answered) (after : CardWords)
      (old now : Option (List ℕ)) (before : List ℕ) → unwritable → Answers images certificates c command answer after
      → old ≡ Some before → AppendsPart old now (answer_line answer)
      → IsLineEnd images certificates failed_at short unwritable c number told (Asks command) before now NotWritten
  command_unwritten command answer after old now before why a is h =
      let p = parted old now before _ is h in
      record {
        written = p.bytes;
        ends = unwritten command p.bytes answer a.card why a.answered p.part;
        now_is = p.now_is;
      }

  pub bad_end : (said : ScriptLine) (before : List ℕ) (now : Option (List ℕ)) → Bad ≡ said → now ≡ Some before
      → IsLineEnd images certificates failed_at short unwritable c number told said before now (BadLine number told)
  bad_end said before now is known = record { written = []; ends = rw (← is) bad; now_is = none_more known }

-- ---- lines

-- a line that is neither too long nor one too many
read_whole : (number : ℕ) (line : List ℕ) → number ≤ most_lines → length line ≤ most_in_line
    → is_unread number line ≡ false
read_whole number line few short = rw (few_enough, short_enough) refl
  where
    few_enough : nat_lt most_lines number ≡ false
    few_enough = search (rules, few)

    short_enough : nat_lt most_in_line (length line) ≡ false
    short_enough = search (rules, short)

pub as_said : (number : ℕ) (line : List ℕ) → number ≤ most_lines → length line ≤ most_in_line
    → line_at number line ≡ said_by line
as_said number line few short = rw (read_whole number line few short) refl

module _ (images certificates : List ℕ → List ℕ → Type 0) (causes : EndCauses) (told : List Report → Type 0)
    (number : ℕ) (bytes : List ℕ) (c : CardState) (before : List ℕ) (now : Option (List ℕ)) (silent : told []) where
  -- lines that end without a report
  ends_by : (written : List ℕ) (end : ScriptEnd)
      → Plays images certificates causes number (lines_of bytes) c [] written end → now ≡ Some (before ++ written)
      → PlaysFrom images certificates causes told number bytes c before now end
  ends_by written end plays known =
      record { reports = []; were_told = silent; written = written; plays = plays; now_is = known }

  pub none_left : lines_of bytes ≡ [] → now ≡ Some before
      → PlaysFrom images certificates causes told number bytes c before now Over
  none_left empty known = ends_by [] Over (rw empty (over number c)) (none_more known)

  bad_first : BeginsBad number (lines_of bytes) → now ≡ Some before
      → PlaysFrom images certificates causes told number bytes c before now (BadLine number (unread_fault number))
  bad_first b known =
      ends_by [] _ (rw b.are (ended number b.first b.others c [] (BadLine number (unread_fault number))
      (rw b.unread bad))) (none_more known)

  not_read : causes.unread → now ≡ Some before
      → PlaysFrom images certificates causes told number bytes c before now NotRead
  not_read why known = ends_by [] NotRead (unread number (lines_of bytes) c why) (none_more known)

  pub unread_plays : (end : ScriptEnd) → IsUnread causes.unread number bytes end → now ≡ Some before
      → PlaysFrom images certificates causes told number bytes c before now end
  unread_plays end h1 h2 = grind (arith, bad_first, not_read)

  pub end_plays : (end : ScriptEnd) → IsEnd causes.unread number bytes end → now ≡ Some before
      → PlaysFrom images certificates causes told number bytes c before now end
  end_plays end h1 h2 = grind (arith, none_left, bad_first, not_read)

  pub line_ends : (line : List ℕ) (left : Option (List ℕ)) (end : ScriptEnd) → IsTaken number line bytes left
      → IsLineEnd images certificates causes.failed_at causes.short causes.unwritten c number
      (fault_in dialects.Script line) (said_by line) before now end
      → PlaysFrom images certificates causes told number bytes c before now end
  line_ends line left end t e =
      ends_by e.written end (rw t.takes.lines (ended number line (lines_of t.rest) c e.written end
      (rw (read_whole number line t.takes.few t.takes.short) e.ends))) e.now_is

-- ---- faults that are handed on

pub handed_on : {A E : Type 0} (result : Result A E) (error : E) (P : E → Type 0)
    → IsErrAnd result (λ told. told ≡ error) → P error → IfErr result P
handed_on result error P is p = grind (arith, err_from_is_err_and)
