-- A session, line by line.
use Rattle.std.proofs.Common.{◌≡◌, ◌≤◌, ◌<◌, ◌+◌, ℕ, List, [], ◌∷◌, ◌++◌, length, arith, sym, ap, true, false, nat_lt}
use Rattle.std.proofs.Common.{Option, Some, Result, IfErr, ◌∙◌, add_assoc, add-one, add-zero, append_assoc, refl, rules}
use Rattle.std.proofs.Common.{zero-add}
use Rattle.std.proofs.lemmas.Result.{err_from_is_err_and}
use Rattle.std.specs.Io.KnownBytes.{Appends}
use Rattle.std.specs.Prelude.{IsErrAnd}
use Rattle.jc_card.specs.Card.{CardState}
use Rattle.jc_card.specs.Reads.{CardWords, Holds}
use Rattle.jc_interp.specs.declared.shown.ShownFrame.{ShownFrame}
use Rattle.jc_source.specs.Source.{Asked, HoldSame, failures_of, shortages_of}
use Rattle.jc_source.specs.declared.source.SourceFault.{SourceFault}
use Rattle.jc_run.proofs.Ending.{command_done, command_unwritten, none_more, nothing_done}
use Rattle.jc_run.proofs.Playing.{answered_as, line_as, told_more}
use Rattle.jc_run.specs.Answer.{Answered}
use Rattle.jc_run.specs.Performs.{Answers, AsksSource}
use Rattle.jc_run.specs.Play.{BadLimits, BadLine, NoMemory, NotRead, NotWritten, Over, ScriptEnd, SourceFailed}
use Rattle.jc_run.specs.Play.{answer_line}
use Rattle.jc_run.specs.PrivatePlay.{AppendsPart, EndsAt, IsLineDone}
use Rattle.jc_run.specs.PrivatePlay.EndsAt.{bad as bad_line, memory, source, unwritten as cut_short}
use Rattle.jc_run.specs.PrivateSession.{Converses, ConversesFrom, EndsLine, HasConversed, IsDoneOrRefused, IsLineHeld}
use Rattle.jc_run.specs.PrivateSession.{IsLineUnwritten, IsSessionTurn}
use Rattle.jc_run.specs.PrivateSession.Converses.{line as one_line, over, unread, unwritten}
use Rattle.jc_run.specs.PrivateSession.IsDoneOrRefused.{left_out, not_loaded, played}
use Rattle.jc_run.specs.EndCauses.{SessionCauses}
use Rattle.jc_run.specs.Reports.{AnsweredLine, AreTold, RefusedLine, Report, failures_by, failures_told}
use Rattle.jc_run.specs.Reports.{shortages_by, shortages_told}
use Rattle.jc_run.specs.Reports.AreTold.{none}
use Rattle.jc_run.specs.Session.{AreCounted, FaultCount, fault_count, session_fault}
use Rattle.jc_run.specs.declared.refusal.LineRefusal.{LineRefusal}
use Rattle.jc_run.specs.declared.refusal.LineRefusal.TheVariants as refusals
use Rattle.jc_script.specs.Faults.{fault_at, fault_in}
use Rattle.jc_script.specs.Reading.{SkipsLine, TakesShortLine, TellsInSession}
use Rattle.jc_script.specs.declared.fault.LineCause.TheVariants.{TooLong}
use Rattle.jc_script.specs.declared.fault.LineFault.{LineFault}
use Rattle.jc_script.specs.declared.finding.Dialect.TheVariants as dialects
use Rattle.jc_script.specs.declared.reader.NextLine.TheVariants as next
use Rattle.jc_script.specs.Script.{Apdu, Asks, Bad, Cells, Install, Load, Objects, Reset, ScriptCommand, ScriptLine}
use Rattle.jc_script.specs.Script.{Skipped, Steps, lines_of, most_in_line, said_in_session, session_line}
use Rattle.jc_script.specs.Whole.{unread_fault}

-- ---- how many faults there were

failures_more : (reports more : List Report)
    → failures_told (reports ++ more) ≡ failures_told reports + failures_told more
failures_more [] more = sym (zero-add (failures_told more))
failures_more (report ∷ reports) more =
    ap (λ n. failures_by report + n) (failures_more reports more)
    ∙ sym (add_assoc (failures_by report) (failures_told reports) (failures_told more))

shortages_more : (reports more : List Report)
    → shortages_told (reports ++ more) ≡ shortages_told reports + shortages_told more
shortages_more [] more = sym (zero-add (shortages_told more))
shortages_more (report ∷ reports) more =
    ap (λ n. shortages_by report + n) (shortages_more reports more)
    ∙ sym (add_assoc (shortages_by report) (shortages_told reports) (shortages_told more))

sum_on : (first between last some others all : ℕ) → between ≡ first + some → last ≡ between + others
    → all ≡ some + others → last ≡ first + all
sum_on first between last some others all h1 h2 h3 = omega (arith, h1, h2, h3)

-- counts of reports, and then of more
counted_more : {failed short failed_between short_between failed_last short_last : ℕ} {reports more : List Report}
    → AreCounted (fault_count failed short failed_between short_between) reports
    → AreCounted (fault_count failed_between short_between failed_last short_last) more
    → AreCounted (fault_count failed short failed_last short_last) (reports ++ more)
counted_more {reports = reports} {more = more} before later = record {
  failures = sum_on _ _ _ _ _ _ before.failures later.failures (failures_more reports more);
  shortages = sum_on _ _ _ _ _ _ before.shortages later.shortages (shortages_more reports more);
}

-- no fault, and no report
pub none_counted : {failed short failed_after short_after : ℕ} → failed_after ≡ failed → short_after ≡ short
    → AreCounted (fault_count failed short failed_after short_after) []
none_counted {failed = failed} {short = short} h1 h2 =
    record { failures = h1 ∙ sym (add-zero failed); shortages = h2 ∙ sym (add-zero short) }

-- an answer
pub answer_counted : {failed short failed_after short_after : ℕ} (number : ℕ) (answer : Answered)
    (stopped : Option ShownFrame) → failed_after ≡ failed + 0 → short_after ≡ short + 0
    → AreCounted (fault_count failed short failed_after short_after) (AnsweredLine number answer stopped ∷ [])
answer_counted number answer stopped h1 h2 = record { failures = h1; shortages = h2 }

-- a line that is none
pub bad_counted : {failed short : ℕ} (number : ℕ) (fault : LineFault)
    → AreCounted (fault_count failed short failed short) (RefusedLine number (refusals.Bad fault) ∷ [])
bad_counted {failed = failed} {short = short} number fault =
    record { failures = sym (add-zero failed); shortages = sym (add-zero short) }

-- a refused load
pub refusal_counted : {failed short failed_after short_after : ℕ} (number : ℕ) (fault : SourceFault)
    → failed_after ≡ failed + failures_of fault → short_after ≡ short + shortages_of fault
    → AreCounted (fault_count failed short failed_after short_after)
    (RefusedLine number (refusals.Unread fault) ∷ [])
refusal_counted {failed = failed} {short = short} number fault h1 h2 = record {
  failures = h1 ∙ ap (λ n. failed + n) (sym (add-zero (failures_of fault)));
  shortages = h2 ∙ ap (λ n. short + n) (sym (add-zero (shortages_of fault)));
}

-- ---- a line

module _ (images certificates : List ℕ → List ℕ → Type 0) (faults : FaultCount) (told : List Report → Type 0)
    (c : CardState) (number : ℕ) (fault : LineFault) where
  -- a refused line
  refused : (said : ScriptLine) (after : CardWords) (before : List ℕ) (now : Option (List ℕ)) (refusal : LineRefusal)
      → AreCounted faults (RefusedLine number refusal ∷ []) → told (RefusedLine number refusal ∷ [])
      → IsDoneOrRefused images certificates c number fault said (RefusedLine number refusal ∷ []) [] c
      → Holds after c → now ≡ Some before
      → IsLineHeld images certificates faults told c number fault said after before now
  refused said after before now refusal counted t done holds known = record {
    reports = RefusedLine number refusal ∷ [];
    counted = counted;
    were_told = t;
    card = c;
    written = [];
    done = done;
    holds = holds;
    now_is = none_more known;
  }

  pub bad_refused : (said : ScriptLine) (after : CardWords) (before : List ℕ) (now : Option (List ℕ))
      → AreCounted faults (RefusedLine number (refusals.Bad fault) ∷ [])
      → told (RefusedLine number (refusals.Bad fault) ∷ []) → Bad ≡ said → Holds after c → now ≡ Some before
      → IsLineHeld images certificates faults told c number fault said after before now
  bad_refused said after before now counted t bad holds known =
      refused said after before now (refusals.Bad fault) counted t (left_out (sym bad)) holds known

  pub load_refused : (command : ScriptCommand) (after : CardWords) (before : List ℕ) (now : Option (List ℕ))
      (why : SourceFault) → AreCounted faults (RefusedLine number (refusals.Unread why) ∷ [])
      → told (RefusedLine number (refusals.Unread why) ∷ []) → AsksSource command → Holds after c
      → now ≡ Some before
      → IsLineHeld images certificates faults told c number fault (Asks command) after before now
  load_refused (Load folder certificate) after before now why counted t asks holds known =
      refused _ after before now (refusals.Unread why) counted t (not_loaded folder certificate why refl) holds known
  load_refused (Install applet instance incoming) after before now why counted t asks holds known = elim asks [ ]
  load_refused (Apdu bytes) after before now why counted t asks holds known = elim asks [ ]
  load_refused Reset after before now why counted t asks holds known = elim asks [ ]
  load_refused Cells after before now why counted t asks holds known = elim asks [ ]
  load_refused Objects after before now why counted t asks holds known = elim asks [ ]
  load_refused (Steps steps) after before now why counted t asks holds known = elim asks [ ]

  -- a line that is played
  held : (said : ScriptLine) (after : CardWords) (before : List ℕ) (now : Option (List ℕ))
      → (d : IsLineDone images certificates told c number said after before now) → AreCounted faults d.reports
      → IsLineHeld images certificates faults told c number fault said after before now
  held said after before now d counted = record {
    reports = d.reports;
    counted = counted;
    were_told = d.were_told;
    card = d.card;
    written = d.written;
    done = played d.reports d.written d.card d.played;
    holds = d.holds;
    now_is = d.now_is;
  }

  pub nothing_said : (said : ScriptLine) (after : CardWords) (before : List ℕ) (now : Option (List ℕ))
      → AreCounted faults [] → told [] → Skipped ≡ said → Holds after c → now ≡ Some before
      → IsLineHeld images certificates faults told c number fault said after before now
  unfolding nothing_done
  nothing_said said after before now counted t skipped holds known =
      held said after before now
      (nothing_done images certificates told c number said after before now t skipped holds known) counted

  pub command_held : (command : ScriptCommand) (answer : Answered) (after : CardWords) (old now : Option (List ℕ))
      (before : List ℕ) (stopped : Option ShownFrame)
      → AreCounted faults (AnsweredLine number answer stopped ∷ [])
      → told (AnsweredLine number answer stopped ∷ []) → Answers images certificates c command answer after
      → old ≡ Some before → Appends old now (answer_line answer)
      → IsLineHeld images certificates faults told c number fault (Asks command) after before now
  unfolding command_done
  command_held command answer after old now before stopped counted t a is h =
      held (Asks command) after before now
      (command_done images certificates told c number command answer after old now before stopped t a is h)
      counted

module _ (images certificates : List ℕ → List ℕ → Type 0) (unwritable : Type 0) (c : CardState) where
  unwritten_by : {failed_at : Asked → Type 0} {short number : ℕ} {told : LineFault} {said : ScriptLine}
      {written : List ℕ} {end : ScriptEnd} → end ≡ NotWritten → (before : List ℕ) (now : Option (List ℕ))
      → now ≡ Some (before ++ written)
      → EndsAt images certificates failed_at short unwritable c number told said written end
      → IsLineUnwritten images certificates unwritable c said before now
  unwritten_by is before now known bad_line = absurd cc
  unwritten_by is before now known (source folder certificate failing) = absurd cc
  unwritten_by is before now known (memory folder certificate short) = absurd cc
  unwritten_by is before now known (cut_short command written answer after why answered part) = search arith

  pub command_not_written : (command : ScriptCommand) (answer : Answered) (after : CardWords)
      (old now : Option (List ℕ)) (before : List ℕ) → unwritable → Answers images certificates c command answer after
      → old ≡ Some before → AppendsPart old now (answer_line answer)
      → EndsLine images certificates unwritable c (Asks command) before now NotWritten
  command_not_written command answer after old now before why a is h =
      let e = command_unwritten images certificates (λ asked. ⊥) 0 unwritable c 0 (unread_fault 0) command answer
      after old now before why a is h in
      unwritten_by refl before now e.now_is e.ends

-- ---- what is told of known bytes

pub told_end : (line : List ℕ) (old new : Option (List ℕ)) (bytes : List ℕ) → old ≡ Some bytes
    → TellsInSession line old new next.End → lines_of bytes ≡ []
told_end line old new bytes h1 h2 = grind arith

pub record IsLineOff (line bytes : List ℕ) (new : Option (List ℕ)) : Type 0 where
  pub rest : List ℕ
  pub is : new ≡ Some rest
  pub takes : TakesShortLine line bytes rest

pub told_line : (line : List ℕ) (old new : Option (List ℕ)) (bytes : List ℕ) → old ≡ Some bytes
    → TellsInSession line old new next.Line → IsLineOff line bytes new
told_line line old new bytes h1 h2 = grind arith

pub record IsLineLeftOut (bytes : List ℕ) (new : Option (List ℕ)) : Type 0 where
  pub rest : List ℕ
  pub is : new ≡ Some rest
  pub skips : SkipsLine bytes rest

pub told_bad : (line : List ℕ) (old new : Option (List ℕ)) (bytes : List ℕ) → old ≡ Some bytes
    → TellsInSession line old new next.Bad → IsLineLeftOut bytes new
told_bad line old new bytes h1 h2 = grind arith

-- ---- a turn

is_short : (line : List ℕ) → length line ≤ most_in_line → nat_lt most_in_line (length line) ≡ false
is_short line short = search (rules, short)

is_long : (line : List ℕ) → most_in_line < length line → nat_lt most_in_line (length line) ≡ true
is_long line long = search (rules, long)

short_line : (line : List ℕ) → length line ≤ most_in_line → session_line line ≡ said_in_session line
short_line line short = rw (is_short line short) refl

short_fault : (line : List ℕ) → length line ≤ most_in_line → session_fault line ≡ fault_in dialects.Session line
short_fault line short = rw (is_short line short) refl

long_line : (line : List ℕ) → most_in_line < length line → Bad ≡ session_line line
long_line line long = rw (is_long line long) refl

long_fault : (line : List ℕ) → most_in_line < length line
    → session_fault line ≡ fault_at TooLong (most_in_line + 1)
long_fault line long = rw (is_long line long) refl

module _ (images certificates : List ℕ → List ℕ → Type 0) (faults : FaultCount) (told : List Report → Type 0)
    (c : CardState) (number : ℕ) (bytes : List ℕ) where
  pub turn_done : (line rest : List ℕ) (after : CardWords) (left : Option (List ℕ)) (before : List ℕ)
      (now : Option (List ℕ)) → left ≡ Some rest → TakesShortLine line bytes rest
      → IsLineHeld images certificates faults told c number (fault_in dialects.Session line) (said_in_session line)
      after before now → IsSessionTurn images certificates faults told number bytes c after left before now
  turn_done line rest after left before now is t h = record {
    first = line;
    rest = rest;
    left_is = is;
    lines = t.lines;
    done = rw (short_line line t.short, short_fault line t.short) h;
  }

  pub turn_skipped : (rest : List ℕ) (after : CardWords) (left : Option (List ℕ)) (before : List ℕ)
      (now : Option (List ℕ))
      → AreCounted faults (RefusedLine number (refusals.Bad (fault_at TooLong (most_in_line + 1))) ∷ [])
      → told (RefusedLine number (refusals.Bad (fault_at TooLong (most_in_line + 1))) ∷ []) → left ≡ Some rest
      → SkipsLine bytes rest → Holds after c → now ≡ Some before
      → IsSessionTurn images certificates faults told number bytes c after left before now
  turn_skipped rest after left before now counted t is s h known = record {
    first = s.first;
    rest = rest;
    left_is = is;
    lines = s.lines;
    done =
        rw (long_fault s.first s.long)
        (bad_refused images certificates faults told c number _ (session_line s.first) after before now counted t
        (long_line s.first s.long) h known);
  }

module _ (images certificates : List ℕ → List ℕ → Type 0) (causes : SessionCauses) (faults : FaultCount)
    (told : List Report → Type 0) (c : CardState) (number : ℕ) (bytes : List ℕ) where
  -- lines that end without a report
  ends_by : (written before : List ℕ) (now : Option (List ℕ)) (end : ScriptEnd) → AreCounted faults [] → told []
      → Converses images certificates causes number (lines_of bytes) c [] written end
      → now ≡ Some (before ++ written)
      → ConversesFrom images certificates causes faults told number bytes c before now end
  ends_by written before now end counted silent converses known = record {
    reports = [];
    counted = counted;
    were_told = silent;
    written = written;
    converses = converses;
    now_is = known;
  }

  pub none_left : (before : List ℕ) (now : Option (List ℕ)) → AreCounted faults [] → told [] → lines_of bytes ≡ []
      → now ≡ Some before → ConversesFrom images certificates causes faults told number bytes c before now Over
  none_left before now counted silent empty known =
      ends_by [] before now Over counted silent (rw empty (over number c)) (none_more known)

  pub not_read : (before : List ℕ) (now : Option (List ℕ)) → AreCounted faults [] → told [] → causes.unread number
      → now ≡ Some before → ConversesFrom images certificates causes faults told number bytes c before now NotRead
  not_read before now counted silent why known =
      ends_by [] before now NotRead counted silent (unread number (lines_of bytes) c why) (none_more known)

  pub line_ends : (line rest before : List ℕ) (now : Option (List ℕ)) (end : ScriptEnd) → AreCounted faults []
      → told [] → TakesShortLine line bytes rest
      → EndsLine images certificates causes.unwritten c (said_in_session line) before now end
      → ConversesFrom images certificates causes faults told number bytes c before now end
  line_ends line rest before now Over counted silent t e = elim e [ ]
  line_ends line rest before now (BadLine at fault) counted silent t e = elim e [ ]
  line_ends line rest before now (SourceFailed at) counted silent t e = elim e [ ]
  line_ends line rest before now NotRead counted silent t e = elim e [ ]
  line_ends line rest before now NotWritten counted silent t e =
      ends_by e.written before now NotWritten counted silent
      (rw t.lines (unwritten number line (lines_of rest) c e.card e.command e.written e.answer e.why
      (short_line line t.short ∙ e.is) e.answered e.part)) e.now_is
  line_ends line rest before now NoMemory counted silent t e = elim e [ ]
  line_ends line rest before now BadLimits counted silent t e = elim e [ ]

-- ---- faults that are handed on

pub handed_on : {A E : Type 0} (result : Result A E) (error : E) (P : E → Type 0)
    → IsErrAnd result (λ told. told ≡ error) → P error → IfErr result P
handed_on result error P is p = grind (arith, err_from_is_err_and)

-- ---- lines that are done

module _ {S U V T : Type 0} (images certificates : List ℕ → List ℕ → Type 0) (causes : S → U → V → SessionCauses)
    (tells : T → Report → T → Type 0) (opening : T) (c : CardState) (input before : List ℕ) where
  pub begun : (faults : FaultCount) (after : CardWords) (left now : Option (List ℕ)) → AreCounted faults []
      → Holds after c → left ≡ Some input → now ≡ Some before
      → HasConversed images certificates causes faults tells opening c input before 1 after opening left now
  begun faults after left now counted holds is known = record {
    reports = [];
    counted = counted;
    were_told = none opening;
    card = c;
    holds = holds;
    rest = input;
    left_is = is;
    written = [];
    now_is = none_more known;
    leads = λ s u v more behind end p. p;
  }

  pub one_more : {number : ℕ} {card after : CardWords} {teller further : T} {left rest now later : Option (List ℕ)}
      {failed short failed_between short_between failed_last short_last : ℕ}
      → (h : HasConversed images certificates causes (fault_count failed short failed_between short_between) tells
      opening c input before number card teller left now)
      → IsSessionTurn images certificates (fault_count failed_between short_between failed_last short_last)
      (AreTold tells teller further) number h.rest h.card after rest (before ++ h.written) later
      → HasConversed images certificates causes (fault_count failed short failed_last short_last) tells opening c
      input before (number + 1) after further rest later
  one_more {number = number} h t = record {
    reports = h.reports ++ t.done.reports;
    counted = counted_more h.counted t.done.counted;
    were_told = told_more h.were_told t.done.were_told;
    card = t.done.card;
    holds = t.done.holds;
    rest = t.rest;
    left_is = t.left_is;
    written = h.written ++ t.done.written;
    now_is = t.done.now_is ∙ ap (λ (bs : List ℕ). Some bs) (append_assoc before h.written t.done.written);
    leads = λ s u v more behind end p.
        rw (append_assoc h.written t.done.written behind, append_assoc h.reports t.done.reports more)
        (h.leads s u v (t.done.reports ++ more) (t.done.written ++ behind) end
        (rw t.lines (one_line number t.first (lines_of t.rest) h.card t.done.card t.done.reports more t.done.written
        behind end t.done.done (rw (add-one number) at p))));
  }

  pub at_end : (s : S) (u : U) (v : V) {number : ℕ} {card : CardWords} {teller last : T}
      {left now final : Option (List ℕ)} {end : ScriptEnd}
      {failed short failed_between short_between failed_last short_last : ℕ}
      → (h : HasConversed images certificates causes (fault_count failed short failed_between short_between) tells
      opening c input before number card teller left now)
      → ConversesFrom images certificates (causes s u v)
      (fault_count failed_between short_between failed_last short_last)
      (AreTold tells teller last) number h.rest h.card (before ++ h.written) final end
      → ConversesFrom images certificates (causes s u v) (fault_count failed short failed_last short_last)
      (AreTold tells opening last) 1 input c before final end
  at_end s u v {end = end} h p = record {
    reports = h.reports ++ p.reports;
    counted = counted_more h.counted p.counted;
    were_told = told_more h.were_told p.were_told;
    written = h.written ++ p.written;
    converses = h.leads s u v p.reports p.written end p.converses;
    now_is = p.now_is ∙ ap (λ (bs : List ℕ). Some bs) (append_assoc before h.written p.written);
  }

-- ---- what a source holds that holds the same

module _ (images certificates older old : List ℕ → List ℕ → Type 0) (same_images : HoldSame older images)
    (same_certificates : HoldSame old certificates) where
  done_as : {c : CardState} {number : ℕ} {fault : LineFault} {said : ScriptLine} {reports : List Report}
      {written : List ℕ} {after : CardState}
      → IsDoneOrRefused images certificates c number fault said reports written after
      → IsDoneOrRefused older old c number fault said reports written after
  done_as {c = c} {number = number} {said = said} (played reports written after p) =
      played reports written after (line_as images certificates older old same_images same_certificates c number said
      reports written after p)
  done_as (left_out is) = left_out is
  done_as (not_loaded folder name why is) = not_loaded folder name why is

  module _ {causes later : SessionCauses} (lead : (number : ℕ) → causes.unread number → later.unread number)
      (lead_cut : causes.unwritten → later.unwritten) where
    converses_as : {number : ℕ} {lines : List (List ℕ)} {c : CardState} {reports : List Report} {written : List ℕ}
        {end : ScriptEnd} → Converses images certificates causes number lines c reports written end
        → Converses older old later number lines c reports written end
    converses_as (over number c) = over number c
    converses_as (one_line number first lines c after reports more written behind end p rest) =
        one_line number first lines c after reports more written behind end (done_as p) (converses_as rest)
    converses_as (unwritten number first lines c after asked written answer why is answered part) =
        unwritten number first lines c after asked written answer (lead_cut why) is
        (answered_as images certificates older old same_images same_certificates c asked answer after answered) part
    converses_as (unread number lines c why) = unread number lines c (lead number why)

    pub converses_from_as : {faults : FaultCount} {told : List Report → Type 0} {number : ℕ} {bytes : List ℕ}
        {c : CardState} {before : List ℕ} {now : Option (List ℕ)} {end : ScriptEnd}
        → ConversesFrom images certificates causes faults told number bytes c before now end
        → ConversesFrom older old later faults told number bytes c before now end
    converses_from_as p = record {
      reports = p.reports;
      counted = p.counted;
      were_told = p.were_told;
      written = p.written;
      converses = converses_as p.converses;
      now_is = p.now_is;
    }

  pub turn_as : {faults : FaultCount} {told : List Report → Type 0} {number : ℕ} {bytes : List ℕ} {c : CardState}
      {after : CardWords} {left : Option (List ℕ)} {before : List ℕ} {now : Option (List ℕ)}
      → IsSessionTurn images certificates faults told number bytes c after left before now
      → IsSessionTurn older old faults told number bytes c after left before now
  turn_as t = record {
    first = t.first;
    rest = t.rest;
    left_is = t.left_is;
    lines = t.lines;
    done = record {
      reports = t.done.reports;
      counted = t.done.counted;
      were_told = t.done.were_told;
      card = t.done.card;
      written = t.done.written;
      done = done_as t.done.done;
      holds = t.done.holds;
      now_is = t.done.now_is;
    };
  }
