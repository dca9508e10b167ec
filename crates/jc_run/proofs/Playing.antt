-- A script, line by line.
use Rattle.std.proofs.Common.{◌≡◌, ℕ, ◌+◌, List, [], ◌++◌, Option, Some, Result, ap, ◌∙◌, append_assoc}
use Rattle.std.proofs.Common.{add-one, arith}
use Rattle.std.proofs.lemmas.Result.{err_from_is_err_and}
use Rattle.std.specs.Prelude.{IsErrAnd}
use Rattle.jc_card.specs.Card.{CardState}
use Rattle.jc_card.specs.Reads.{CardWords, Holds}
use Rattle.jc_source.specs.Source.{Asked, HoldSame}
use Rattle.jc_run.proofs.Ending.{none_more}
use Rattle.jc_run.specs.Answer.{Answered}
use Rattle.jc_run.specs.End.{end_of, end_of_fault}
use Rattle.jc_run.specs.Play.{IsAnswered, ScriptEnd}
use Rattle.jc_run.specs.EndCauses.{EndCauses}
use Rattle.jc_run.specs.Loading.{exactly}
use Rattle.jc_run.specs.Reports.{AreTold, Report}
use Rattle.jc_run.specs.Reports.AreTold.{more as told_one, none}
use Rattle.jc_run.specs.PrivatePlay.{EndsAt, HasPlayed, IsLinePlayed, IsTurn, Plays, PlaysFrom}
use Rattle.jc_run.specs.PrivatePlay.EndsAt.{bad, memory, source, unwritten}
use Rattle.jc_run.specs.PrivatePlay.Plays.{ended, line, over, unread as not_read}
use Rattle.jc_run.specs.declared.fault.ScriptFault.{ScriptFault}
use Rattle.jc_script.specs.Script.{ScriptCommand, ScriptLine}
use Rattle.jc_script.specs.Script.{lines_of}
use Rattle.jc_script.specs.declared.fault.LineFault.{LineFault}

pub same_through : (first second third : List ℕ → List ℕ → Type 0) → HoldSame first second → HoldSame second third
    → HoldSame first third
same_through first second third a b = grind arith

-- the causes of a script's end, with these reasons why its lines can't be read, and why an answer can't be written
abbrev pub causes_for : (Asked → Type 0) → ℕ → (why cut : Type 0) → EndCauses
causes_for failed_at short why cut = record { failed_at = failed_at; short = short; unread = why; unwritten = cut }

-- ---- what a source holds that holds the same

module _ (images certificates older old : List ℕ → List ℕ → Type 0) (same_images : HoldSame older images)
    (same_certificates : HoldSame old certificates) where
  pub answered_as : (c : CardState) (command : ScriptCommand) (answer : Answered) (after : CardState)
      → IsAnswered (exactly images certificates) c command answer after
      → IsAnswered (exactly older old) c command answer after
  answered_as c command answer after h1 = grind arith

  pub line_as : (c : CardState) (number : ℕ) (said : ScriptLine) (reports : List Report) (written : List ℕ)
      (after : CardState) → IsLinePlayed images certificates c number said reports written after
      → IsLinePlayed older old c number said reports written after
  line_as c number said reports written after h1 = grind (arith, answered_as)

  ends_as : {failed_at : Asked → Type 0} {short : ℕ} {why later : Type 0} {c : CardState} {number : ℕ}
      {told : LineFault} {said : ScriptLine} {written : List ℕ} {end : ScriptEnd} → (why → later)
      → EndsAt images certificates failed_at short why c number told said written end
      → EndsAt older old failed_at short later c number told said written end
  ends_as lead bad = bad
  ends_as lead (source folder certificate failing) = source folder certificate failing
  ends_as lead (memory folder certificate short) = memory folder certificate short
  ends_as {c = c} lead (unwritten command written answer after why answered part) =
      unwritten command written answer after (lead why) (answered_as c command answer after answered) part

  module _ {failed_at : Asked → Type 0} {short : ℕ} {unread unread_later cut cut_later : Type 0}
      (lead : unread → unread_later) (lead_cut : cut → cut_later) where
    plays_as : {number : ℕ} {lines : List (List ℕ)} {c : CardState} {reports : List Report} {written : List ℕ}
        {end : ScriptEnd}
        → Plays images certificates (causes_for failed_at short unread cut) number lines c reports written end
        → Plays older old (causes_for failed_at short unread_later cut_later) number lines c reports written end
    plays_as (over number c) = over number c
    plays_as (line number first lines c after reports more written behind end played rest) =
        line number first lines c after reports more written behind end
        (line_as c number _ reports written after played) (plays_as rest)
    plays_as (ended number first lines c written end e) = ended number first lines c written end (ends_as lead_cut e)
    plays_as (not_read number lines c why) = not_read number lines c (lead why)

    pub plays_from_as : {told : List Report → Type 0} {number : ℕ} {bytes : List ℕ} {c : CardState}
        {before : List ℕ} {now : Option (List ℕ)} {end : ScriptEnd}
        → PlaysFrom images certificates (causes_for failed_at short unread cut) told number bytes c before now end
        → PlaysFrom older old (causes_for failed_at short unread_later cut_later) told number bytes c before now end
    plays_from_as p = record {
      reports = p.reports;
      were_told = p.were_told;
      written = p.written;
      plays = plays_as p.plays;
      now_is = p.now_is;
    }

  pub turn_as : {told : List Report → Type 0} {number : ℕ} {bytes : List ℕ} {c : CardState} {after : CardWords}
      {left : Option (List ℕ)} {before : List ℕ} {now : Option (List ℕ)}
      → IsTurn images certificates told number bytes c after left before now
      → IsTurn older old told number bytes c after left before now
  turn_as {number = number} {c = c} t = record {
    first = t.first;
    rest = t.rest;
    left_is = t.left_is;
    lines = t.lines;
    done = record {
      reports = t.done.reports;
      were_told = t.done.were_told;
      card = t.done.card;
      written = t.done.written;
      played = line_as c number _ t.done.reports t.done.written t.done.card t.done.played;
      holds = t.done.holds;
      now_is = t.done.now_is;
    };
  }

-- ---- reports

pub told_more : {T : Type 0} {tells : T → Report → T → Type 0} {first between last : T} {reports more : List Report}
    → AreTold tells first between reports → AreTold tells between last more
    → AreTold tells first last (reports ++ more)
told_more (none teller) later = later
told_more (told_one before between after report reports told rest) later =
    told_one before between _ report (reports ++ _) told (told_more rest later)

-- ---- lines that are done

module _ {S U V T : Type 0} (images certificates : List ℕ → List ℕ → Type 0) (causes : S → U → V → EndCauses)
    (tells : T → Report → T → Type 0) (opening : T) (c : CardState) (script before : List ℕ) where
  pub begun : (after : CardWords) (left now : Option (List ℕ)) → Holds after c → left ≡ Some script
      → now ≡ Some before → HasPlayed images certificates causes tells opening c script before 1 after opening left now
  begun after left now holds is known = record {
    card = c;
    holds = holds;
    rest = script;
    left_is = is;
    reports = [];
    were_told = none opening;
    written = [];
    now_is = none_more known;
    leads = λ s u v more behind end p. p;
  }

  pub one_more : {number : ℕ} {card after : CardWords} {teller further : T} {left rest now later : Option (List ℕ)}
      → (h : HasPlayed images certificates causes tells opening c script before number card teller left now)
      → IsTurn images certificates (AreTold tells teller further) number h.rest h.card after rest
      (before ++ h.written) later
      → HasPlayed images certificates causes tells opening c script before (number + 1) after further rest later
  one_more {number = number} h t = record {
    card = t.done.card;
    holds = t.done.holds;
    rest = t.rest;
    left_is = t.left_is;
    reports = h.reports ++ t.done.reports;
    were_told = told_more h.were_told t.done.were_told;
    written = h.written ++ t.done.written;
    now_is = t.done.now_is ∙ ap (λ (bs : List ℕ). Some bs) (append_assoc before h.written t.done.written);
    leads = λ s u v more behind end p.
        rw (append_assoc h.written t.done.written behind, append_assoc h.reports t.done.reports more)
        (h.leads s u v (t.done.reports ++ more) (t.done.written ++ behind) end
        (rw t.lines (line number t.first (lines_of t.rest) h.card t.done.card t.done.reports more t.done.written behind
        end t.done.played (rw (add-one number) at p))));
  }

  pub at_end : (s : S) (u : U) (v : V) {number : ℕ} {card : CardWords} {teller last : T}
      {left now later : Option (List ℕ)} {end : ScriptEnd}
      → (h : HasPlayed images certificates causes tells opening c script before number card teller left now)
      → PlaysFrom images certificates (causes s u v) (AreTold tells teller last) number h.rest h.card
      (before ++ h.written) later end
      → PlaysFrom images certificates (causes s u v) (AreTold tells opening last) 1 script c before later end
  at_end s u v {end = end} h p = record {
    reports = h.reports ++ p.reports;
    were_told = told_more h.were_told p.were_told;
    written = h.written ++ p.written;
    plays = h.leads s u v p.reports p.written end p.plays;
    now_is = p.now_is ∙ ap (λ (bs : List ℕ). Some bs) (append_assoc before h.written p.written);
  }

-- ---- faults that are handed on

pub same_self : (held : List ℕ → List ℕ → Type 0) → HoldSame held held
same_self held = record { still = λ name bytes h. h; already = λ name bytes h. h }

pub handed_end : (result : Result (Unit {0}) ScriptFault) (error : ScriptFault) (P : ScriptEnd → Type 0)
    → IsErrAnd result (λ told. told ≡ error) → P (end_of_fault error) → P (end_of result)
handed_end result error P is p = grind (arith, err_from_is_err_and)
