-- What a session comes to is a run of the card.
use Rattle.std.proofs.Common.{◌≡◌, ℕ, suc, List, [], ◌∷◌, ◌++◌, Option, Some, false, Result, Ok, Err, ◌↔◌, rules}
use Rattle.std.proofs.Common.{refl, sym, ap, ◌∙◌, append_assoc}
use Rattle.jc_api.specs.Bound.{Bound}
use Rattle.jc_card.specs.Card.{CardState}
use Rattle.jc_card.specs.Accesses.{IsApartCard}
use Rattle.jc_card.specs.Load.{IsLoad}
use Rattle.jc_card.specs.New.{new_card}
use Rattle.jc_machine.specs.Limits.{are_limits}
use Rattle.jc_card.specs.declared.fault.CardFault.{CardFault}
use Rattle.jc_card.specs.declared.fault.CardFault.TheVariants as cards
use Rattle.jc_machine.specs.declared.limits.Limits.{Limits}
use Rattle.jc_run.proofs.Ending.{none_more}
use Rattle.jc_run.proofs.Starting.{limits_fit}
use Rattle.jc_run.specs.Answer.{Answered}
use Rattle.jc_run.specs.End.{card_fault, end_of_fault}
use Rattle.jc_run.specs.Play.{BadLimits, NoMemory, ScriptEnd, answer_line}
use Rattle.jc_run.specs.PrivatePlay.{IsCommandPlayed, IsLinePlayed}
use Rattle.jc_run.specs.PrivateSession.{Converses, ConversesFrom, IsDoneOrRefused}
use Rattle.jc_run.specs.PrivateSession.Converses.{line as line_held, over, unread, unwritten}
use Rattle.jc_run.specs.PrivateSession.IsDoneOrRefused.{left_out, not_loaded, played}
use Rattle.jc_run.specs.Reports.{Report}
use Rattle.jc_machine.specs.Machine.{Touch}
use Rattle.jc_run.specs.CardRun.{IsCardRun, accesses_of, contexts_of}
use Rattle.jc_run.specs.CardRun.IsCardRun.{command, nothing}
use Rattle.jc_run.specs.EndCauses.{SessionCauses}
use Rattle.jc_run.specs.Loading.{exactly}
use Rattle.jc_run.specs.Runs.{IsSafeCard, answer_lines}
use Rattle.jc_run.specs.Session.{AreAnswered, ConversesOn, FaultCount, HasHeld, IsSessionSimulated, SessionEndsWith}
use Rattle.jc_run.specs.Session.{SessionRunsTo, session_fault}
use Rattle.jc_run.specs.Session.AreAnswered.{answered as one_answered, bad as bad_answered, none as none_answered}
use Rattle.jc_run.specs.Session.AreAnswered.{skipped as one_passed, unloaded as none_loaded}
use Rattle.jc_run.specs.Session.SessionEndsWith.{over as over_left, unread as unread_left}
use Rattle.jc_run.specs.Session.SessionEndsWith.{unwritten as unwritten_left}
use Rattle.jc_run.specs.Session.SessionRunsTo.{held, no_card, unfit}
use Rattle.jc_script.specs.Script.{Asks, Bad, ScriptCommand, ScriptLine, Skipped, session_line}

-- lines whose answers, accesses and reports are known
record HasAnswered (images certificates : List ℕ → List ℕ → Type 0) (causes : SessionCauses) (number : ℕ)
    (lines : List (List ℕ)) (c : CardState) (reports : List Report) (written : List ℕ) (end : ScriptEnd) : Type 0
  where
    done : List ScriptCommand
    answers : List Answered
    last : ℕ
    left : List (List ℕ)
    in_order : AreAnswered number lines done answers reports last left
    touches : List Touch
    ran : List ℕ
    card : CardState
    run : IsCardRun (exactly images certificates) done c answers touches ran card
    part : List ℕ
    written_is : written ≡ answer_lines answers ++ part
    ends : SessionEndsWith (exactly images certificates) causes card last left part end

module _ (images certificates : List ℕ → List ℕ → Type 0) (causes : SessionCauses) where
  abbrev Is : ℕ → List (List ℕ) → CardState → List Report → List ℕ → ScriptEnd → Type 0
  Is number lines c reports written end = HasAnswered images certificates causes number lines c reports written end

  none_done : (number : ℕ) (lines : List (List ℕ)) (c : CardState) (part : List ℕ) (end : ScriptEnd)
      → SessionEndsWith (exactly images certificates) causes c number lines part end → Is number lines c [] part end
  none_done number lines c part end ends = record {
    done = [];
    answers = [];
    last = number;
    left = lines;
    in_order = none_answered number lines;
    touches = [];
    ran = [];
    card = c;
    run = nothing c;
    part = part;
    written_is = refl;
    ends = ends;
  }

  one_more : (number : ℕ) (first : List ℕ) (lines : List (List ℕ)) (asked : ScriptCommand) (c between : CardState)
      (reports : List Report) (written : List ℕ) (more : List Report) (behind : List ℕ) (end : ScriptEnd)
      → session_line first ≡ Asks asked
      → IsCommandPlayed images certificates c number asked reports written between
      → Is (suc number) lines between more behind end
      → Is number (first ∷ lines) c (reports ++ more) (written ++ behind) end
  one_more number first lines asked c between reports written more behind end is p d = record {
    done = asked ∷ d.done;
    answers = p.answer ∷ d.answers;
    last = d.last;
    left = d.left;
    in_order =
        rw p.reports_are (one_answered number d.last first lines d.left asked d.done p.answer d.answers p.stopped
        more is d.in_order);
    touches = accesses_of c asked ++ d.touches;
    ran = contexts_of c asked ++ d.ran;
    card = d.card;
    run = command asked d.done c between d.card p.answer d.answers d.touches d.ran p.answered d.run;
    part = d.part;
    written_is =
        rw p.written_is
        (ap (λ (bytes : List ℕ). answer_line p.answer ++ bytes) d.written_is
        ∙ sym (append_assoc (answer_line p.answer) (answer_lines d.answers) d.part));
    ends = d.ends;
  }

  -- a line without an answer
  one_silent : (number : ℕ) (first : List ℕ) (lines : List (List ℕ)) (c : CardState) (reports more : List Report)
      (behind : List ℕ) (end : ScriptEnd) → (d : Is (suc number) lines c more behind end)
      → AreAnswered number (first ∷ lines) d.done d.answers reports d.last d.left
      → Is number (first ∷ lines) c reports behind end
  one_silent number first lines c reports more behind end d in_order = record {
    done = d.done;
    answers = d.answers;
    last = d.last;
    left = d.left;
    in_order = in_order;
    touches = d.touches;
    ran = d.ran;
    card = d.card;
    run = d.run;
    part = d.part;
    written_is = d.written_is;
    ends = d.ends;
  }

  line_done : (number : ℕ) (first : List ℕ) (lines : List (List ℕ)) (said : ScriptLine) (c after : CardState)
      (reports more : List Report) (written behind : List ℕ) (end : ScriptEnd) → session_line first ≡ said
      → IsLinePlayed images certificates c number said reports written after
      → Is (suc number) lines after more behind end
      → Is number (first ∷ lines) c (reports ++ more) (written ++ behind) end
  line_done number first lines Skipped c after reports more written behind end is p d =
      rw (p.0, p.1, ← p.2) (one_silent number first lines after more more behind end d
      (one_passed number d.last first lines d.left d.done d.answers more is d.in_order))
  line_done number first lines (Asks asked) c after reports more written behind end is p d =
      one_more number first lines asked c after reports written more behind end is p d
  line_done number first lines Bad c after reports more written behind end is p d = elim p [ ]

  one_line : {number : ℕ} {first : List ℕ} {lines : List (List ℕ)} {c after : CardState} {reports more : List Report}
      {written behind : List ℕ} {end : ScriptEnd}
      → IsDoneOrRefused images certificates c number (session_fault first) (session_line first) reports written after
      → Is (suc number) lines after more behind end
      → Is number (first ∷ lines) c (reports ++ more) (written ++ behind) end
  one_line {number = number} {first = first} {lines = lines} {c = c} {more = more} {behind = behind} {end = end}
      (played reports written after p) d =
      line_done number first lines (session_line first) c after reports more written behind end refl p d
  one_line {number = number} {first = first} {lines = lines} {c = c} {more = more} {behind = behind} {end = end}
      (left_out is) d =
      one_silent number first lines c _ more behind end d
      (bad_answered number d.last first lines d.left d.done d.answers more is d.in_order)
  one_line {number = number} {first = first} {lines = lines} {c = c} {more = more} {behind = behind} {end = end}
      (not_loaded folder name why is) d =
      one_silent number first lines c _ more behind end d
      (none_loaded number d.last first lines d.left d.done d.answers more folder name why is d.in_order)

  held_of : {number : ℕ} {lines : List (List ℕ)} {c : CardState} {reports : List Report} {written : List ℕ}
      {end : ScriptEnd} → Converses images certificates causes number lines c reports written end
      → Is number lines c reports written end
  held_of (over number c) = none_done number [] c [] _ (over_left number)
  held_of (line_held number first lines c after reports more written behind end p rest) = one_line p (held_of rest)
  held_of (unwritten number first more c after asked written answer why is answered part) =
      none_done number (first ∷ more) c written _
      (unwritten_left number first more asked written answer after why is answered part)
  held_of (unread number more c why) = none_done number more c [] _ (unread_left number more why)

  pub held_on : {faults : FaultCount} {told : List Report → Type 0} {input : List ℕ} {c : CardState}
      {before : List ℕ} {now : Option (List ℕ)} {end : ScriptEnd}
      → ConversesFrom images certificates causes faults told 1 input c before now end
      → ConversesOn images certificates causes faults told input c before now end
  held_on p =
      let h = held_of p.converses in record {
        written = p.written;
        held = record {
          done = h.done;
          answers = h.answers;
          reports = p.reports;
          last = h.last;
          left = h.left;
          in_order = h.in_order;
          counted = p.counted;
          were_told = p.were_told;
          touches = h.touches;
          ran = h.ran;
          card = h.card;
          run = h.run;
          part = h.part;
          written_is = h.written_is;
          ends = h.ends;
        };
        now_is = p.now_is;
      }

-- ---- a session on a new card

module _ (images certificates : List ℕ → List ℕ → Type 0) (causes : SessionCauses) (faults : FaultCount)
    (told : List Report → Type 0) (limits : Limits) (binding : Bound)
    (safe : IsSafeCard IsLoad IsApartCard limits binding) (input before : List ℕ) (now : Option (List ℕ))
    {A : Type 0} (result : Result A CardFault)
    (fits : (result ≡ Err cards.BadLimits) ↔ (are_limits limits ≡ false)) where
  simulated : (written : List ℕ) (end : ScriptEnd)
      → SessionRunsTo (exactly images certificates) causes faults told limits binding input written end
      → IsSessionSimulated images certificates causes faults told limits binding input written end
  simulated written end runs =
      record { safe = record { responses = runs; card = safe }; exact = record { responses = runs } }

  pub made_holds : (card : A) (end : ScriptEnd) → result ≡ Ok card
      → ConversesOn images certificates causes faults told input (new_card limits binding) before now end
      → HasHeld images certificates causes faults told limits binding input before now end
  made_holds card end is p = record {
    written = p.written;
    simulated = simulated p.written end (held p.written end
        (limits_fit (are_limits limits) result (Ok card) fits.1 is (λ e. search rules)) p.held);
    now_is = p.now_is;
  }

  pub not_made : (fault : CardFault) → result ≡ Err fault → told [] → now ≡ Some before
      → HasHeld images certificates causes faults told limits binding input before now
      (end_of_fault (card_fault fault))
  not_made cards.BadLimits is silent known =
      record { written = []; simulated = simulated [] BadLimits (unfit (fits.0 is) silent); now_is = none_more known }
  not_made cards.Memory is silent known = record {
    written = [];
    simulated = simulated [] NoMemory (no_card
        (limits_fit (are_limits limits) result (Err cards.Memory) fits.1 is (λ e. search rules)) silent);
    now_is = none_more known;
  }
