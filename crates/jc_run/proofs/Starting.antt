-- A script on a new card.
use Rattle.std.proofs.Common.{◌≡◌, ℕ, List, [], Option, Some, Bool, true, false, Result, Ok, Err, ◌↔◌, rules, arith}
use Rattle.jc_api.specs.Bound.{Bound}
use Rattle.jc_card.specs.Accesses.{IsApartCard}
use Rattle.jc_card.specs.Load.{IsLoad}
use Rattle.jc_card.specs.New.{new_card}
use Rattle.jc_machine.specs.Limits.{are_limits}
use Rattle.jc_card.specs.declared.fault.CardFault.{CardFault}
use Rattle.jc_card.specs.declared.fault.CardFault.TheVariants as cards
use Rattle.jc_machine.specs.declared.limits.Limits.{Limits}
use Rattle.jc_run.proofs.Ending.{none_more}
use Rattle.jc_run.specs.End.{card_fault, end_of_fault}
use Rattle.jc_run.specs.Performs.{HasRun, PlaysOn}
use Rattle.jc_run.specs.Play.{BadLimits, NoMemory, ScriptEnd}
use Rattle.jc_run.specs.EndCauses.{EndCauses}
use Rattle.jc_run.specs.Loading.{exactly}
use Rattle.jc_run.specs.Reports.{Report}
use Rattle.jc_run.specs.Runs.{IsSafeCard, IsSimulated, RunsTo}
use Rattle.jc_run.specs.Runs.RunsTo.{no_card, played, unfit}

-- where a card is made, or memory is out, its limits are such as it may have
pub limits_fit : {A : Type 0} (fit : Bool) (result made : Result A CardFault)
    → (fit ≡ false → result ≡ Err cards.BadLimits)
    → result ≡ made → (made ≡ Err cards.BadLimits → ⊥) → fit ≡ true
limits_fit fit result made h1 h2 h3 = grind arith

module _ (images certificates : List ℕ → List ℕ → Type 0) (causes : EndCauses) (told : List Report → Type 0)
    (limits : Limits) (binding : Bound) (safe : IsSafeCard IsLoad IsApartCard limits binding) (script before : List ℕ)
    (now : Option (List ℕ)) {A : Type 0} (result : Result A CardFault)
    (fits : (result ≡ Err cards.BadLimits) ↔ (are_limits limits ≡ false)) where
  simulated : (written : List ℕ) (end : ScriptEnd)
      → RunsTo (exactly images certificates) causes told limits binding script written end
      → IsSimulated images certificates causes told limits binding script written end
  simulated written end runs =
      record { safe = record { responses = runs; card = safe }; exact = record { responses = runs } }

  pub made_runs : (card : A) (end : ScriptEnd) → result ≡ Ok card
      → PlaysOn images certificates causes told script (new_card limits binding) before now end
      → HasRun images certificates causes told limits binding script before now end
  made_runs card end is p = record {
    written = p.written;
    simulated = simulated p.written end (played p.written end
        (limits_fit (are_limits limits) result (Ok card) fits.1 is (λ e. search rules)) p.played);
    now_is = p.now_is;
  }

  pub not_made : (fault : CardFault) → result ≡ Err fault → told [] → now ≡ Some before
      → HasRun images certificates causes told limits binding script before now (end_of_fault (card_fault fault))
  not_made cards.BadLimits is silent known =
      record { written = []; simulated = simulated [] BadLimits (unfit (fits.0 is) silent); now_is = none_more known }
  not_made cards.Memory is silent known = record {
    written = [];
    simulated = simulated [] NoMemory (no_card
        (limits_fit (are_limits limits) result (Err cards.Memory) fits.1 is (λ e. search rules)) silent);
    now_is = none_more known;
  }
