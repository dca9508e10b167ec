-- Where control flow is refused to go on, nothing that lies above what is held carries the method.
use Rattle.std.proofs.Common.{◌≡◌, ℕ, List, length, Bool, Option, None, sym, subst, ◌∙◌, arith}
use Rattle.std.proofs.lemmas.Option.{none-some}
use Rattle.jc_base.specs.declared.reason.Reason.{Reason}
use Rattle.jc_classes.specs.Subtype.{is_class_below}
use Rattle.jc_names.specs.declared.name.ClassName.{ClassName}
use Rattle.jc_link.specs.Linked.{Linked}
use Rattle.jc_types.specs.State.{Types}
use Rattle.jc_check.specs.Method.{CheckedMethod, caught_types}
use Rattle.jc_check.specs.Package.{package_rules}
use Rattle.jc_check.specs.Typing.{Leads, Typing}
use Rattle.jc_check.specs.declared.fault.WordFault.{WordFault}
use Rattle.jc_check.specs.declared.fault.WordFault.TheVariants as faults
use Rattle.jc_verify.specs.PrivateCarrier.{HasPlace, IsCarrier}
use Rattle.jc_verify.specs.PrivateFlow.{IsUnder, Places, number_at}
use Rattle.jc_verify.specs.PrivateStop.{fault_at}
use Rattle.jc_verify.specs.PrivateWork.{Falls, IsDenial, IsRefusedFor, IsToldAt, LeadsTo, Refuses}
use Rattle.jc_verify.specs.declared.flow.MethodFlow.{MethodFlow}
use Rattle.jc_verify.specs.declared.stop.Stop.{Stop}
use Rattle.jc_verify.specs.declared.stop.Stop.TheVariants.{Refused, Memory}
use Rattle.jc_verify.proofs.Arriving.{below_lengths}

told_where : (pc at : ℕ) (stop : Stop) (reason : Reason) → fault_at pc stop ≡ faults.Refused at reason → (pc ≡ at) × (stop ≡ Refused reason)
told_where pc at stop reason h1 = grind arith

pub no_place : (numbers : List (Option ℕ)) (pc : ℕ) → number_at numbers pc ≡ None → HasPlace numbers pc → ⊥
no_place numbers pc none place = none-some place.number (sym none ∙ place.is)

-- there is room for what is caught
pub no_room : {l : Linked} {m : CheckedMethod} {numbers : List (Option ℕ)} {typing : Typing} → IsCarrier l m numbers typing → (class : ClassName) (t : Types) (pc : ℕ) → m.max_stack ≡ 0
    → Leads (package_rules l) typing (caught_types class t) pc → HasPlace numbers pc → ⊥
no_room {l} carrier class t pc none leads place =
    let few = carrier.room pc leads.state place leads.typed in
    let one : 1 ≡ length leads.state.operands = (below_lengths (is_class_below l.world) (caught_types class t) leads.state leads.below).1 in
    omega (arith, few, one, none)

-- where there is a place control flow doesn't go on
pub falls_in : (f : MethodFlow) (on : Bool) {t : Types} {typing : Typing} {pc : ℕ} → HasPlace f.numbers.now pc → Falls f on pc t typing → LeadsTo f pc t typing
falls_in f on h1 h2 = grind (arith, no_place)

-- ---- refusals

module _ {f : MethodFlow} {asks : Typing → Type 0} where
  -- by what was known before
  pub denies_on : {more_asks : Typing → Type 0} {before now : Places} {fault : WordFault} → IsDenial f asks now fault
      → ((typing : Typing) → IsCarrier f.linked.now f.method.now f.numbers.now typing → IsUnder f.linked.now f.numbers.now before typing → more_asks typing → IsUnder f.linked.now f.numbers.now now typing × asks typing)
      → IsDenial f more_asks before fault
  denies_on h asks_on = record {
    each = λ pc reason is.
        let r = h.each pc reason is in record {
          denied = λ typing carrier under asked. let now = asks_on typing carrier under asked in r.denied typing carrier now.0 now.1;
          told = r.told;
        };
  }

  -- what is told where an instruction is visited
  pub denial_of : {places : Places} {pc : ℕ} {stop : Stop} → Refuses f asks (IsToldAt f pc) places stop → IsDenial f asks places (fault_at pc stop)
  denial_of {places} {pc} {stop} h = record {
    each = λ at reason is.
        let w = told_where pc at stop reason is in
        subst (λ n. IsRefusedFor f asks (IsToldAt f n) places reason) w.0 (h.each reason w.1);
  }

  module _ {tells : Reason → Type 0} where
    pub refused_for : {places : Places} {reason : Reason} → IsRefusedFor f asks tells places reason → Refuses f asks tells places (Refused reason)
    refused_for {places} {reason} r = record { each = λ other is. let e : reason ≡ other = cc in subst (IsRefusedFor f asks tells places) e r }

    pub refuses_memory : {places : Places} → Refuses f asks tells places Memory
    refuses_memory = record { each = λ other is. absurd cc }

    -- by what was known before, and for other reasons
    pub refuses_on : {more_asks : Typing → Type 0} {more_tells : Reason → Type 0} {before now : Places} {stop : Stop} → Refuses f asks tells now stop
        → ((typing : Typing) → IsCarrier f.linked.now f.method.now f.numbers.now typing → IsUnder f.linked.now f.numbers.now before typing → more_asks typing → IsUnder f.linked.now f.numbers.now now typing × asks typing)
        → ((reason : Reason) → tells reason → more_tells reason) → Refuses f more_asks more_tells before stop
    refuses_on h asks_on tells_on = record {
      each = λ reason is.
          let r = h.each reason is in record {
            denied = λ typing carrier under asked. let now = asks_on typing carrier under asked in r.denied typing carrier now.0 now.1;
            told = tells_on reason r.told;
          };
    }
