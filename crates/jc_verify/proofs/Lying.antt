-- What lies below whatever carries a method, while places take in what flows.
use Rattle.std.proofs.Common.{◌≡◌, ◌⊎◌, inl, inr, ℕ, ℤ, ◌&&◌, Bool, true, false, List, [], ◌∷◌, Option, Some, Ok, Err, slice_get, slice_set, refl, sym, ap, subst, ◌∙◌, arith}
use Rattle.std.specs.Prelude.{pos, negsuc}
use Rattle.std.specs.List.{AllByRecursion}
use Rattle.std.specs.Option.{option_map}
use Rattle.std.proofs.lemmas.Bool.{cases_eq, eq-eqb}
use Rattle.std.proofs.lemmas.Option.{same_Some, slice_get_within}
use Rattle.jc_base.proofs.Binding.{ok_err, the_ok}
use Rattle.jc_base.specs.declared.reason.Reason.{Reason}
use Rattle.jc_code.specs.Targets.{falls_of, targets_of}
use Rattle.jc_code.specs.declared.instr.Instr.{Instr}
use Rattle.jc_check.specs.Method.{CheckedHandler, CheckedMethod, caught_types, covers}
use Rattle.jc_check.specs.Package.{package_rules}
use Rattle.jc_check.specs.Rules.{Rules}
use Rattle.jc_check.specs.Typing.{BranchLeads, CatchLeads, HandlerLeads, IsFine, Leads, Typing}
use Rattle.jc_classes.specs.Subtype.{is_class_below}
use Rattle.jc_names.specs.declared.name.ClassName.{ClassName}
use Rattle.jc_link.specs.Linked.{Linked}
use Rattle.jc_types.specs.State.{StateWithRoom, Types, all_below, has_shape_of, types_below}
use Rattle.jc_types.specs.declared.ty.Ty.TheVariants.{Class}
use Rattle.jc_verify.specs.PrivateFlow.{HasLaws, IsNumbered, IsUnder, placed, Places, below_in, number_at}
use Rattle.jc_verify.specs.PrivatePlaces.{IsHeldBelow, IsUnlike}
use Rattle.jc_verify.specs.PrivateTold.{IsUncaught, IsUncaughtAt}
use Rattle.jc_verify.specs.PrivateWork.{Bears, BranchesAll, FlowsIn, HandlesAll, IsBranchsWay, IsWay, LeadsTo, StandsAt}
use Rattle.jc_verify.specs.declared.flow.MethodFlow.{MethodFlow}
use Rattle.jc_verify.specs.declared.place.Place.{Place}
use Rattle.jc_verify.proofs.Arriving.{IsHeldBy, at_number, below_lengths, held_by, set_other, set_same}

module _ (l : Linked) (laws : HasLaws l) (m : CheckedMethod) (numbers : List (Option ℕ)) (places : Places) (numbered : IsNumbered numbers places) (typing : Typing) (under : IsUnder l numbers places typing)
    (number pc : ℕ) (p : Place StateWithRoom) (value : StateWithRoom) (at : slice_get places number ≡ Some p) (is : number_at numbers pc ≡ Some number) (leads : Leads (package_rules l) typing value.types pc) where
  -- the state of the typing there
  abbrev above_all : StateWithRoom
  above_all = record { types = leads.state; room = 0 }

  held_under : IsHeldBelow (below_in l.world) p above_all
  held_under s held =
      let h : Leads (package_rules l) typing s.types pc = under pc s.types (at_number l laws m numbers places pc number p is at ∙ ap (option_map (λ (x : StateWithRoom). x.types)) held) in
      subst (λ t. types_below (is_class_below l.world) s.types t ≡ true) (same_Some h.state leads.state (sym h.typed ∙ leads.typed)) h.below

  pub under_arrived : (q : Place StateWithRoom) → (IsHeldBelow (below_in l.world) p above_all → below_in l.world value above_all ≡ true → IsHeldBelow (below_in l.world) q above_all)
      → IsUnder l numbers (slice_set places number q) typing
  under_arrived q least pc2 s e = by_number (cases_eq by.number number)
    where
      by : IsHeldBy l laws m numbers (slice_set places number q) pc2 s
      by = held_by l laws m numbers (slice_set places number q) pc2 s e

      here : slice_get (slice_set places number q) number ≡ Some q
      here = set_same places number q (slice_get_within places number p at)

      by_number : (by.number ≡ number) ⊎ (by.number ≡ number → ⊥) → Leads (package_rules l) typing s pc2
      by_number (inl same) =
          let to_q : by.place ≡ q = same_Some by.place q (sym by.stands ∙ ap (slice_get (slice_set places number q)) same ∙ here) in
          let below : types_below (is_class_below l.world) by.state.types leads.state ≡ true = least held_under leads.below by.state (ap (λ (x : Place StateWithRoom). x.held) (sym to_q) ∙ by.held) in
          let one : pc ≡ pc2 = sym (numbered.found pc number p is at) ∙ numbered.found pc2 number p (by.numbered ∙ ap Some same) at in
          record {
            state = leads.state;
            typed = ap typing (sym one) ∙ leads.typed;
            below = subst (λ t. types_below (is_class_below l.world) t leads.state ≡ true) by.types below;
          }
      by_number (inr other) =
          under pc2 s (at_number l laws m numbers places pc2 by.number by.place by.numbered (sym (set_other places number by.number q other) ∙ by.stands) ∙ ap (option_map (λ (x : StateWithRoom). x.types)) by.held ∙ ap Some by.types)

  pub never_unlike : IsUnlike (λ a b. has_shape_of a.types b.types) p value → ⊥
  never_unlike u =
      let held = held_under u.value u.held in
      let one = below_lengths (is_class_below l.world) u.value.types leads.state held in
      let other = below_lengths (is_class_below l.world) value.types leads.state leads.below in
      let t : has_shape_of u.value.types value.types ≡ true = rw (eq-eqb _ _ (one.0 ∙ sym other.0), eq-eqb _ _ (one.1 ∙ sym other.1)) refl in
      let f : true ≡ false = sym t ∙ u.unlike in
      absurd cc

-- ---- what a typing says of where control flow goes, of lower types

number_of : ℤ → ℕ
number_of (pos n) = n
number_of (negsuc n) = 0

pub branch_way : {f : MethodFlow} {t : Types} {pc : ℕ} → IsBranchsWay f t (pos pc) → FlowsIn f pc t
unfolding number_of
branch_way {f} {t} h = subst (λ (n : ℕ). FlowsIn f n t) (sym (ap number_of h.is)) h.flows

module _ {rules : Rules} {t : Types} {typing : Typing} where
  pub branch_here : {pc : ℕ} → BranchLeads rules typing t (pos pc) → Leads rules typing t pc
  unfolding number_of
  branch_here h = subst (Leads rules typing t) (sym (ap number_of h.is)) h.leads

  pub branch_at : (targets : List ℤ) (index : ℕ) {place other : ℤ} → slice_get targets index ≡ Some place → slice_get targets index ≡ Some other → BranchLeads rules typing t place → BranchLeads rules typing t other
  branch_at targets index {place} {other} at is leads = subst (BranchLeads rules typing t) (same_Some place other (sym at ∙ is)) leads

  pub branch_on : (targets : List ℤ) (index : ℕ) {pc : ℕ} {place : ℤ} → slice_get targets index ≡ Some (pos pc) → slice_get targets index ≡ Some place → Leads rules typing t pc → BranchLeads rules typing t place
  branch_on targets index {pc} at is leads = branch_at targets index at is (record { pc = pc; is = refl; leads = leads })

-- a handler that was looked at by its parts catches the class that it names, and goes on where it says
module _ {h : CheckedHandler} (view : CheckedHandler) (same : view ≡ h) (class : ClassName) (is : view.caught ≡ Some class) where
  named : h.caught ≡ Some class
  named = ap (λ (x : CheckedHandler). x.caught) (sym same) ∙ is

  pub catch_here : {rules : Rules} {t : Types} {typing : Typing} → CatchLeads rules typing t h → Leads rules typing (caught_types class t) view.goes_on
  catch_here {rules} {t} {typing} k = grind (arith, same_Some, named)

  pub catch_on : {rules : Rules} {t : Types} {typing : Typing} → Leads rules typing (caught_types class t) view.goes_on → CatchLeads rules typing t h
  catch_on {rules} {t} {typing} leads = record { class = class; catches = named; leads = subst (Leads rules typing (caught_types class t)) (ap (λ (x : CheckedHandler). x.goes_on) same) leads }

  pub way_here : {f : MethodFlow} {t : Types} → IsWay f t h → FlowsIn f view.goes_on (caught_types class t)
  way_here {f} {t} way = grind (arith, same_Some, named)

  pub uncaught_here : {l : Linked} {m : CheckedMethod} {pc : ℕ} {t : Types} {reason : Reason} → covers h pc ≡ true → IsUncaughtAt l m view.goes_on (caught_types class t) reason → IsUncaught l m (λ x. x ≡ h) pc t reason
  uncaught_here {l} {m} {pc} {t} {reason} covered why = grind (arith, named)

module _ (l : Linked) (laws : HasLaws l) (typing : Typing) (s t : Types) (lower : types_below (is_class_below l.world) s t ≡ true) where
  pub leads_down : (pc : ℕ) → Leads (package_rules l) typing t pc → Leads (package_rules l) typing s pc
  leads_down pc h = record { state = h.state; typed = h.typed; below = laws.through s t h.state lower h.below }

  pub branches_down : (places_of : List ℤ) → AllByRecursion (BranchLeads (package_rules l) typing t) places_of → AllByRecursion (BranchLeads (package_rules l) typing s) places_of
  branches_down [] h = tt
  branches_down (place ∷ places_of) h = (record { pc = h.0.pc; is = h.0.is; leads = leads_down h.0.pc h.0.leads }, branches_down places_of h.1)

  caught_down : (c : ClassName) → types_below (is_class_below l.world) (caught_types c s) (caught_types c t) ≡ true
  caught_down c =
      let locals = both (all_below (is_class_below l.world) s.locals t.locals) _ lower in
      let itself = both (all_below (is_class_below l.world) s.locals s.locals) (all_below (is_class_below l.world) (Class c ∷ []) (Class c ∷ [])) (laws.itself (caught_types c s)) in
      rw (locals.0, itself.1) refl
    where
      both : (p q : Bool) → p && q ≡ true → (p ≡ true) × (q ≡ true)
      both p q h1 = grind arith

  pub handlers_down : (pc : ℕ) (hs : List CheckedHandler) → AllByRecursion (HandlerLeads (package_rules l) typing pc t) hs → AllByRecursion (HandlerLeads (package_rules l) typing pc s) hs
  handlers_down pc [] h = tt
  handlers_down pc (x ∷ hs) h = (one, handlers_down pc hs h.1)
    where
      one : HandlerLeads (package_rules l) typing pc s x
      one covered =
          let k = h.0 covered in
          record {
            class = k.class;
            catches = k.catches;
            leads = record { state = k.leads.state; typed = k.leads.typed; below = laws.through (caught_types k.class s) (caught_types k.class t) k.leads.state (caught_down k.class) k.leads.below };
          }

-- an instruction on types, and the types behind it, go where a typing says
pub record GoesWith (f : MethodFlow) (pc : ℕ) (instr : Instr) (s after : Types) (typing : Typing) : Type 0 where
  pub handled : HandlesAll f pc s typing
  pub branches : BranchesAll f (targets_of pc instr.operation) after typing
  pub falls : falls_of instr.operation ≡ true → LeadsTo f instr.next_pc after typing

module _ {f : MethodFlow} {pc : ℕ} {s : Types} {instr : Instr} (x : StandsAt f pc s instr) {typing : Typing} (b : Bears f pc s typing) where
  abbrev rules : Rules
  rules = package_rules f.linked.now

  fine : IsFine rules f.method.now typing (placed pc instr) b.leads.state
  fine = b.upper.each pc b.leads.state instr b.leads.typed x.decoded

  pub handled_there : HandlesAll f pc s typing
  handled_there = handlers_down f.linked.now x.sound.laws typing s b.leads.state b.leads.below pc f.method.now.handlers fine.handled

  pub has_effect : (reason : Reason) → rules.effect f.method.now.max_stack f.method.now.returned instr.operation s ≡ Err reason → ⊥
  has_effect reason e = grind (arith, fine, ok_err)

  -- an instruction that is fine on the state of a typing goes with it on each state below
  pub goes_with : {after : Types} → rules.effect f.method.now.max_stack f.method.now.returned instr.operation s ≡ Ok after → GoesWith f pc instr s after typing
  goes_with {after} effect =
      let down = x.sound.laws.monotone f.method.now instr.operation s b.leads.state fine.after b.leads.below fine.effect in
      let one : down.0 ≡ after = the_ok down.0 after (sym down.1 ∙ effect) in
      let lower : types_below (is_class_below f.linked.now.world) after fine.after ≡ true = subst (λ t. types_below (is_class_below f.linked.now.world) t fine.after ≡ true) one down.2 in
      record {
        handled = handled_there;
        branches = branches_down f.linked.now x.sound.laws typing after fine.after lower (targets_of pc instr.operation) fine.branches;
        falls = λ on. leads_down f.linked.now x.sound.laws typing after fine.after lower instr.next_pc (fine.falls on);
      }
