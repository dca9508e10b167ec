-- A certificate that carries a method has states where control flow enters it, and a typing with what is known of one that carries it.
use Rattle.std.proofs.Common.{◌≡◌, ◌⊎◌, inl, inr, ℕ, ℤ, suc, pos, ◌+◌, ◌<◌, ◌≤◌, ◌==◌, ◌&&◌, Bool, true, false, cond, List, [], ◌∷◌, length, map, Option, Some, None, Ok, refl, sym, ap, subst, ◌∙◌, arith, get_or, slice_get}
use Rattle.std.specs.List.{AllByRecursion, Contains}
use Rattle.std.specs.Option.{option_and_then, option_map}
use Rattle.std.proofs.lemmas.Bool.{eqb-true, leb-true}
use Rattle.std.proofs.lemmas.List.{length-reverse}
use Rattle.std.proofs.lemmas.Option.{none-some, same_Some, slice_get-get_or}
use Rattle.jc_base.specs.NumberSet.{has_number}
use Rattle.jc_cert.specs.Cert.{Row, Stated}
use Rattle.jc_cert.specs.declared.stated_type.SpelledClass.{SpelledClass}
use Rattle.jc_cert.specs.declared.stated_type.StatedType.{StatedType}
use Rattle.jc_names.specs.declared.name.ClassName.{ClassName}
use Rattle.jc_code.specs.Listing.{PlacedInstr, placed_at}
use Rattle.jc_code.specs.Targets.{falls_of, targets_of}
use Rattle.jc_code.specs.declared.instr.Instr.{Instr}
use Rattle.jc_link.specs.Linked.{Linked}
use Rattle.jc_types.specs.State.{StateWithRoom, Types}
use Rattle.jc_types.specs.declared.ty.Ty.{Ty}
use Rattle.jc_check.specs.Carried.{Arrives, Carries, GoesOn, IsCarriedAt, IsHandled, Stands, state_at, types_of}
use Rattle.jc_check.specs.Checked.{CarriesPackage, stated_for}
use Rattle.jc_check.specs.Claim.{Claim, claim_of, type_claimed, types_claimed}
use Rattle.jc_check.specs.Method.{CheckedHandler, CheckedMethod, entry_of}
use Rattle.jc_check.specs.Package.{method_of, package_rules}
use Rattle.jc_check.specs.Rules.{Rules}
use Rattle.jc_check.specs.Typing.{BranchLeads, HandlerLeads, IsFine, Leads, Typing}
use Rattle.jc_verify.specs.Inferred.{HasAllStates}
use Rattle.jc_verify.specs.Live.{IsEntered, IsLive, first, behind, by_branch, by_handler, branched, caught}
use Rattle.jc_verify.specs.PrivateCarrier.{HasPlace, IsCarrier}
use Rattle.jc_verify.specs.PrivateFlow.{HasLaws, IsNumbered, Places, placed}
use Rattle.jc_verify.specs.PrivateGathered.{IsDenied}
use Rattle.jc_verify.specs.PrivateNames.{KeepsNames}
use Rattle.jc_verify.specs.PrivateLive.{HasEntries, HasFound}
use Rattle.jc_verify.specs.declared.place.Place.{Place}
use Rattle.jc_verify.proofs.Carrying.{all_by_place}
use Rattle.jc_verify.proofs.Passing.{all_at, all_contained, contains_at}
use Rattle.jc_verify.proofs.Refusing.{carried_at, goes_on, live_typed}
use Rattle.jc_verify.proofs.Starting.{none_past, placed_here}

-- ---- what is claimed is stated

types_count : (class_of : SpelledClass → Option ClassName) (stated : List StatedType) (types : List Ty) → types_claimed class_of stated ≡ Some types → length types ≡ length stated
types_count class_of [] types e = sym (ap (λ (ts : List Ty). length ts) (same_Some [] types e))
types_count class_of (s ∷ stated) types e = by_first (type_claimed class_of s) (types_claimed class_of stated) (λ us k. types_count class_of stated us k) e
  where
    by_first : (a : Option Ty) (o : Option (List Ty)) → ((us : List Ty) → o ≡ Some us → length us ≡ length stated) → option_and_then (λ one. option_map (λ more. one ∷ more) o) a ≡ Some types
        → length types ≡ suc (length stated)
    by_first a o h1 h2 = grind (arith, none-some, same_Some)

-- a claim stands at the pc of what is stated, with as many operands
pub record IsClaimOf (c : Stated) (claim : Claim) : Type 0 where
  pub at : claim.pc ≡ c.pc
  pub depth : length claim.operands ≡ length c.operands

claim_is : (rules : Rules) (c : Stated) (claim : Claim) → claim_of rules c ≡ Some claim → IsClaimOf c claim
unfolding claim_of
claim_is rules c claim e = by_parts (types_claimed rules.class_of c.locals) (types_claimed rules.class_of c.operands) refl e
  where
    by_parts : (ls os : Option (List Ty)) → types_claimed rules.class_of c.operands ≡ os
        → option_and_then (λ (locals : List Ty). option_map (λ (operands : List Ty). record { pc = c.pc; locals = locals; operands = operands }) os) ls ≡ Some claim → IsClaimOf c claim
    by_parts None os f h = absurd (none-some claim h)
    by_parts (Some locals) None f h = absurd (none-some claim h)
    by_parts (Some locals) (Some operands) f h =
        subst (IsClaimOf c) (same_Some (record { pc = c.pc; locals = locals; operands = operands }) claim h) (record { at = refl; depth = types_count rules.class_of c.operands operands f })

-- a claimed state is stated, where an instruction begins, in the shape of the method
pub record IsStatedAt (m : CheckedMethod) (listing : List PlacedInstr) (states : List Stated) (pc : ℕ) (t : Types) : Type 0 where
  pub state : Stated
  pub among : Contains states state
  pub at : state.pc ≡ pc
  pub stands : Stands m listing state
  pub depth : length t.operands ≡ length state.operands

stated_behind : (m : CheckedMethod) (listing : List PlacedInstr) (c : Stated) (states : List Stated) (pc : ℕ) (t : Types) → IsStatedAt m listing states pc t → IsStatedAt m listing (c ∷ states) pc t
stated_behind m listing c states pc t h = record { state = h.state; among = (suc h.among.0, omega (arith, h.among.1), h.among.2); at = h.at; stands = h.stands; depth = h.depth }

stated_here : (rules : Rules) (m : CheckedMethod) (listing : List PlacedInstr) (states : List Stated) (claims : List Claim) → map (claim_of rules) states ≡ map Some claims → AllByRecursion (Stands m listing) states
    → (pc : ℕ) (t : Types) → state_at claims pc ≡ Some t → IsStatedAt m listing states pc t
unfolding state_at
stated_here rules m listing [] [] found fitting pc t e = absurd (none-some t e)
stated_here rules m listing [] (claim ∷ claims) found fitting pc t e = absurd cc
stated_here rules m listing (c ∷ states) [] found fitting pc t e = absurd cc
stated_here rules m listing (c ∷ states) (claim ∷ claims) found fitting pc t e =
    by_test (claim.pc == pc) refl (λ k. stated_here rules m listing states claims (tails found) fitting.1 pc t k) e
  where
    heads : {A : Type 0} {a b : A} {xs ys : List A} → a ∷ xs ≡ b ∷ ys → a ≡ b
    heads h = cc

    tails : {A : Type 0} {a b : A} {xs ys : List A} → a ∷ xs ≡ b ∷ ys → xs ≡ ys
    tails h = cc

    is : IsClaimOf c claim
    is = claim_is rules c claim (heads found)

    by_test : (b : Bool) → claim.pc == pc ≡ b → (state_at claims pc ≡ Some t → IsStatedAt m listing states pc t) → cond b (Some (types_of claim)) (state_at claims pc) ≡ Some t → IsStatedAt m listing (c ∷ states) pc t
    by_test true f later k = record {
      state = c;
      among = (0, omega arith, refl);
      at = sym is.at ∙ eqb-true claim.pc pc f;
      stands = fitting.0;
      depth = sym (ap (λ (s : Types). length s.operands) (same_Some (types_of claim) t k)) ∙ length-reverse claim.operands ∙ is.depth;
    }
    by_test false f later k = stated_behind m listing c states pc t (later k)

module _ (rules : Rules) (m : CheckedMethod) (states : List Stated) (k : Carries rules m states) where
  -- what is claimed where control flow enters
  pub record IsClaimedAt (pc : ℕ) : Type 0 where
    pub state : Types
    pub stated : state_at k.claims pc ≡ Some state

  pub entered_claimed : {pc : ℕ} → IsEntered m k.listing pc → IsClaimedAt pc
  entered_claimed (branched x pc at live among) =
      let c = carried_at rules m states k x at (live_typed rules m states k live) in
      let a = all_contained (Arrives rules k.listing k.claims c.after) (targets_of x.pc x.instr.operation) (pos pc) among c.branches in
      let e : pc ≡ a.pc = the_pos pc a.pc a.is in
      record { state = a.state; stated = ap (state_at k.claims) e ∙ a.stated }
    where
      the_pos : (a b : ℕ) → pos a ≡ pos b → a ≡ b
      the_pos a b e = cc
  entered_claimed (caught x h at live among covered) =
      let a = all_contained (IsHandled rules k.claims x.pc (live_typed rules m states k live).0) m.handlers h among (carried_at rules m states k x at (live_typed rules m states k live)).handled covered in
      record { state = a.state; stated = a.stated }

  pub entered_stated : {pc : ℕ} → IsEntered m k.listing pc → (t : Types) × IsStatedAt m k.listing states pc t
  entered_stated {pc} entered = grind (arith, entered_claimed, stated_here)

-- ---- the typing of a certificate that carries a method, where control flow reaches it

module _ (l : Linked) (laws : HasLaws l) (m : CheckedMethod) (numbers : List (Option ℕ)) (states : List Stated) (k : Carries (package_rules l) m states) (live : List ℕ)
    (all : (pc : ℕ) → IsLive m k.listing pc → has_number live pc ≡ true) (only : (pc : ℕ) → has_number live pc ≡ true → IsLive m k.listing pc)
    (has_place : (pc : ℕ) → IsEntered m k.listing pc → HasPlace numbers pc) (entered : (pc : ℕ) → HasPlace numbers pc → IsEntered m k.listing pc) where
  abbrev rules : Rules
  rules = package_rules l

  abbrev pub live_typing : Typing
  live_typing pc = cond (has_number live pc) (k.typing pc) None

  typed_live : (pc : ℕ) (t : Types) → IsLive m k.listing pc → k.typing pc ≡ Some t → live_typing pc ≡ Some t
  typed_live pc t is e = rw (all pc is) e

  of_live : (pc : ℕ) (t : Types) → live_typing pc ≡ Some t → IsLive m k.listing pc × (k.typing pc ≡ Some t)
  of_live pc t e = by_live (has_number live pc) refl e
    where
      by_live : (b : Bool) → has_number live pc ≡ b → cond b (k.typing pc) None ≡ Some t → IsLive m k.listing pc × (k.typing pc ≡ Some t)
      by_live b h1 h2 = grind (arith, none-some)

  goes_leads : (pc : ℕ) (t : Types) → IsLive m k.listing pc → GoesOn rules (state_at k.claims pc) (k.typing pc) t → Leads rules live_typing t pc
  goes_leads pc t is h = by_claim (state_at k.claims pc) refl h
    where
      by_claim : (o : Option Types) → state_at k.claims pc ≡ o → GoesOn rules o (k.typing pc) t → Leads rules live_typing t pc
      by_claim o h1 h2 = grind (arith, typed_live, is)

  module _ (pc : ℕ) (t : Types) (instr : Instr) (e : live_typing pc ≡ Some t) (decoded : rules.decoder m.code pc ≡ Ok instr) where
    is_live : IsLive m k.listing pc
    is_live = (of_live pc t e).0

    at : placed_at k.listing pc ≡ Some (placed pc instr)
    at = placed_here laws.listing m.code k.listing pc instr k.whole (k.starts pc t (of_live pc t e).1) decoded

    is_carried : IsCarriedAt rules m k.listing k.claims k.typing (placed pc instr) t
    is_carried = k.live pc (placed pc instr) t at (of_live pc t e).1

    handler_leads : (n : ℕ) (h : CheckedHandler) → slice_get m.handlers n ≡ Some h → HandlerLeads rules live_typing pc t h
    handler_leads n h is covered =
        let a = all_at (IsHandled rules k.claims pc t) m.handlers n h is is_carried.handled covered in
        let there = by_handler (placed pc instr) h at is_live (contains_at m.handlers n h is) covered in
        record { class = a.class; catches = a.catches; leads = record { state = a.state; typed = typed_live h.goes_on a.state there (k.stated h.goes_on a.state a.stated); below = a.below } }

    branch_leads : (n : ℕ) (place : ℤ) → slice_get (targets_of pc instr.operation) n ≡ Some place → BranchLeads rules live_typing is_carried.after place
    branch_leads n place is =
        let a = all_at (Arrives rules k.listing k.claims is_carried.after) (targets_of pc instr.operation) n place is is_carried.branches in
        let there = by_branch (placed pc instr) a.pc at is_live (subst (Contains (targets_of pc instr.operation)) a.is (contains_at (targets_of pc instr.operation) n place is)) in
        record { pc = a.pc; is = a.is; leads = record { state = a.state; typed = typed_live a.pc a.state there (k.stated a.pc a.state a.stated); below = a.below } }

    falls_on : falls_of instr.operation ≡ true → (instr.next_pc < length m.code) × GoesOn rules (state_at k.claims instr.next_pc) (k.typing instr.next_pc) is_carried.after
    falls_on falls = goes_on rules m states k (falls_of instr.operation) is_carried.after instr.next_pc falls is_carried.behind

    is_fine : IsFine rules m live_typing (placed pc instr) t
    is_fine = record {
      handled = all_by_place (HandlerLeads rules live_typing pc t) m.handlers handler_leads;
      after = is_carried.after;
      effect = is_carried.effect;
      branches = all_by_place (BranchLeads rules live_typing is_carried.after) (targets_of pc instr.operation) branch_leads;
      falls = λ falls. goes_leads instr.next_pc is_carried.after (behind (placed pc instr) at is_live falls) (falls_on falls).1;
    }

  room_there : (pc : ℕ) (t : Types) → HasPlace numbers pc → live_typing pc ≡ Some t → length t.operands ≤ m.max_stack
  room_there pc t place e =
      let c : IsClaimedAt rules m states k pc = entered_claimed rules m states k (entered pc place) in
      let s : IsStatedAt m k.listing states pc c.state = stated_here rules m k.listing states k.claims k.found k.fitting pc c.state c.stated in
      let same : c.state ≡ t = same_Some c.state t (sym (k.stated pc c.state c.stated) ∙ (of_live pc t e).1) in
      let few = leb-true (length s.state.operands) m.max_stack (second (length s.state.locals == length m.arguments + m.max_locals) _ s.stands.shape) in
      let count = ap (λ (x : Types). length x.operands) (sym same) in
      omega (arith, few, count, s.depth)
    where
      second : (p q : Bool) → p && q ≡ true → q ≡ true
      second p q h1 = grind arith

  pub carrier : IsCarrier l m numbers live_typing
  carrier = record {
    upper = record { entry = goes_leads 0 (entry_of m) first k.entry.1; each = λ pc t instr e decoded. is_fine pc t instr e decoded };
    room = room_there;
  }

-- where nothing is a carrier, no states carry the method
pub denied : (l : Linked) (laws : HasLaws l) (m : CheckedMethod) (numbers : List (Option ℕ)) (places : Places) (entries : List ℕ) → IsNumbered numbers places → HasEntries m entries
    → ((n : ℕ) (p : Place StateWithRoom) → slice_get places n ≡ Some p → has_number entries p.pc ≡ true) → ((pc : ℕ) → pc < length m.code → has_number entries pc ≡ true → HasPlace numbers pc)
    → ((typing : Typing) → IsCarrier l m numbers typing → ⊥) ⊎ (KeepsNames l m → ⊥) → IsDenied l m
denied l laws m numbers places entries numbered of at_entries has_place (inr unnamed) = inr unnamed
denied l laws m numbers places entries numbered of at_entries has_place (inl never) = inl (λ can.
    let k : Carries (package_rules l) m can.states = can.carried in
    let found : HasFound m k.listing entries = subst (λ (xs : List PlacedInstr). HasFound m xs entries) (laws.listing.one_listing m.code of.listing k.listing of.whole k.whole) of.found in
    never (live_typing l laws m numbers can.states k found.live.0 found.live.1.all found.live.1.reached (there k found) (is_entered k found))
    (carrier l laws m numbers can.states k found.live.0 found.live.1.all found.live.1.reached (there k found) (is_entered k found)))
  where
    there : {cs : List Stated} (k : Carries (package_rules l) m cs) → HasFound m k.listing entries → (pc : ℕ) → IsEntered m k.listing pc → HasPlace numbers pc
    there k found pc e = grind (arith, none_past)

    blank : Place StateWithRoom
    blank = record { pc = 0; held = None; changed = false }

    is_entered : {cs : List Stated} (k : Carries (package_rules l) m cs) → HasFound m k.listing entries → (pc : ℕ) → HasPlace numbers pc → IsEntered m k.listing pc
    is_entered k found pc place =
        let at = slice_get-get_or places place.number blank (numbered.within pc place.number place.is) in
        subst (IsEntered m k.listing) (numbered.found pc place.number (get_or places place.number blank) place.is at) (found.are.entered _ (at_entries place.number _ at)).entered

-- what carries a package has a state at each pc that is entered
pub all_states : (l : Linked) → HasLaws l → (cs : List Row) → CarriesPackage l cs → HasAllStates l cs
all_states l laws cs carries = record {
  each = λ n b at listing whole pc entered.
      let k : Carries (package_rules l) (method_of l b) (stated_for cs b.offset) = carries.methods n b at in
      let one : listing ≡ k.listing = laws.listing.one_listing b.code listing k.listing whole k.whole in
      let s = entered_stated (package_rules l) (method_of l b) (stated_for cs b.offset) k (subst (λ (xs : List PlacedInstr). IsEntered (method_of l b) xs pc) one entered) in
      record { state = s.1.state; among = s.1.among; at = s.1.at };
}
