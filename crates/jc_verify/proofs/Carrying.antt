-- What places hold from which control flow was followed carries the method.
use Rattle.std.proofs.Common.{◌≡◌, ◌≢◌, ◌⊎◌, inl, inr, ℕ, ℤ, zero, suc, ◌+◌, ◌<◌, ◌==◌, Bool, true, false, cond, List, [], ◌∷◌, length, Option, Some, None, Result, Ok, get_or, slice_get, refl, sym, ap, subst, ◌∙◌, arith}
use Rattle.std.specs.Prelude.{reverse, ⊤}
use Rattle.std.specs.List.{AllByRecursion}
use Rattle.std.specs.Option.{option_and_then, option_map}
use Rattle.std.proofs.lemmas.Bool.{eq-eqb, le-leb, ne_eqb, lt-ltb}
use Rattle.std.proofs.lemmas.List.{reverse-reverse}
use Rattle.std.proofs.lemmas.Option.{none-some, same_Some, slice_get-get_or}
use Rattle.jc_base.specs.declared.reason.Reason.{Reason}
use Rattle.jc_cert.specs.Cert.{Stated}
use Rattle.jc_cert.specs.declared.stated_type.SpelledClass.{SpelledClass}
use Rattle.jc_names.specs.declared.name.ClassName.{ClassName}
use Rattle.jc_code.specs.Listing.{IsListing, PlacedInstr, StandBetween, begins}
use Rattle.jc_code.specs.Targets.{falls_of}
use Rattle.jc_check.specs.Carried.{Carries, HandlerStands, has_shape, state_at, types_of}
use Rattle.jc_check.specs.Claim.{Claim, claim_of}
use Rattle.jc_check.specs.FirstFault.{IsFirstFault, empty, undecoded, found, all_arrive, all_handle, arrives}
use Rattle.jc_check.specs.FirstFault.{catches_at, falls_if, falls_to, findings_of, flow_findings_of, handlers_stand}
use Rattle.jc_check.specs.FirstFault.{handles, meets_claim, state_stands, states_stand, visit, visit_live, visit_on}
use Rattle.jc_check.specs.FirstFault.{walk}
use Rattle.jc_check.specs.Method.{CheckedHandler, CheckedMethod, covers, entry_of}
use Rattle.jc_check.specs.Package.{class_of_name, package_rules}
use Rattle.jc_check.specs.declared.fault.Fault.{Fault}
use Rattle.jc_check.specs.Rules.{Rules}
use Rattle.jc_check.specs.Typing.{BranchLeads, HandlerLeads, HasShape, IsFine, IsTyping, Leads, Typing}
use Rattle.jc_verify.specs.Inferred.{LiesBelow}
use Rattle.jc_link.specs.Linked.{Linked}
use Rattle.jc_types.specs.State.{StateWithRoom, Types}
use Rattle.jc_types.specs.declared.ty.Ty.{Ty}
use Rattle.jc_verify.specs.PrivateFlow as flow
use Rattle.jc_verify.specs.PrivateFlow.{AreShaped, HasLaws, IsClosed, IsNumbered, IsUnder, IsUpper, IsVisited, Places, held_at, number_at, types_held, ends, goes_on}
use Rattle.jc_verify.specs.PrivateSettled.{AreAllClosed, IsEntryMet}
use Rattle.jc_verify.specs.PrivateStated.{AreStateRows, IsStateRow, RowIf}
use Rattle.jc_verify.specs.declared.place.Place.{Place}
use Rattle.jc_verify.proofs.Arriving.{IsHeldBy, held_by, at_number, number_within}
use Rattle.jc_base.proofs.Binding.{ok_err, the_ok}

-- ---- the claims of what places hold

abbrev pub claim_at : ℕ → Types → Claim
claim_at pc t = record { pc = pc; locals = t.locals; operands = reverse t.operands }

abbrev claim_if : ℕ → Option StateWithRoom → List Claim → List Claim
claim_if pc None claims = claims
claim_if pc (Some s) claims = claim_at pc s.types ∷ claims

pub claims_of : Places → List Claim
claims_of [] = []
claims_of (p ∷ places) = claim_if p.pc p.held (claims_of places)

abbrev types_with : List Ty → List Ty → Types
types_with locals operands = record { locals = locals; operands = operands }

-- a place is the only one of these at a pc
abbrev IsOnly : Places → ℕ → ℕ → Type 0
IsOnly places n pc = (k : ℕ) (q : Place StateWithRoom) → slice_get places k ≡ Some q → q.pc ≡ pc → k ≡ n

-- nothing is held at a pc
abbrev HoldsNone : Places → ℕ → Type 0
HoldsNone places pc = (k : ℕ) (q : Place StateWithRoom) → slice_get places k ≡ Some q → q.pc ≡ pc → q.held ≡ None

claimed_none : (places : Places) (pc : ℕ) → HoldsNone places pc → state_at (claims_of places) pc ≡ None
unfolding state_at claims_of
claimed_none [] pc none = refl
claimed_none (p ∷ places) pc none = by_held p.held refl (claimed_none places pc (λ k q e f. none (suc k) q e f))
  where
    by_held : (o : Option StateWithRoom) → p.held ≡ o → state_at (claims_of places) pc ≡ None → state_at (claim_if p.pc o (claims_of places)) pc ≡ None
    by_held None e rest = rest
    by_held (Some s) e rest = let other : (p.pc == pc) ≡ false = ne_eqb p.pc pc (λ is. absurd (none-some s (sym (none 0 p refl is) ∙ e))) in rw other rest

claimed_one : (places : Places) (n pc : ℕ) (p : Place StateWithRoom) (s : StateWithRoom) → slice_get places n ≡ Some p → p.pc ≡ pc → p.held ≡ Some s → IsOnly places n pc → state_at (claims_of places) pc ≡ Some s.types
unfolding state_at claims_of
claimed_one [] n pc p s e is held only = absurd (none-some p e)
claimed_one (q ∷ places) zero pc p s e is held only =
    let same : q ≡ p = same_Some q p e in
    let here : (q.pc == pc) ≡ true = eq-eqb q.pc pc (ap (λ (x : Place StateWithRoom). x.pc) same ∙ is) in
    let first : claims_of (q ∷ places) ≡ claim_at q.pc s.types ∷ claims_of places = ap (λ o. claim_if q.pc o (claims_of places)) (ap (λ (x : Place StateWithRoom). x.held) same ∙ held) in
    ap (λ cs. state_at cs pc) first ∙ ap (λ b. cond b (Some (types_of (claim_at q.pc s.types))) (state_at (claims_of places) pc)) here ∙ ap (λ (ops : List Ty). Some (types_with s.types.locals ops)) (reverse-reverse s.types.operands)
claimed_one (q ∷ places) (suc n) pc p s e is held only = by_held q.held (claimed_one places n pc p s e is held (λ k r f g. suc_same (only (suc k) r f g)))
  where
    suc_same : {k : ℕ} → suc k ≡ suc n → k ≡ n
    suc_same h = omega (arith, h)

    by_held : (o : Option StateWithRoom) → state_at (claims_of places) pc ≡ Some s.types → state_at (claim_if q.pc o (claims_of places)) pc ≡ Some s.types
    by_held None rest = rest
    by_held (Some r) rest = let other : (q.pc == pc) ≡ false = ne_eqb q.pc pc (λ same. zero_suc (only 0 q refl same)) in rw other rest
      where
        zero_suc : 0 ≡ suc n → ⊥
        zero_suc h = omega (arith, h)

module _ (l : Linked) (laws : HasLaws l) (m : CheckedMethod) (numbers : List (Option ℕ)) (places : Places) (numbered : IsNumbered numbers places) where
  pub claimed : (pc : ℕ) → state_at (claims_of places) pc ≡ held_at numbers places pc
  claimed pc = by_held (held_at numbers places pc) refl
    where
      by_held : (o : Option Types) → held_at numbers places pc ≡ o → state_at (claims_of places) pc ≡ held_at numbers places pc
      by_held None e =
          claimed_none places pc (λ k q f is. of_types q.held (sym (at_number l laws m numbers places pc k q (ap (number_at numbers) (sym is) ∙ numbered.known k q f) f) ∙ e)) ∙ sym e
        where
          of_types : (o : Option StateWithRoom) → option_map (λ s. s.types) o ≡ None → o ≡ None
          of_types o h1 = grind (arith, none-some)
      by_held (Some t) e =
          let by : IsHeldBy l laws m numbers places pc t = held_by l laws m numbers places pc t e in
          claimed_one places by.number pc by.place by.state by.stands (numbered.found pc by.number by.place by.numbered by.stands) by.held
          (λ k q f is. same_Some k by.number (sym (ap (number_at numbers) (sym is) ∙ numbered.known k q f) ∙ by.numbered)) ∙ ap Some by.types ∙ sym e

  -- ---- the pass finds nothing

  module _ (sized : length numbers ≡ length m.code) (listing : List PlacedInstr) (whole : IsListing (package_rules l).decoder m.code listing)
      (starts : (n : ℕ) (p : Place StateWithRoom) → slice_get places n ≡ Some p → begins listing p.pc ≡ true) where
    abbrev rules : Rules
    rules = package_rules l

    abbrev claims : List Claim
    claims = claims_of places

    begins_held : (pc : ℕ) (t : Types) → held_at numbers places pc ≡ Some t → begins listing pc ≡ true
    begins_held pc t e = grind (arith, held_by)

    met : (t : Types) (pc : ℕ) → Leads rules (held_at numbers places) t pc
        → meets_claim rules t (state_at claims pc) ≡ Ok tt
    met t pc h = rw (claimed pc ∙ h.typed, h.below) refl

    arrived : (t : Types) (place : ℤ) → BranchLeads rules (held_at numbers places) t place → arrives rules listing claims t place ≡ Ok tt
    unfolding arrives
    arrived t place h = rw (h.is, begins_held h.pc h.leads.state h.leads.typed) (met t h.pc h.leads)

    all_arrived : (t : Types) (places_of : List ℤ) → AllByRecursion (BranchLeads rules (held_at numbers places) t) places_of → all_arrive rules listing claims t places_of ≡ Ok tt
    all_arrived t [] h = refl
    all_arrived t (place ∷ places_of) h = rw (arrived t place h.0) (all_arrived t places_of h.1)

    handled : (pc : ℕ) (t : Types) (h : CheckedHandler) → HandlerLeads rules (held_at numbers places) pc t h → handles rules claims pc t h ≡ Ok tt
    unfolding handles
    handled pc t h leads = by_cover (covers h pc) refl
      where
        by_cover : (b : Bool) → covers h pc ≡ b → cond b (catches_at rules claims t h.goes_on h.caught) (Ok tt) ≡ Ok tt
        by_cover b h1 = grind (arith, met)

    all_handled : (pc : ℕ) (t : Types) (hs : List CheckedHandler) → AllByRecursion (HandlerLeads rules (held_at numbers places) pc t) hs → all_handle rules claims pc t hs ≡ Ok tt
    all_handled pc t [] leads = refl
    all_handled pc t (h ∷ hs) leads = rw (handled pc t h leads.0) (all_handled pc t hs leads.1)

    -- what goes on to a pc is closed, and no place is there
    abbrev IsFlow : Option Types → ℕ → Type 0
    IsFlow None pc = ⊤
    IsFlow (Some t) pc = (number_at numbers pc ≡ None) × IsClosed rules m numbers (held_at numbers places) pc t

    -- an answer with what goes on
    record Goes (r : Result (Option Types) Reason) (pc : ℕ) : Type 0 where
      flow : Option Types
      is : r ≡ Ok flow
      fine : IsFlow flow pc

    none_claimed : (pc : ℕ) → number_at numbers pc ≡ None → state_at claims pc ≡ None
    none_claimed pc e = claimed pc ∙ ap (λ o. option_and_then types_held (option_and_then (slice_get places) o)) e

    falls_closed : (t : Types) (pc : ℕ) → pc < length m.code → number_at numbers pc ≡ None → IsClosed rules m numbers (held_at numbers places) pc t → Goes (falls_to rules m claims t pc) pc
    unfolding falls_to
    falls_closed t pc lt none closed = record { flow = Some t; is = rw (lt-ltb pc (length m.code) lt, none_claimed pc none) refl; fine = (none, closed) }

    within : (t : Types) (pc : ℕ) → held_at numbers places pc ≡ Some t → pc < length m.code
    within t pc e = grind (arith, held_by, number_within)

    falls_met : (t : Types) (pc : ℕ) → Leads rules (held_at numbers places) t pc → Goes (falls_to rules m claims t pc) pc
    unfolding falls_to
    falls_met t pc h = record { flow = None; is = rw (lt-ltb pc (length m.code) (within h.state pc h.typed), claimed pc ∙ h.typed, h.below) refl; fine = tt }

    falls_if_met : (falls : Bool) (t : Types) (pc : ℕ) → Leads rules (held_at numbers places) t pc → Goes (falls_if rules m claims falls t pc) pc
    falls_if_met falls t pc h1 = grind (arith, falls_met)

    falls_if_closed : (falls : Bool) (t : Types) (pc : ℕ) → pc < length m.code → number_at numbers pc ≡ None → IsClosed rules m numbers (held_at numbers places) pc t → Goes (falls_if rules m claims falls t pc) pc
    falls_if_closed falls t pc h1 h2 h3 = grind (arith, falls_closed)

    -- an instruction that was visited
    visited : (x : PlacedInstr) (s after : Types) (pc : ℕ) → IsVisited rules m (held_at numbers places) x s after → Goes (falls_if rules m claims (falls_of x.instr.operation) after x.instr.next_pc) pc → Goes (visit_live rules m listing claims x s) pc
    unfolding visit_live
    visited x s after pc v g = grind (arith, all_handled, handled, all_arrived)

    same_place : (x y : PlacedInstr) → y.pc ≡ x.pc → rules.decoder m.code y.pc ≡ Ok y.instr → rules.decoder m.code x.pc ≡ Ok x.instr → y ≡ x
    same_place x y at decoded is = ap (λ pc. flow.placed pc y.instr) at ∙ ap (flow.placed x.pc) (the_ok y.instr x.instr (sym decoded ∙ ap (rules.decoder m.code) at ∙ is))

    visit_closed : (pc : ℕ) (t : Types) (x : PlacedInstr) → IsClosed rules m numbers (held_at numbers places) pc t → pc ≡ x.pc → rules.decoder m.code x.pc ≡ Ok x.instr
        → Goes (visit_live rules m listing claims x t) x.instr.next_pc
    visit_closed pc t x (ends y s after decoded v stops) at is =
        subst (λ z. Goes (visit_live rules m listing claims z s) z.instr.next_pc) (same_place x y at decoded is)
        (visited y s after y.instr.next_pc v (record { flow = None; is = rw stops refl; fine = tt }))
    visit_closed pc t x (flow.meets y s after decoded v leads) at is =
        subst (λ z. Goes (visit_live rules m listing claims z s) z.instr.next_pc) (same_place x y at decoded is)
        (visited y s after y.instr.next_pc v (falls_if_met (falls_of y.instr.operation) after y.instr.next_pc leads))
    visit_closed pc t x (goes_on y s after decoded v lt none closed) at is =
        subst (λ z. Goes (visit_live rules m listing claims z s) z.instr.next_pc) (same_place x y at decoded is)
        (visited y s after y.instr.next_pc v (falls_if_closed (falls_of y.instr.operation) after y.instr.next_pc lt none closed))

    module _ (closed : AreAllClosed l m numbers places) where
      visit_fine : (x : PlacedInstr) (flow_in : Option Types) → rules.decoder m.code x.pc ≡ Ok x.instr → IsFlow flow_in x.pc → Goes (visit rules m listing claims x flow_in) x.instr.next_pc
      unfolding visit
      visit_fine x flow_in is fine = by_claim (state_at claims x.pc) refl flow_in fine
        where
          by_claim : (o : Option Types) → state_at claims x.pc ≡ o → (f : Option Types) → IsFlow f x.pc → Goes (visit_on rules m listing claims x o f) x.instr.next_pc
          by_claim o h1 f h2 = grind (arith, held_by, claimed, visit_closed)

      walked : (flow_in : Option Types) (pc : ℕ) (xs : List PlacedInstr) → StandBetween rules.decoder m.code pc xs (length m.code) → IsFlow flow_in pc → walk rules m listing claims flow_in xs ≡ Ok tt
      unfolding walk
      walked flow_in pc [] runs fine = refl
      walked flow_in pc (x ∷ xs) runs fine =
          let is : rules.decoder m.code x.pc ≡ Ok x.instr = ap (rules.decoder m.code) runs.0 ∙ runs.1 in
          let g : Goes (visit rules m listing claims x flow_in) x.instr.next_pc = visit_fine x flow_in is (subst (IsFlow flow_in) (sym runs.0) fine) in
          rw g.is (walked g.flow x.instr.next_pc xs runs.2 g.fine)

      flow_fine : IsEntryMet l m numbers (held_at numbers places) → flow_findings_of rules m listing claims ≡ Ok tt
      flow_fine entered = by_on entered.on entered.falls entered.closed
        where
          of_goes : Goes (falls_to rules m claims (entry_of m) 0) 0 → flow_findings_of rules m listing claims ≡ Ok tt
          of_goes g = rw g.is (walked g.flow 0 listing whole g.fine)

          by_on : (on : Bool) → flow.FallsIf on rules m numbers (held_at numbers places) 0 (entry_of m) → flow.ClosedIf on rules m numbers (held_at numbers places) 0 (entry_of m) → flow_findings_of rules m listing claims ≡ Ok tt
          by_on on h1 h2 = grind (arith, of_goes, falls_closed, falls_met)

-- ---- handlers and states stand

pub handlers_fine : (listing : List PlacedInstr) (hs : List CheckedHandler) → AllByRecursion (HandlerStands listing) hs → handlers_stand listing hs ≡ Ok tt
unfolding handlers_stand
handlers_fine listing [] h = refl
handlers_fine listing (x ∷ hs) h = rw (h.0.begin, h.0.catches) (handlers_fine listing hs h.1)

module _ (l : Linked) (m : CheckedMethod) (listing : List PlacedInstr) where
  -- what a place holds stands where an instruction begins, in the shape of the method
  abbrev IsFit : Place StateWithRoom → Type 0
  IsFit p = (begins listing p.pc ≡ true) × ((s : StateWithRoom) → p.held ≡ Some s → HasShape m s.types)

  row_claimed : (pc : ℕ) (t : Types) (c : Stated) → IsStateRow (class_of_name l.world) pc t c → claim_of (package_rules l) c ≡ Some (claim_at pc t)
  unfolding claim_of
  row_claimed pc t c is = rw (is.locals, is.operands, is.at) refl

  row_shape : (pc : ℕ) (t : Types) (c : Stated) → IsStateRow (class_of_name l.world) pc t c → HasShape m t → has_shape m c ≡ true
  row_shape pc t c is shape = rw (eq-eqb (length c.locals) (length m.arguments + m.max_locals) (is.local_count ∙ shape.locals), le-leb (length c.operands) m.max_stack (omega (arith, is.depth, shape.operands))) refl

  row_stands : (pc : ℕ) (t : Types) (c : Stated) → IsStateRow (class_of_name l.world) pc t c → begins listing pc ≡ true → HasShape m t → state_stands (package_rules l) m listing c ≡ Ok (claim_at pc t)
  row_stands pc t c is begin shape = rw (ap (begins listing) is.at ∙ begin, row_shape pc t c is shape, row_claimed pc t c is) refl

  pub states_fine : (places : Places) (cs : List Stated) → AllByRecursion IsFit places → AreStateRows (class_of_name l.world) places cs → states_stand (package_rules l) m listing cs ≡ Ok (claims_of places)
  unfolding states_stand claims_of
  states_fine [] cs fit are = rw are refl
  states_fine (p ∷ places) cs fit are = by_held p.held refl (λ ds. states_fine places ds fit.1) are
    where
      by_held : (o : Option StateWithRoom) → p.held ≡ o → ((ds : List Stated) → AreStateRows (class_of_name l.world) places ds → states_stand (package_rules l) m listing ds ≡ Ok (claims_of places))
          → RowIf (class_of_name l.world) p.pc o (AreStateRows (class_of_name l.world) places) cs → states_stand (package_rules l) m listing cs ≡ Ok (claim_if p.pc o (claims_of places))
      by_held o h1 h2 h3 = grind (arith, row_stands)

-- each of a list, by where it stands
pub all_by_place : {A : Type 0} (P : A → Type 0) (xs : List A) → ((n : ℕ) (x : A) → slice_get xs n ≡ Some x → P x) → AllByRecursion P xs
all_by_place P [] h = tt
all_by_place P (x ∷ xs) h = (h 0 x refl, all_by_place P xs (λ n y e. h (suc n) y e))

-- what is found of the rows of places from which control flow was followed
pub found_fine : (l : Linked) (laws : HasLaws l) (m : CheckedMethod) (numbers : List (Option ℕ)) (places : Places) (listing : List PlacedInstr) (cs : List Stated) → IsNumbered numbers places → length numbers ≡ length m.code
    → IsListing (package_rules l).decoder m.code listing → ((n : ℕ) (p : Place StateWithRoom) → slice_get places n ≡ Some p → begins listing p.pc ≡ true) → AreShaped m places → AreAllClosed l m numbers places → IsEntryMet l m numbers (held_at numbers places)
    → AllByRecursion (HandlerStands listing) m.handlers → AreStateRows (class_of_name l.world) places cs → findings_of (package_rules l) m listing cs ≡ Ok tt
unfolding findings_of
found_fine l laws m numbers places listing cs numbered sized whole starts shaped closed entered handlers rows =
    let fit : AllByRecursion (IsFit l m listing) places = all_by_place (IsFit l m listing) places (λ n p e. (starts n p e, λ s held. shaped n p s e held)) in
    rw (handlers_fine listing m.handlers handlers, states_fine l m listing places cs fit rows) (flow_fine l laws m numbers places numbered sized listing whole starts closed entered)

-- where nothing is found, the method is carried
pub carried : (l : Linked) (laws : HasLaws l) (m : CheckedMethod) (listing : List PlacedInstr) (cs : List Stated) → IsListing (package_rules l).decoder m.code listing → m.code ≢ [] → findings_of (package_rules l) m listing cs ≡ Ok tt
    → Carries (package_rules l) m cs ⊎ ((fault : Fault) × IsFirstFault (package_rules l) m cs fault) → Carries (package_rules l) m cs
carried l laws m listing cs whole some fine (inl h) = h
carried l laws m listing cs whole some fine (inr (fault, h)) = absurd (no_fault fault h)
  where
    no_fault : (fault : Fault) → IsFirstFault (package_rules l) m cs fault → ⊥
    no_fault fault (empty e) = some e
    no_fault fault (undecoded pc why stops) = laws.listing.never_both m.code listing pc why whole stops
    no_fault fault (found other f is_listing apart e) = search (arith, ok_err)

-- places that are numbered alike stand at the same pcs
pub held_kept : (P : ℕ → Type 0) (numbers : List (Option ℕ)) (before after : Places) → IsNumbered numbers before → IsNumbered numbers after
    → ((n : ℕ) (p : Place StateWithRoom) → slice_get before n ≡ Some p → P p.pc) → (n : ℕ) (p : Place StateWithRoom) → slice_get after n ≡ Some p → P p.pc
held_kept P numbers before after was now holds n p e =
    let number = now.known n p e in
    let there = slice_get-get_or before n p (was.within p.pc n number) in
    subst P (was.found p.pc n (get_or before n p) number there) (holds n (get_or before n p) there)

-- what holds of the row of each place that holds something holds of all rows
pub rows_each : (class_of : SpelledClass → Option ClassName) (Q : Stated → Type 0) (places : Places) (cs : List Stated) → AreStateRows class_of places cs
    → ((n : ℕ) (p : Place StateWithRoom) (s : StateWithRoom) (c : Stated) → slice_get places n ≡ Some p → p.held ≡ Some s → IsStateRow class_of p.pc s.types c → Q c) → AllByRecursion Q cs
rows_each class_of Q [] cs are holds = subst (AllByRecursion Q) (sym are) tt
rows_each class_of Q (p ∷ places) cs are holds = by_held p.held refl (λ ds h. rows_each class_of Q places ds h (λ n q s c e. holds (suc n) q s c e)) are
  where
    by_held : (o : Option StateWithRoom) → p.held ≡ o → ((ds : List Stated) → AreStateRows class_of places ds → AllByRecursion Q ds) → RowIf class_of p.pc o (AreStateRows class_of places) cs → AllByRecursion Q cs
    by_held None e rest are = rest cs are
    by_held (Some s) e rest are = subst (AllByRecursion Q) (sym are.are) (holds 0 p s are.row refl e are.states, rest are.rest are.behind)

-- a typing, by what code decodes to
pub upper_of : (l : Linked) → HasLaws l → (m : CheckedMethod) (typing : Typing) → IsTyping (package_rules l) m typing → IsUpper l m typing
upper_of l laws m typing typed = record {
  entry = typed.entry;
  each = λ pc t instr e decoded.
      let at = typed.each pc t e in
      let has = laws.listing.has m.code typed.listing pc at.instr typed.whole at.stands in
      let same : at.instr ≡ flow.placed pc instr = ap (λ k. flow.placed k at.instr.instr) has.0 ∙ ap (flow.placed pc) (the_ok at.instr.instr instr (sym has.1 ∙ decoded)) in
      subst (λ x. IsFine (package_rules l) m typing x t) same at.fine;
}

-- rows of places that lie below a typing lie below it
pub rows_least : (l : Linked) (laws : HasLaws l) (m : CheckedMethod) (numbers : List (Option ℕ)) (places : Places) (cs : List Stated) → IsNumbered numbers places → AreStateRows (class_of_name l.world) places cs
    → (typing : Typing) → IsUnder l numbers places typing → AllByRecursion (LiesBelow l typing) cs
rows_least l laws m numbers places cs numbered are typing under =
    rows_each (class_of_name l.world) (LiesBelow l typing) places cs are (λ n p s c at held row. record {
      claim = claim_at p.pc s.types;
      found = row_claimed l m [] p.pc s.types c row;
      leads =
          let there : Leads (package_rules l) typing s.types p.pc = under p.pc s.types (at_number l laws m numbers places p.pc n p (numbered.known n p at) at ∙ ap (option_map (λ (x : StateWithRoom). x.types)) held) in
          subst (λ pc. Leads (package_rules l) typing (types_of (claim_at p.pc s.types)) pc) (sym row.at)
          (subst (λ (ops : List Ty). Leads (package_rules l) typing (types_with s.types.locals ops) p.pc) (sym (reverse-reverse s.types.operands)) there);
    })
