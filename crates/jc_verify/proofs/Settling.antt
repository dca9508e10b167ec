-- What stays closed while places are raised, and what is left of them.
use Rattle.std.proofs.Common.{◌≡◌, ◌≢◌, ◌⊎◌, inl, inr, ℕ, ℤ, zero, suc, ◌+◌, ◌-◌, ◌<◌, ◌≤◌, true, false, List, [], ◌∷◌, length, Option, Some, None, slice_get, slice_set, refl, sym, ap, subst, ◌∙◌, arith}
use Rattle.std.specs.List.{AllByRecursion}
use Rattle.std.proofs.lemmas.Bool.{cases_eq}
use Rattle.std.proofs.lemmas.Option.{none-some, same_Some, slice_get_within}
use Rattle.jc_code.specs.Listing.{PlacedInstr}
use Rattle.jc_check.specs.Method.{CheckedHandler, CheckedMethod}
use Rattle.jc_check.specs.Package.{package_rules}
use Rattle.jc_check.specs.Typing.{BranchLeads, HandlerLeads, HasShape, Leads, Typing}
use Rattle.jc_link.specs.Linked.{Linked}
use Rattle.jc_types.specs.State.{StateWithRoom, Types}
use Rattle.jc_verify.specs.PrivateFlow.{Grown, HasLaws, HasRoom, IsClosed, IsUnder, IsUpper, IsVisited, Places, Risen, held_at, height_in, left_in, most_height, number_at, types_held, below_in, ends, meets, goes_on}
use Rattle.jc_verify.specs.PrivateTold.{AreReached}
use Rattle.jc_verify.specs.PrivatePlaces.{IsStep, left_of}
use Rattle.jc_verify.specs.PrivateSettled.{IsFollowed, IsSettled, IsSwept, settled_place}
use Rattle.jc_verify.specs.PrivateWork.{Bears, ClosedFrom, FlowsTo, HasTaken, HaveRoom, IsAtWork}
use Rattle.jc_verify.specs.declared.flow.MethodFlow.{MethodFlow}
use Rattle.jc_verify.specs.declared.place.Place.{Place}
use Rattle.jc_verify.proofs.Arriving.{IsHeldBy, at_number, held_by, set_length, set_other, set_same}
use Rattle.jc_verify.proofs.Growing.{grown_self, leads_on, risen_self, risen_through}
use Rattle.jc_verify.proofs.Reaching.{reached_cleared, types_reached}
use Rattle.jc_verify.proofs.Taking.{work_on}
use Rattle.jc_verify.proofs.Stepping.{left_falls, raised_falls, stands}

all_on : {A : Type 0} (P Q : A → Type 0) → ((x : A) → P x → Q x) → (xs : List A) → AllByRecursion P xs → AllByRecursion Q xs
all_on P Q on [] h = tt
all_on P Q on (x ∷ xs) h = (on x h.0, all_on P Q on xs h.1)

module _ (l : Linked) (laws : HasLaws l) (m : CheckedMethod) (numbers : List (Option ℕ)) where
  -- ---- what is closed stays closed

  module _ (before after : Places) (g : Risen l m numbers before after) where
    branch_on : (t : Types) (place : ℤ) → BranchLeads (package_rules l) (held_at numbers before) t place → BranchLeads (package_rules l) (held_at numbers after) t place
    branch_on t place h = record { pc = h.pc; is = h.is; leads = leads_on l laws m numbers before after g t h.pc h.leads }

    handler_on : (pc : ℕ) (t : Types) (h : CheckedHandler) → HandlerLeads (package_rules l) (held_at numbers before) pc t h → HandlerLeads (package_rules l) (held_at numbers after) pc t h
    handler_on pc t h leads covers = let k = leads covers in record { class = k.class; catches = k.catches; leads = leads_on l laws m numbers before after g _ h.goes_on k.leads }

    visited_on : (x : PlacedInstr) (s after_types : Types) → IsVisited (package_rules l) m (held_at numbers before) x s after_types → IsVisited (package_rules l) m (held_at numbers after) x s after_types
    visited_on x s t v = grind (arith, all_on, before, handler_on, branch_on)

    pub closed_on : (pc : ℕ) (t : Types) → IsClosed (package_rules l) m numbers (held_at numbers before) pc t → IsClosed (package_rules l) m numbers (held_at numbers after) pc t
    closed_on pc t (ends x s u decoded visited stops) = ends x s u decoded (visited_on x s u visited) stops
    closed_on pc t (meets x s u decoded visited leads) = meets x s u decoded (visited_on x s u visited) (leads_on l laws m numbers before after g u x.instr.next_pc leads)
    closed_on pc t (goes_on x s u decoded visited within none closed) = goes_on x s u decoded (visited_on x s u visited) within none (closed_on x.instr.next_pc u closed)

  -- ---- a place is taken up

  abbrev pub cleared : Places → ℕ → Place StateWithRoom → Places
  cleared places number p = slice_set places number (settled_place p)

  module _ (places : Places) (number : ℕ) (p : Place StateWithRoom) (at : slice_get places number ≡ Some p) where
    here : slice_get (cleared places number p) number ≡ Some (settled_place p)
    here = set_same places number (settled_place p) (slice_get_within places number p at)

    -- what holds of a place by its pc and by what it holds
    same_held : (P : ℕ → Option StateWithRoom → Type 0) (n : ℕ) (q : Place StateWithRoom) → slice_get (cleared places number p) n ≡ Some q
        → ((r : Place StateWithRoom) → slice_get places n ≡ Some r → P r.pc r.held) → P q.pc q.held
    same_held P n q e on = by_number (cases_eq n number)
      where
        by_number : (n ≡ number) ⊎ (n ≡ number → ⊥) → P q.pc q.held
        by_number h1 = grind (arith, same_Some, here, set_other)

    cleared_rises : (pc : ℕ) (t : Types) → held_at numbers places pc ≡ Some t → Leads (package_rules l) (held_at numbers (cleared places number p)) t pc
    cleared_rises pc t e = by_number (cases_eq by.number number)
      where
        by : IsHeldBy l laws m numbers places pc t
        by = held_by l laws m numbers places pc t e

        of_place : (q : Place StateWithRoom) → slice_get (cleared places number p) by.number ≡ Some q → q.held ≡ by.place.held → Leads (package_rules l) (held_at numbers (cleared places number p)) t pc
        of_place q f same = record {
          state = t;
          typed = at_number l laws m numbers (cleared places number p) pc by.number q by.numbered f ∙ ap (λ (o : Option StateWithRoom). types_held (record { pc = 0; held = o; changed = false })) (same ∙ by.held) ∙ ap Some by.types;
          below = laws.itself t;
        }

        by_number : (by.number ≡ number) ⊎ (by.number ≡ number → ⊥) → Leads (package_rules l) (held_at numbers (cleared places number p)) t pc
        by_number h1 = grind (arith, by, same_Some, stands, of_place, here, set_other)

    pub cleared_risen : Risen l m numbers places (cleared places number p)
    cleared_risen = record {
      rises = cleared_rises;
      numbered = λ h. record {
        within = λ pc n e. let k = h.within pc n e in omega (arith, k, set_length places number (settled_place p));
        known = λ n q e. same_held (λ pc o. number_at numbers pc ≡ Some n) n q e (λ r f. h.known n r f);
        found = λ pc n q e f. same_held (λ at o. at ≡ pc) n q f (λ r g. h.found pc n r e g);
      };
      shaped = λ h n q s e f. same_held (λ pc o. o ≡ Some s → HasShape m s.types) n q e (λ r g k. h n r s g k) f;
    }

    -- what is held is the same
    pub cleared_under : (typing : Typing) → IsUnder l numbers places typing → IsUnder l numbers (cleared places number p) typing
    cleared_under typing under pc t e =
        same_held (λ at o. o ≡ Some by.state → Leads (package_rules l) typing t pc) by.number by.place by.stands
        (λ r f held. under pc t (at_number l laws m numbers places pc by.number r by.numbered f ∙ ap (λ (o : Option StateWithRoom). types_held (record { pc = 0; held = o; changed = false })) held ∙ ap Some by.types)) by.held
      where
        by : IsHeldBy l laws m numbers (cleared places number p) pc t
        by = held_by l laws m numbers (cleared places number p) pc t e

    cleared_settled : IsSettled l m numbers places → (n : ℕ) (q : Place StateWithRoom) (t : Types) → (n ≡ number → ⊥) → slice_get (cleared places number p) n ≡ Some q → q.changed ≡ false → types_held q ≡ Some t
        → IsClosed (package_rules l) m numbers (held_at numbers (cleared places number p)) q.pc t
    cleared_settled h n q t other e unchanged held = grind (arith, closed_on, cleared_risen, set_other)

    same_left : (ps : Places) (n : ℕ) → slice_get ps n ≡ Some p → left_in l m (slice_set ps n (settled_place p)) ≡ left_in l m ps
    same_left [] n e = refl
    same_left (x ∷ ps) zero e = ap (λ (y : Place StateWithRoom). left_of (height_in l.world) (most_height m) y + left_in l m ps) (sym (same_Some x p e))
    same_left (x ∷ ps) (suc n) e = ap (λ k. left_of (height_in l.world) (most_height m) x + k) (same_left ps n e)

    -- ---- and followed

    -- nothing was followed, as the place hadn't changed
    pub not_followed : p.changed ≡ false → IsFollowed l m numbers number places places
    not_followed unchanged = record {
      risen = risen_self l laws m numbers places;
      under = λ typing upper under. under;
      reached = λ h. h;
      settled = λ h. h;
      left = omega arith;
      flags = λ n q e changed. inr (λ is. absurd (flag n q e changed is), q, e, changed);
    }
      where
        flag : (n : ℕ) (q : Place StateWithRoom) → slice_get places n ≡ Some q → q.changed ≡ true → n ≡ number → ⊥
        flag n q e changed is = grind (arith, same_Some)

    module _ (after : Places) (g : Grown l m numbers (cleared places number p) after)
        (closed : (t : Types) → types_held p ≡ Some t → IsClosed (package_rules l) m numbers (held_at numbers after) p.pc t)
        (least : (typing : Typing) → IsUpper l m typing → IsUnder l numbers places typing → IsUnder l numbers after typing) (reached : AreReached l m places → AreReached l m after) where
      -- a place that hasn't changed since is as it was
      unchanged_since : (n : ℕ) (q : Place StateWithRoom) → slice_get after n ≡ Some q → q.changed ≡ false → slice_get (cleared places number p) n ≡ Some q
      unchanged_since n q e unchanged = by_step (g.steps.each n before.0 q before.1 e)
        where
          before : (x : Place StateWithRoom) × (slice_get (cleared places number p) n ≡ Some x)
          before = stands (below_in l.world) (height_in l.world) (most_height m) after (cleared places number p) (sym g.steps.len) n q e

          by_step : IsStep (below_in l.world) (height_in l.world) (most_height m) before.0 q → slice_get (cleared places number p) n ≡ Some q
          by_step h1 = grind (arith, before)

      followed_settled : IsSettled l m numbers places → IsSettled l m numbers after
      followed_settled h n q t e unchanged held = by_number (cases_eq n number)
        where
          was : slice_get (cleared places number p) n ≡ Some q
          was = unchanged_since n q e unchanged

          by_number : (n ≡ number) ⊎ (n ≡ number → ⊥) → IsClosed (package_rules l) m numbers (held_at numbers after) q.pc t
          by_number h1 = grind (arith, same_Some, here, was, closed_on, cleared_settled)

      left_after : left_in l m after ≤ left_in l m places
      left_after = search (arith, left_falls, same_left)

      followed_flags : (n : ℕ) (q : Place StateWithRoom) → slice_get after n ≡ Some q → q.changed ≡ true
          → (left_in l m after < left_in l m places) ⊎ ((n ≢ number) × (r : Place StateWithRoom) × (slice_get places n ≡ Some r) × (r.changed ≡ true))
      followed_flags n q e changed = by_step (g.steps.each n before.0 q before.1 e)
        where
          before : (x : Place StateWithRoom) × (slice_get (cleared places number p) n ≡ Some x)
          before = stands (below_in l.world) (height_in l.world) (most_height m) after (cleared places number p) (sym g.steps.len) n q e

          by_number : (q ≡ before.0) → (n ≡ number) ⊎ (n ≡ number → ⊥) → (left_in l m after < left_in l m places) ⊎ ((n ≢ number) × (r : Place StateWithRoom) × (slice_get places n ≡ Some r) × (r.changed ≡ true))
          by_number h1 h2 = grind (arith, before, same_Some, here, set_other)

          by_step : IsStep (below_in l.world) (height_in l.world) (most_height m) before.0 q → (left_in l m after < left_in l m places) ⊎ ((n ≢ number) × (r : Place StateWithRoom) × (slice_get places n ≡ Some r) × (r.changed ≡ true))
          by_step (inl same) = by_number same (cases_eq n number)
          by_step (inr raised) =
              let falls = raised_falls (below_in l.world) (height_in l.world) (most_height m) (cleared places number p) after g.steps n before.0 q before.1 e raised in
              inl (omega (arith, falls, same_left places number at))

      pub followed : IsFollowed l m numbers number places after
      followed = grind (arith, risen_through, cleared_risen, followed_settled, left_after, followed_flags)

  -- ---- one place after the other

  pub swept_none : (first : ℕ) (places : Places) → IsSwept l m numbers first first places places
  swept_none first places = record { risen = risen_self l laws m numbers places; under = λ typing upper under. under; reached = λ h. h; settled = λ h. h; left = omega arith; flags = λ n p le lt. absurd (omega (arith, le, lt)) }

  -- one place more behind those that were swept, or before them
  module _ (first end k from to : ℕ) (start now next : Places) (s : IsSwept l m numbers first end start now) (f : IsFollowed l m numbers k now next)
      (outside : (n : ℕ) → from ≤ n → n < to → (n ≡ k → ⊥) → (first ≤ n) × (n < end)) where
    pub swept_more : IsSwept l m numbers from to start next
    swept_more = record {
      risen = risen_through l laws m numbers start now next s.risen f.risen;
      under = λ typing upper under. f.under typing upper (s.under typing upper under);
      reached = λ h. f.reached (s.reached h);
      settled = λ h. f.settled (s.settled h);
      left = omega (arith, s.left, f.left);
      flags = λ n p le lt e changed. by_flag n le lt (f.flags n p e changed);
    }
      where
        by_flag : (n : ℕ) → from ≤ n → n < to → (left_in l m next < left_in l m now) ⊎ ((n ≢ k) × (q : Place StateWithRoom) × (slice_get now n ≡ Some q) × (q.changed ≡ true)) → left_in l m next < left_in l m start
        by_flag n le lt (inl falls) = omega (arith, falls, s.left)
        by_flag n le lt (inr (other, q, e, changed)) =
            let within : (first ≤ n) × (n < end) = outside n le lt other in
            let lower = s.flags n q within.0 within.1 e changed in
            omega (arith, lower, f.left)

  pub swept_one : (k : ℕ) (start now next : Places) → IsSwept l m numbers 0 k start now → IsFollowed l m numbers k now next → IsSwept l m numbers 0 (k + 1) start next
  swept_one k start now next s f = swept_more 0 k k 0 (k + 1) start now next s f (λ n le lt other. (omega arith, omega (arith, lt, other)))

  pub swept_before : (number end : ℕ) (start now next : Places) → 0 < number → IsSwept l m numbers number end start now → IsFollowed l m numbers (number - 1) now next → IsSwept l m numbers (number - 1) end start next
  swept_before number end start now next some s f = swept_more number end (number - 1) (number - 1) end start now next s f (λ n le lt other. (omega (arith, some, le, other), lt))

  -- all of them once more
  pub swept_again : (end last : ℕ) (start now next : Places) → IsSwept l m numbers 0 end start now → IsSwept l m numbers 0 last now next → IsSwept l m numbers 0 last start next
  swept_again end last start now next s t = record {
    risen = risen_through l laws m numbers start now next s.risen t.risen;
    under = λ typing upper under. t.under typing upper (s.under typing upper under);
    reached = λ h. t.reached (s.reached h);
    settled = λ h. t.settled (s.settled h);
    left = omega (arith, s.left, t.left);
    flags = λ n p le lt e changed. let less = t.flags n p le lt e changed in omega (arith, less, s.left);
  }

  -- ---- what taking up a place leaves

  module _ (places : Places) (number : ℕ) (p q : Place StateWithRoom) (at : slice_get places number ≡ Some p) where
    -- nothing was put there
    put_back : (ps : Places) (n : ℕ) → slice_get ps n ≡ Some p → slice_set ps n p ≡ ps
    put_back [] n e = refl
    put_back (x ∷ ps) zero e = ap (λ y. y ∷ ps) (sym (same_Some x p e))
    put_back (x ∷ ps) (suc n) e = ap (λ ys. x ∷ ys) (put_back ps n e)

    pub none_taken : (q ≡ p × (p.changed ≡ false)) ⊎ (q ≡ settled_place p × (types_held p ≡ None)) → IsFollowed l m numbers number places (slice_set places number q)
    none_taken (inl (same, unchanged)) =
        subst (λ ps. IsFollowed l m numbers number places ps) (sym (ap (slice_set places number) same ∙ put_back places number at)) (not_followed places number p at unchanged)
    none_taken (inr (same, none)) =
        subst (λ x. IsFollowed l m numbers number places (slice_set places number x)) (sym same)
        (followed places number p at (cleared places number p) (grown_self l laws m numbers (cleared places number p)) (λ t e. absurd (none-some t (sym none ∙ e)))
        (λ typing upper under. cleared_under places number p at typing under) (λ h. reached_cleared l m places number p (settled_place p) at refl refl h))

  -- ---- where nothing was held before

  module _ (before after : Places) (empty : (n : ℕ) (p : Place StateWithRoom) → slice_get before n ≡ Some p → p.held ≡ None) where
    pub settled_first : Grown l m numbers before after → IsSettled l m numbers after
    settled_first g n q t e unchanged held = by_step (g.steps.each n was.0 q was.1 e)
      where
        was : (x : Place StateWithRoom) × (slice_get before n ≡ Some x)
        was = stands (below_in l.world) (height_in l.world) (most_height m) after before (sym g.steps.len) n q e

        by_step : IsStep (below_in l.world) (height_in l.world) (most_height m) was.0 q → IsClosed (package_rules l) m numbers (held_at numbers after) q.pc t
        by_step h1 = grind (arith, was, none-some)

    pub under_first : (typing : Typing) → IsUnder l numbers before typing
    under_first typing pc t e = let by : IsHeldBy l laws m numbers before pc t = held_by l laws m numbers before pc t e in absurd (none-some by.state (sym (empty by.number by.place by.stands) ∙ by.held))

-- ---- a place that was taken up

module _ {f : MethodFlow} {places : Places} (work : IsAtWork f places) (number : ℕ) {p q : Place StateWithRoom} (at : slice_get places number ≡ Some p) {start : ℕ} {s : Types}
    (taken : (p.pc ≡ start) × (q ≡ settled_place p) × (types_held p ≡ Some s)) where
  pub taken_work : IsAtWork f (slice_set places number q)
  taken_work = subst (λ (x : Place StateWithRoom). IsAtWork f (slice_set places number x)) (sym taken.1)
      (work_on work (cleared_risen f.linked.now work.sound.laws f.method.now f.numbers.now places number p at) (reached_cleared f.linked.now f.method.now places number p (settled_place p) at refl refl work.reached))

  pub taken_flows : FlowsTo f start s
  taken_flows = subst (λ (n : ℕ). FlowsTo f n s) taken.0 (types_reached f.linked.now f.method.now p.pc p.held s taken.2 (λ x e. work.reached number p x at e))

  pub taken_under : {typing : Typing} → IsUnder f.linked.now f.numbers.now places typing → IsUnder f.linked.now f.numbers.now (slice_set places number q) typing
  taken_under {typing} under = grind (arith, slice_set, cleared_under)

  -- what a typing says of it
  pub taken_bears : {typing : Typing} → IsUpper f.linked.now f.method.now typing → IsUnder f.linked.now f.numbers.now places typing → Bears f start s typing
  taken_bears {typing} upper under = grind (arith, at_number)

  pub one_taken : {after : Places} → HasTaken f (ClosedFrom f start s) (Bears f start s) (slice_set places number q) after → IsFollowed f.linked.now f.method.now f.numbers.now number places after
  one_taken {after} t = grind (arith, risen_self, followed, slice_set, same_Some, taken_under, taken_bears)

-- what a place holds fits into a state with room, which has room then
pub fits_place : {f : MethodFlow} {places : Places} (number : ℕ) {p : Place StateWithRoom} {state : StateWithRoom} → IsAtWork f places → HasRoom f.method.now state → slice_get places number ≡ Some p
    → (s : StateWithRoom) → p.held ≡ Some s → (length s.types.locals ≡ length state.types.locals) × (length s.types.operands ≤ state.room)
fits_place {f} {places} number {p} {state} work room at s held = grind arith

pub room_taken : {f : MethodFlow} {caught state after : StateWithRoom} → HaveRoom f caught state → after.room ≡ state.room → length after.types.locals ≡ length state.types.locals → HaveRoom f caught after
room_taken have room locals = record { caught = have.caught; state = record { locals = locals ∙ have.state.locals; room = room ∙ have.state.room } }

-- places that were swept are at work
pub swept_work : {f : MethodFlow} {first end : ℕ} {places after : Places} → IsAtWork f places → IsSwept f.linked.now f.method.now f.numbers.now first end places after → IsAtWork f after
swept_work work swept = work_on work swept.risen (swept.reached work.reached)
