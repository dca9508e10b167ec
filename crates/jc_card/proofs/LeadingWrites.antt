-- Where the runtime's own accesses lead: what it writes, and what it clears.
use Rattle.std.proofs.Common.{◌≡◌, ℕ, zero, suc, ◌+◌, List, [], ◌∷◌, ◌++◌, map, set, length, Option, Some, None, Bool}
use Rattle.std.proofs.Common.{true, false, cond, refl, sym, ap, subst, ◌∙◌, inl, inr, ◌⊎◌, slice_get, IfSome, ◌≢◌}
use Rattle.std.proofs.Common.{IsSome, ◌&&◌, arith, ◌==◌, eqb-true, eq-eqb}
use Rattle.std.proofs.lemmas.Bool.{both_ways}
use Rattle.std.proofs.lemmas.Option.{none-some, same_Some}
use Rattle.jc_names.specs.declared.owner.Owner.{Owner}
use Rattle.jc_store.specs.Heap.{is_same_event, Heap, Object, is_cleared_by, object_at, with_object}
use Rattle.jc_store.specs.declared.kind.Mark.TheVariants.{Plain}
use Rattle.jc_card.proofs.ContentsKept.{heap_both, hidden_is_plain}
use Rattle.jc_card.proofs.Leading.{keeps_self, IsPart}
use Rattle.jc_card.specs.Unseen.{KeepsContents}
use Rattle.jc_card.specs.PrivateGuarded.{StepsGuarded}
use Rattle.jc_card.specs.Accesses.{AllCleared, IsApartCard, law_of_accesses, law_of_plain_objects}
use Rattle.std.proofs.Math.Seq.{length-sets, sets}
use Rattle.std.specs.List.{AllByRecursion}
use Rattle.std.specs.Option.{option_map_or}
use Rattle.jc_firewall.specs.Verdict.{runtime_context, verdict_of}
use Rattle.jc_firewall.specs.declared.access.Access.TheVariants.{PutField, StoreComponent}
use Rattle.jc_firewall.specs.declared.access.Facts.{Facts}
use Rattle.jc_firewall.specs.declared.access.Verdict.TheVariants.{Allowed}
use Rattle.jc_link.specs.Linked.{World}
use Rattle.jc_machine.specs.Guarded.{AddsFor, ChangesAccessed, IsAccessed, are_allowed, may_change}
use Rattle.jc_machine.specs.Lookup.{is_array}
use Rattle.jc_machine.specs.Machine.{Touch}
use Rattle.jc_machine.specs.Natives.{KeepsObjects}
use Rattle.jc_machine.specs.Storable.{HoldStorable, may_be_held}
use Rattle.jc_natives.specs.Apart.{names_applets}
use Rattle.jc_natives.specs.Cells.{put_all}
use Rattle.jc_natives.specs.Kept.{Kept}
use Rattle.jc_natives.specs.Meaning.{own_touch}
use Rattle.jc_safety.specs.Zeroing.{zero_or_null, zeroed, zeroed_where}
use Rattle.jc_store.specs.declared.kind.ClearingEvent.{ClearingEvent}
use Rattle.jc_store.specs.declared.kind.ClearingEvent.TheVariants as events
use Rattle.jc_words.specs.Values.{TaggedValue, Word}
use Rattle.jc_card.proofs.Heaps.{all_put}
use Rattle.jc_card.specs.Commands.{reset_command}
use Rattle.jc_card.specs.Card.{CardState, with_heap}
use Rattle.jc_card.specs.Order.{Claims, Clears, IsClearing, IsOwnAccess, IsOwnWork, IsOwnWrite, Leads, LeavesOthers}
use Rattle.jc_card.specs.Order.{Order, Resets}
use Rattle.jc_card.specs.Order.Leads.{by_reset}
use Rattle.jc_card.specs.Parts.{clear, clearing_touches, runtime_touch, write}

-- ---- the runtime's own access

own_allowed : (b : Bool) (f : Facts) → Allowed ≡ verdict_of (cond b StoreComponent PutField) runtime_context f
own_allowed b f = grind arith

own_access : (w : World) (heap : Heap TaggedValue) (number : ℕ) (o : Object TaggedValue)
    → object_at heap number ≡ Some o → IsOwnAccess w heap (own_touch number o)
own_access w heap number o e = grind (arith, own_allowed)

own_changes : (b : Bool) → may_change (cond b StoreComponent PutField) ≡ true
own_changes b = grind arith

own_accessed : (touches : List Touch) (place number : ℕ) (o : Object TaggedValue)
    → slice_get touches place ≡ Some (own_touch number o) → IsAccessed runtime_context touches number o
own_accessed touches place number o e = record {
  place = place;
  touch = own_touch number o;
  listed = e;
  is = refl;
  changes = own_changes (is_array o.kind.object_type);
  allowed = refl;
  who = inr refl;
  own = λ plain. inr refl;
}

-- ---- another object in the place of one

got_set : {A : Type 0} (xs : List A) (n i : ℕ) (x y : A) → slice_get xs i ≡ Some y
    → ((n ≡ i) × (slice_get (set xs n x) i ≡ Some x)) ⊎ (slice_get (set xs n x) i ≡ Some y)
got_set [] n i x y e = absurd cc
got_set (z ∷ xs) zero zero x y e = inl (refl, refl)
got_set (z ∷ xs) zero (suc i) x y e = inr e
got_set (z ∷ xs) (suc n) zero x y e = inr e
got_set (z ∷ xs) (suc n) (suc i) x y e = grind (arith, got_set xs n i x y e)

module _ (touches : List Touch) (heap : Heap TaggedValue) (o p : Object TaggedValue) (kind : p.kind ≡ o.kind)
    (owner : p.owner ≡ o.owner) (size : length p.cells ≡ length o.cells) where
  one_stays : (number : ℕ) → object_at heap number ≡ Some o → KeepsObjects heap (with_object heap number p)
  one_stays zero found i q e = absurd cc
  one_stays (suc n) found zero q e = absurd cc
  one_stays (suc n) found (suc i) q e = elim (got_set heap n i p q e) [
    | inl new ↦
        let there = subst (λ (k : ℕ). slice_get heap k ≡ Some o) new.0 found in
        let same : o ≡ q = cc in record {
          object = p;
          found = new.1;
          kind = kind ∙ ap (λ (x : Object TaggedValue). x.kind) same;
          owner = owner ∙ ap (λ (x : Object TaggedValue). x.owner) same;
          size = size ∙ ap (λ (x : Object TaggedValue). length x.cells) same;
        }
    | inr old ↦ record { object = q; found = old; kind = refl; owner = refl; size = refl }
  ]

  one_changes : (number : ℕ) → object_at heap number ≡ Some o → IsAccessed runtime_context touches number o
      → ChangesAccessed runtime_context touches heap (with_object heap number p)
  one_changes number h1 h2 = grind (arith, got_set)

-- ---- what is written

nothing_put : (heap : Heap TaggedValue) (number from : ℕ) (values : List TaggedValue) → object_at heap number ≡ None
    → put_all heap number from values ≡ heap
nothing_put heap number from [] e = refl
nothing_put heap number from (v ∷ values) e = grind (arith, nothing_put heap number (from + 1) values e)

module _ (w : World) (heap : Heap TaggedValue) (number : ℕ) (values : List TaggedValue) where
  abbrev touches_for : Option (Object TaggedValue) → List Touch
  touches_for found = option_map_or (λ object. own_touch number object ∷ []) found []

  put_work : (found : Option (Object TaggedValue)) → object_at heap number ≡ found
      → IsOwnWork w heap (touches_for found) (put_all heap number 0 values)
  put_work None e =
      subst (λ (h : Heap TaggedValue). IsOwnWork w heap [] h) (sym (nothing_put heap number 0 values e)) (record {
        judged = tt;
        allowed = refl;
        kept = keeps_self heap;
        changes = λ n o p f g. inl (ap (λ (x : Object TaggedValue). x.cells) (same_Some p o (sym g ∙ f)));
      })
  put_work (Some o) e =
      let p : Object TaggedValue =
      record { kind = o.kind; owner = o.owner; cells = sets o.cells 0 values } in
      let size = length-sets o.cells 0 values in
      let touches = own_touch number o ∷ [] in
      subst (λ (h : Heap TaggedValue). IsOwnWork w heap touches h) (sym (all_put heap number 0 values o e))
      (record {
        judged = (own_access w heap number o e, tt);
        allowed = refl;
        kept = one_stays touches heap o p refl refl size number e;
        changes = one_changes touches heap o p refl refl size number e (own_accessed touches 0 number o refl);
      })

  set_other : {A : Type 0} (xs : List A) (k i : ℕ) (x : A) → (i ≡ k → ⊥) → slice_get (set xs k x) i ≡ slice_get xs i
  set_other [] k i x other = refl
  set_other (y ∷ xs) zero zero x other = absurd (other refl)
  set_other (y ∷ xs) zero (suc i) x other = refl
  set_other (y ∷ xs) (suc k) zero x other = refl
  set_other (y ∷ xs) (suc k) (suc i) x other = set_other xs k i x (λ e. other (ap suc e))

  object_other : (k i : ℕ) (p : Object TaggedValue) → (i ≡ k → ⊥)
      → object_at (with_object heap k p) i ≡ object_at heap i
  object_other k i p h1 = grind (arith, set_other)

  put_others : (found : Option (Object TaggedValue)) → object_at heap number ≡ found
      → LeavesOthers number heap (put_all heap number 0 values)
  put_others None e other apart =
      ap (λ (h : Heap TaggedValue). object_at h other) (nothing_put heap number 0 values e)
  put_others (Some o) e other apart =
      ap (λ (h : Heap TaggedValue). object_at h other) (all_put heap number 0 values o e)
      ∙ object_other number other (record { kind = o.kind; owner = o.owner; cells = sets o.cells 0 values }) apart

-- no object is added where as many are there
set_none : {A : Type 0} (xs : List A) (k i : ℕ) (x : A) → slice_get xs i ≡ None → slice_get (set xs k x) i ≡ None
set_none [] k i x e = refl
set_none (y ∷ xs) zero zero x e = absurd cc
set_none (y ∷ xs) zero (suc i) x e = e
set_none (y ∷ xs) (suc k) zero x e = absurd cc
set_none (y ∷ xs) (suc k) (suc i) x e = set_none xs k i x e

none_added : (owner : Owner) (before after : Heap TaggedValue)
    → ((n : ℕ) → object_at before n ≡ None → object_at after n ≡ None) → AddsFor owner before after
none_added owner before after none n o e f = absurd (none-some o (sym (none n f) ∙ e))

one_set : (heap : Heap TaggedValue) (number : ℕ) (p : Object TaggedValue) (n : ℕ) → object_at heap n ≡ None
    → object_at (with_object heap number p) n ≡ None
one_set heap number p n h1 = grind (arith, set_none)

none_put : (heap : Heap TaggedValue) (number : ℕ) (values : List TaggedValue) (found : Option (Object TaggedValue))
    → object_at heap number ≡ found → (n : ℕ) → object_at heap n ≡ None
    → object_at (put_all heap number 0 values) n ≡ None
none_put heap number values None e n f =
    ap (λ (h : Heap TaggedValue). object_at h n) (nothing_put heap number 0 values e) ∙ f
none_put heap number values (Some o) e n f =
    ap (λ (h : Heap TaggedValue). object_at h n) (all_put heap number 0 values o e)
    ∙ one_set heap number (record { kind = o.kind; owner = o.owner; cells = sets o.cells 0 values }) n f

-- some applet's owner
abbrev any_owner : Owner
any_owner = record { context = 1; instance = 1 }

module _ (laws : StepsGuarded) (number : ℕ) (words : List ℕ) (c : CardState) where
  abbrev put : Heap TaggedValue
  put = put_all c.heap number 0 (map Word words)

  own_write : (claims : Claims) → claims.write c.heap number → IsOwnWrite claims c number put
  own_write claims claim = record {
    work = put_work c.world c.heap number (map Word words) (object_at c.heap number) refl;
    others = put_others c.world c.heap number (map Word words) (object_at c.heap number) refl;
    claimed = claim;
  }

  put_apart : IsApartCard c → IsApartCard (with_heap c put)
  put_apart p =
      let kept = (own_write law_of_accesses tt).work.kept in record {
        packages = p.packages;
        objects =
            laws.apart_objects c.heap put any_owner p.objects kept refl
            (none_added any_owner c.heap put
            (none_put c.heap number (map Word words) (object_at c.heap number) refl))
            (laws.words c.heap p.objects.stored number 0 words);
        statics = laws.fields c.heap put kept c.statics p.statics;
        instances = p.instances;
      }

  -- plain objects aren't written to
  write_contents : ((o : Object TaggedValue) → object_at c.heap number ≡ Some o → o.kind.mark ≢ Plain) → (context : ℕ)
      → KeepsContents context c.heap put
  write_contents other context n o q there behind hidden clears = by_number (n == number) refl
    where
      by_number : (b : Bool) → (n == number) ≡ b → q.cells ≡ o.cells
      by_number true e =
          absurd (other o (subst (λ (k : ℕ). object_at c.heap k ≡ Some o) (eqb-true n number e) there)
          (hidden_is_plain context o hidden).1)
      by_number false e =
          ap (λ (x : Object TaggedValue). x.cells)
          (same_Some q o (sym behind ∙ (own_write law_of_accesses tt).others n
          (λ is. both_ways (n == number) e (eq-eqb n number is)) ∙ there))

  pub write_part : (order : Order) → ((claims : Claims) → IsOwnWrite claims c number put
      → Leads claims order c (runtime_touch c.heap number) (with_heap c put))
      → (IsApartCard c → (o : Object TaggedValue) → object_at c.heap number ≡ Some o → o.kind.mark ≢ Plain)
      → IfSome (write number words c) (IsPart order c)
  write_part order leads other = record {
    accesses = leads law_of_accesses (own_write law_of_accesses tt);
    packages = refl;
    apart = λ p. record {
      card = put_apart p;
      plain = leads law_of_plain_objects (own_write law_of_plain_objects (other p));
    };
    out = λ p context e. write_contents (other p) context;
  }

-- ---- what is cleared

module _ (w : World) (event : ClearingEvent) (context : Option ℕ) where
  abbrev test : Object TaggedValue → Bool
  test object = is_cleared_by event context object

  abbrev one : Bool → Object TaggedValue → Object TaggedValue
  one b o = cond b (zeroed o) o

  abbrev first_touches : Bool → ℕ → Object TaggedValue → List Touch
  first_touches b number o = cond b (own_touch number o ∷ []) []

  zero_length : (vs : List TaggedValue) → length (map zero_or_null vs) ≡ length vs
  zero_length [] = refl
  zero_length (v ∷ vs) = ap suc (zero_length vs)

  one_kind : (b : Bool) (o : Object TaggedValue) → (one b o).kind ≡ o.kind
  one_kind b o = grind arith

  one_owner : (b : Bool) (o : Object TaggedValue) → (one b o).owner ≡ o.owner
  one_owner b o = grind arith

  one_size : (b : Bool) (o : Object TaggedValue) → length (one b o).cells ≡ length o.cells
  one_size b o = grind (arith, zero_length)

  got_cleared : (heap : Heap TaggedValue) (n : ℕ) (o : Object TaggedValue) → slice_get heap n ≡ Some o
      → slice_get (zeroed_where test heap) n ≡ Some (one (test o) o)
  got_cleared [] n o e = absurd cc
  got_cleared (x ∷ heap) zero o e = grind arith
  got_cleared (x ∷ heap) (suc n) o e = got_cleared heap n o e

  stay : (heap : Heap TaggedValue) → KeepsObjects heap (zeroed_where test heap)
  stay heap zero o e = absurd cc
  stay heap (suc n) o e = record {
    object = one (test o) o;
    found = got_cleared heap n o e;
    kind = one_kind (test o) o;
    owner = one_owner (test o) o;
    size = one_size (test o) o;
  }

  -- each object that is cleared is listed
  record IsListed (touches : List Touch) (touch : Touch) : Type 0 where
    place : ℕ
    there : slice_get touches place ≡ Some touch

  first_listed : (b : Bool) (number : ℕ) (o : Object TaggedValue) (more : List Touch) → b ≡ true
      → IsListed (first_touches b number o ++ more) (own_touch number o)
  first_listed b number o more h1 = grind arith

  later_listed : (b : Bool) (number : ℕ) (o : Object TaggedValue) (more : List Touch) (touch : Touch)
      → IsListed more touch → IsListed (first_touches b number o ++ more) touch
  later_listed true number o more touch l = record { place = suc l.place; there = l.there }
  later_listed false number o more touch l = l

  listed : (heap : Heap TaggedValue) (number n : ℕ) (o : Object TaggedValue) → slice_get heap n ≡ Some o
      → test o ≡ true → IsListed (clearing_touches event context number heap) (own_touch (number + n) o)
  listed [] number n o e t = absurd cc
  listed (x ∷ heap) number zero o e t =
      let same : x ≡ o = cc in
      let at : number ≡ number + 0 = omega arith in
      let more = clearing_touches event context (suc number) heap in
      subst (λ (k : ℕ). IsListed (first_touches (test x) number x ++ more) (own_touch k o)) at
      (subst (λ (y : Object TaggedValue). IsListed (first_touches (test y) number y ++ more) (own_touch number o))
      (sym same) (first_listed (test o) number o more t))
  listed (x ∷ heap) number (suc n) o e t =
      let at : suc number + n ≡ number + suc n = omega arith in
      let more = clearing_touches event context (suc number) heap in
      later_listed (test x) number x more (own_touch (number + suc n) o)
      (subst (λ (k : ℕ). IsListed more (own_touch k o)) at (listed heap (suc number) n o e t))

  -- each access is judged, and allowed
  first_judged : (whole : Heap TaggedValue) (b : Bool) (number : ℕ) (o : Object TaggedValue) (more : List Touch)
      → object_at whole number ≡ Some o → AllByRecursion (IsOwnAccess w whole) more
      → AllByRecursion (IsOwnAccess w whole) (first_touches b number o ++ more)
  first_judged whole b number o more h1 h2 = grind (arith, own_access)

  judged : (whole heap : Heap TaggedValue) (k : ℕ)
      → ((n : ℕ) (o : Object TaggedValue) → slice_get heap n ≡ Some o → slice_get whole (k + n) ≡ Some o)
      → AllByRecursion (IsOwnAccess w whole) (clearing_touches event context (suc k) heap)
  judged whole [] k stands = tt
  judged whole (o ∷ heap) k stands =
      let here : k + 0 ≡ k = omega arith in
      let there = subst (λ (n : ℕ). slice_get whole n ≡ Some o) here (stands 0 o refl) in
      first_judged whole (test o) (suc k) o (clearing_touches event context (suc (suc k)) heap) there
      (judged whole heap (suc k) (λ n p e.
      let at : k + suc n ≡ suc k + n = omega arith in
      subst (λ (i : ℕ). slice_get whole i ≡ Some p) at (stands (suc n) p e)))

  first_allowed : (b : Bool) (number : ℕ) (o : Object TaggedValue) (more : List Touch) → are_allowed more ≡ true
      → are_allowed (first_touches b number o ++ more) ≡ true
  first_allowed b number o more h1 = grind arith

  all_allowed : (number : ℕ) (heap : Heap TaggedValue)
      → are_allowed (clearing_touches event context number heap) ≡ true
  all_allowed number [] = refl
  all_allowed number (o ∷ heap) = grind (arith, first_allowed, all_allowed (suc number) heap)

  -- what isn't cleared stays
  one_changed : (touches : List Touch) (number : ℕ) (b : Bool) (o : Object TaggedValue) → test o ≡ b
      → (test o ≡ true → IsAccessed runtime_context touches number o)
      → ((one b o).cells ≡ o.cells) ⊎ IsAccessed runtime_context touches number o
  one_changed touches number b o h1 h2 = grind arith

  changes : (heap : Heap TaggedValue)
      → ChangesAccessed runtime_context (clearing_touches event context 1 heap) heap (zeroed_where test heap)
  changes heap zero o p e f = absurd cc
  changes heap (suc n) o p e f =
      let touches = clearing_touches event context 1 heap in
      let same : p ≡ one (test o) o = same_Some p (one (test o) o) (sym f ∙ got_cleared heap n o e) in
      subst (λ (x : Object TaggedValue). (x.cells ≡ o.cells) ⊎ IsAccessed runtime_context touches (suc n) o) (sym same)
      (one_changed touches (suc n) (test o) o refl (λ t.
      let at : 1 + n ≡ suc n = omega arith in
      let l = subst (λ (k : ℕ). IsListed touches (own_touch k o)) at (listed heap 1 n o e t) in
      own_accessed touches l.place (suc n) o l.there))

  clear_work : (heap : Heap TaggedValue)
      → IsOwnWork w heap (clearing_touches event context 1 heap) (zeroed_where test heap)
  clear_work heap = grind (arith, judged, all_allowed, stay, changes)

  -- exactly those that it names
  pub clears_exactly : (heap : Heap TaggedValue) → Clears event context heap (zeroed_where test heap)
  clears_exactly heap = grind (arith, got_cleared)

  -- what no event clears holds what it held
  not_cleared : (o : Object TaggedValue) → o.kind.clears ≡ None → test o ≡ false
  not_cleared o e =
      ap (λ (x : Option ClearingEvent). option_map_or (is_same_event event) x false
      && option_map_or (λ (n : ℕ). n == o.owner.context) context true) e

  pub cleared_contents : (heap : Heap TaggedValue) (who : ℕ) → KeepsContents who heap (zeroed_where test heap)
  cleared_contents heap who n o q there behind hidden clears =
      ap (λ (x : Object TaggedValue). x.cells)
      (same_Some q (one (test o) o) (sym behind ∙ clears_exactly heap n o there)
      ∙ ap (λ (b : Bool). one b o) (not_cleared o clears))

  -- what was cleared holds what it may
  record WasAt (heap : Heap TaggedValue) (n : ℕ) (p : Object TaggedValue) : Type 0 where
    object : Object TaggedValue
    there : slice_get heap n ≡ Some object
    is : p ≡ one (test object) object

  was_at : (heap : Heap TaggedValue) (n : ℕ) (p : Object TaggedValue)
      → slice_get (zeroed_where test heap) n ≡ Some p → WasAt heap n p
  was_at [] n p e = absurd cc
  was_at (x ∷ heap) zero p e = record { object = x; there = refl; is = sym (same_Some (one (test x) x) p e) }
  was_at (x ∷ heap) (suc n) p e = grind (arith, was_at heap n p e)

  zero_held : (heap : Heap TaggedValue) (v : TaggedValue) → may_be_held heap (zero_or_null v) ≡ true
  zero_held heap v = grind arith

  zeros_held : (heap : Heap TaggedValue) (vs : List TaggedValue)
      → AllByRecursion (λ (v : TaggedValue). may_be_held heap v ≡ true) (map zero_or_null vs)
  zeros_held heap [] = tt
  zeros_held heap (v ∷ vs) = (zero_held heap v, zeros_held heap vs)

  module _ (still : (before after : Heap TaggedValue) → KeepsObjects before after → (v : TaggedValue)
      → may_be_held before v ≡ true → may_be_held after v ≡ true) (heap : Heap TaggedValue)
      (holds : HoldStorable heap) where
    stay_held : (vs : List TaggedValue) → AllByRecursion (λ (v : TaggedValue). may_be_held heap v ≡ true) vs
        → AllByRecursion (λ (v : TaggedValue). may_be_held (zeroed_where test heap) v ≡ true) vs
    stay_held [] h = tt
    stay_held (v ∷ vs) h = (still heap (zeroed_where test heap) (stay heap) v h.0, stay_held vs h.1)

    one_held : (b : Bool) (o : Object TaggedValue)
        → AllByRecursion (λ (v : TaggedValue). may_be_held heap v ≡ true) o.cells
        → AllByRecursion (λ (v : TaggedValue). may_be_held (zeroed_where test heap) v ≡ true) (one b o).cells
    one_held true o h = zeros_held (zeroed_where test heap) o.cells
    one_held false o h = stay_held o.cells h

    cleared_holds : HoldStorable (zeroed_where test heap)
    cleared_holds zero p e = absurd cc
    cleared_holds (suc n) p e =
        let w = was_at heap n p e in
        subst
        (λ (x : Object TaggedValue). AllByRecursion
        (λ (v : TaggedValue). may_be_held (zeroed_where test heap) v ≡ true) x.cells) (sym w.is)
        (one_held (test w.object) w.object (holds (suc n) w.object w.there))

  none_cleared : (heap : Heap TaggedValue) (n : ℕ) → slice_get heap n ≡ None
      → slice_get (zeroed_where test heap) n ≡ None
  none_cleared [] n e = refl
  none_cleared (x ∷ heap) zero e = absurd cc
  none_cleared (x ∷ heap) (suc n) e = none_cleared heap n e

  none_cleared_at : (heap : Heap TaggedValue) (n : ℕ) → object_at heap n ≡ None
      → object_at (zeroed_where test heap) n ≡ None
  none_cleared_at heap n h1 = grind (arith, none_cleared)

-- what the runtime keeps and who is selected may become another in the same part
abbrev pub changed : CardState → Kept → Option Owner → CardState
changed c kept selected = record c { kept = kept; selected = selected }

module _ (laws : StepsGuarded) (event : ClearingEvent) (context : Option ℕ) (c : CardState) where
  abbrev cleared : Heap TaggedValue
  cleared = zeroed_where (is_cleared_by event context) c.heap

  abbrev clearing : List Touch
  clearing = clearing_touches event context 1 c.heap

  pub is_clearing : IsClearing c event context clearing cleared
  is_clearing = record {
    work = clear_work c.world event context c.heap;
    clears = clears_exactly c.world event context c.heap;
  }

  module _ (kept : Kept) (selected : Option Owner) where
    pub clear_apart : (names_applets c.kept ≡ true → names_applets kept ≡ true) → IsApartCard c
        → IsApartCard (with_heap (changed c kept selected) cleared)
    clear_apart names p = record {
      packages = p.packages;
      objects =
          laws.apart_objects c.heap cleared any_owner p.objects is_clearing.work.kept refl
          (none_added any_owner c.heap cleared (none_cleared_at c.world event context c.heap))
          (cleared_holds c.world event context laws.held c.heap p.objects.stored);
      statics = laws.fields c.heap cleared is_clearing.work.kept c.statics p.statics;
      instances = names p.instances;
    }

    pub clear_part : (order : Order) → ((claims : Claims) → IsClearing c event context clearing cleared
        → Leads claims order c clearing (with_heap (changed c kept selected) cleared))
        → (names_applets c.kept ≡ true → names_applets kept ≡ true)
        → IfSome (clear event context (changed c kept selected)) (IsPart order c)
    clear_part order leads names = record {
      accesses = leads law_of_accesses is_clearing;
      packages = refl;
      apart = λ p. record { card = clear_apart names p; plain = leads law_of_plain_objects is_clearing };
      out = λ p who e. cleared_contents c.world event context c.heap who;
    }

-- ---- a reset

-- first the arrays that a reset clears, and then those that a deselection does
module _ (w : World) (heap : Heap TaggedValue) (number : ℕ) (o : Object TaggedValue)
    (there : object_at heap number ≡ Some o) where
  abbrev first : Heap TaggedValue
  first = zeroed_where (is_cleared_by events.Reset None) heap

  abbrev second : Heap TaggedValue
  second = zeroed_where (is_cleared_by events.Deselect None) first

  by_tests : (p : Object TaggedValue) (b d : Bool) → is_cleared_by events.Reset None o ≡ b → cond b (zeroed o) o ≡ p
      → is_cleared_by events.Deselect None p ≡ d → object_at second number ≡ Some (cond d (zeroed p) p)
  by_tests p b d e is f =
      clears_exactly w events.Deselect None first number p
      (clears_exactly w events.Reset None heap number o there
      ∙ ap (λ (x : Bool). Some (cond x (zeroed o) o)) e ∙ ap (λ (x : Object TaggedValue). Some x) is)
      ∙ ap (λ (x : Bool). Some (cond x (zeroed p) p)) f

  by_event : (clears : Option ClearingEvent) → o.kind.clears ≡ clears → IsSome clears
      → object_at second number ≡ Some (zeroed o)
  by_event None e some = absurd cc
  by_event (Some events.Reset) e some =
      by_tests (zeroed o) true false
      (ap (λ (x : Option ClearingEvent). option_map_or (is_same_event events.Reset) x false && true) e) refl
      (ap (λ (x : Option ClearingEvent). option_map_or (is_same_event events.Deselect) x false && true) e)
  by_event (Some events.Deselect) e some =
      by_tests o false true
      (ap (λ (x : Option ClearingEvent). option_map_or (is_same_event events.Reset) x false && true) e) refl
      (ap (λ (x : Option ClearingEvent). option_map_or (is_same_event events.Deselect) x false && true) e)

pub reset_part : (laws : StepsGuarded) (c : CardState) → IfSome (reset_command c) (IsPart Resets c)
reset_part laws c =
    let between = zeroed_where (is_cleared_by events.Reset None) c.heap in
    let first = is_clearing laws events.Reset None c in
    let next = is_clearing laws events.Deselect None (with_heap c between) in
    let heap = zeroed_where (is_cleared_by events.Deselect None) between in
    let touches = clearing_touches events.Reset None 1 c.heap in
    let more = clearing_touches events.Deselect None 1 between in
    record {
      accesses = by_reset c between heap touches more first next;
      packages = refl;
      apart = λ p. record {
        card =
            clear_apart laws events.Deselect None (with_heap c between) c.kept None (λ names. names)
            (clear_apart laws events.Reset None c c.kept c.selected (λ names. names) p);
        plain = by_reset c between heap touches more first next;
      };
      out = λ p who e.
          (heap_both who c.heap between heap
          (record { objects = first.work.kept; contents = cleared_contents c.world events.Reset None c.heap who })
          (record { objects = next.work.kept; contents = cleared_contents c.world events.Deselect None between who })).contents;
    }

pub all_cleared : (c : CardState) → IfSome (reset_command c) (λ l. AllCleared c.heap l.card.heap)
all_cleared c number o there some = by_event c.world c.heap number o there o.kind.clears refl some
