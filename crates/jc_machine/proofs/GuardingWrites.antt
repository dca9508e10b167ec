-- What an allowed access changes: a component of its object, which is the active context's or open to all.
use Rattle.std.proofs.Common.{◌≡◌, ◌⊎◌, inl, inr, ℕ, zero, suc, ◌||◌, Bool, true, false, cond, refl, sym, arith}
use Rattle.std.proofs.Common.{ap, ◌∙◌, subst, eqb-true, List, [], ◌∷◌, Some, length-set, slice_get, set}
use Rattle.std.proofs.lemmas.Option.{none-some, same_Some}
use Rattle.jc_firewall.specs.Verdict.{AccessRow, components, fields, is_own, row_of, runtime_context, throws}
use Rattle.jc_firewall.specs.Verdict.{is_allowed, verdict_in as verdict_in_row, verdict_of}
use Rattle.jc_firewall.specs.declared.access.Access.{Access}
use Rattle.jc_firewall.specs.declared.access.Access.TheVariants.{Throw}
use Rattle.jc_firewall.specs.declared.access.Facts.{Facts}
use Rattle.jc_firewall.specs.declared.access.Rule.TheVariants.{Components, Fields, Selection, Storing, Throws}
use Rattle.jc_firewall.specs.declared.access.Verdict.{Verdict}
use Rattle.jc_firewall.specs.declared.access.Verdict.TheVariants.{Allowed, Denied}
use Rattle.jc_store.specs.Heap.{Heap, Object, object_at, with_cell, with_new, with_object}
use Rattle.jc_store.specs.declared.kind.Mark.TheVariants.{Plain}
use Rattle.jc_machine.specs.Going.{StepContext, facts_of, leaves_operands, stored_in, with_heap}
use Rattle.jc_machine.specs.Guarded.{ChangesAccessed, IsAccessed, IsNewOf, as_they_were, may_change}
use Rattle.jc_machine.specs.Machine.{Asked, Touch}
use Rattle.jc_names.specs.declared.owner.Owner.{Owner}
use Rattle.jc_machine.specs.Natives.{IsStill, KeepsObjects}
use Rattle.jc_words.specs.Values.{TaggedValue}
use Rattle.jc_machine.proofs.Guarding.{KeepsLaw, goes, touch_in, verdict_in}
use Rattle.jc_machine.proofs.GuardingHeaps.{KeepsHeap, get_first, is_still}
use Rattle.jc_machine.specs.Storable.{may_be_held}
use Rattle.jc_machine.proofs.Storing.{fields_still, new_holds, stored_holds}
use Rattle.std.specs.List.{AllByRecursion}
use Rattle.jc_machine.proofs.StayingApart.{IsHeld, LeadsApart, adds_none, adds_one, objects_stay_apart, top_is_applets}

-- ---- whose a plain object is that is written to

abbrev pub IsOwn : ℕ → Facts → Type 0
IsOwn active f = (active ≡ f.owner.context) ⊎ (active ≡ runtime_context)

-- the rows of the table that are for components and fields
abbrev pub IsWritten : Access → Facts → Type 0
IsWritten access f = (row_of access f ≡ fields) ⊎ (row_of access f ≡ components)

own_field : (own : Bool) → is_allowed (cond own Allowed (Denied Fields)) ≡ true → own ≡ true
own_field own h1 = grind arith

own_component : (out own : Bool)
    → is_allowed (cond out (Denied Selection) (cond (own || false) Allowed (Denied Components))) ≡ true
    → own ≡ true
own_component out own h1 = grind arith

by_row : (active : ℕ) (f : Facts) (r : AccessRow) → (r ≡ fields) ⊎ (r ≡ components) → f.mark ≡ Plain
    → is_allowed (verdict_in_row r active f) ≡ true → is_own active f ≡ true
by_row active f r h1 h2 h3 = grind (arith, own_field, own_component)

by_table : (a b : Bool) (v w : Verdict) (P Q : Type 0) → (a ≡ true → Q) → (is_allowed w ≡ true → P)
    → is_allowed (cond a v (cond b (Denied Storing) w)) ≡ true → P ⊎ Q
by_table a b v w P Q h1 h2 h3 = grind arith

pub own_object : (access : Access) (active : ℕ) (f : Facts) → IsWritten access f
    → is_allowed (verdict_of access active f) ≡ true → f.mark ≡ Plain → IsOwn active f
own_object access active f written fine plain = grind (arith, by_table, eqb-true, by_row)

own_throw : (own : Bool) → is_allowed (cond (own || false) Allowed (Denied Throws)) ≡ true → own ≡ true
own_throw own h1 = grind arith

by_throw : (active : ℕ) (f : Facts) → f.mark ≡ Plain → is_allowed (verdict_in_row throws active f) ≡ true
    → is_own active f ≡ true
by_throw active f h1 h2 = grind (arith, own_throw)

-- an object that is thrown
pub own_thrown : (active : ℕ) (f : Facts) → is_allowed (verdict_of Throw active f) ≡ true → f.mark ≡ Plain
    → IsOwn active f
own_thrown active f fine plain = grind (arith, by_table, eqb-true, by_throw)

-- an allowed access that writes
pub is_accessed : {C : Type 0} (h : StepContext C) (asked : Asked) (object : Object TaggedValue)
    → may_change asked.access ≡ true → IsWritten asked.access (facts_of h asked object)
    → is_allowed (verdict_in h asked object) ≡ true
    → IsAccessed h.machine.top.active.context (touch_in h asked object ∷ []) asked.object object
is_accessed h asked object changes written fine = record {
  place = 0;
  touch = touch_in h asked object;
  listed = refl;
  is = refl;
  changes = changes;
  allowed = fine;
  who = inl refl;
  own = own_object asked.access h.machine.top.active.context (facts_of h asked object) written fine;
}

-- ---- the heap behind it

get_set : {A : Type 0} (xs : List A) (k i : ℕ) (x : A) → (k ≡ i) ⊎ (slice_get (set xs k x) i ≡ slice_get xs i)
get_set [] k i x = inr refl
get_set (y ∷ xs) zero zero x = inl refl
get_set (y ∷ xs) zero (suc i) x = inr refl
get_set (y ∷ xs) (suc k) zero x = inr refl
get_set (y ∷ xs) (suc k) (suc i) x = elim (get_set xs k i x) [ inl e ↦ inl (ap suc e) | inr e ↦ inr e ]

set_there : {A : Type 0} (xs : List A) (k : ℕ) (x y : A) → slice_get xs k ≡ Some y → slice_get (set xs k x) k ≡ Some x
set_there [] k x y e = absurd (none-some y e)
set_there (z ∷ xs) zero x y e = refl
set_there (z ∷ xs) (suc k) x y e = set_there xs k x y e

-- of an object that was accessed one component changes
module _ (owner : Owner) (touches : List Touch) (heap : Heap TaggedValue) (object : Object TaggedValue) (index : ℕ)
    (v : TaggedValue) where
  one_changes_only : (number : ℕ) → IsAccessed owner.context touches number object
      → object_at heap number ≡ Some object
      → ChangesAccessed owner.context touches heap (with_object heap number (with_cell object index v))
  one_changes_only zero accessed there n o p e f = absurd (none-some object there)
  one_changes_only (suc k) accessed there zero o p e f = absurd (none-some o e)
  one_changes_only (suc k) accessed there (suc i) o p e f =
      elim (get_set heap k i (with_cell object index v))
      [ inl is ↦ inr (same is) | inr still ↦ inl (unchanged still) ]
    where
      same : k ≡ i → IsAccessed owner.context touches (suc i) o
      same is = grind (arith, same_Some, slice_get)

      unchanged : slice_get (set heap k (with_cell object index v)) i ≡ slice_get heap i → p.cells ≡ o.cells
      unchanged still = ap (λ (x : Object TaggedValue). x.cells) (same_Some p o (sym f ∙ still ∙ e))

  each_stays : (number : ℕ) → object_at heap number ≡ Some object
      → KeepsObjects heap (with_object heap number (with_cell object index v))
  each_stays zero there n o e = absurd (none-some object there)
  each_stays (suc k) there zero o e = absurd (none-some o e)
  each_stays (suc k) there (suc i) o e =
      elim (get_set heap k i (with_cell object index v)) [ inl is ↦ changed is | inr still ↦ unchanged still ]
    where
      changed : k ≡ i → IsStill (set heap k (with_cell object index v)) (suc i) o
      changed is =
          subst (λ (n : ℕ). IsStill (set heap k (with_cell object index v)) (suc n) o) is
          (subst (λ (x : Object TaggedValue). IsStill (set heap k (with_cell object index v)) (suc k) x)
          (same_Some object o (sym there ∙ ap (slice_get heap) is ∙ e)) (record {
            object = with_cell object index v;
            found = set_there heap k (with_cell object index v) object there;
            kind = refl;
            owner = refl;
            size = length-set object.cells index v;
          }))

      unchanged : slice_get (set heap k (with_cell object index v)) i ≡ slice_get heap i
          → IsStill (set heap k (with_cell object index v)) (suc i) o
      unchanged still = grind arith

  pub one_changes : (number : ℕ) → IsAccessed owner.context touches number object
      → object_at heap number ≡ Some object
      → KeepsHeap owner touches heap (with_object heap number (with_cell object index v))
  one_changes number accessed there = search (arith, one_changes_only, each_stays, adds_none)

-- an object more
more_changes_only : (active : ℕ) (touches : List Touch) (heap : Heap TaggedValue) (new : Object TaggedValue)
    → ChangesAccessed active touches heap (with_new heap new)
more_changes_only active touches heap new = grind (arith, none-some, same_Some, get_first)

all_stay : (heap : Heap TaggedValue) (new : Object TaggedValue) → KeepsObjects heap (with_new heap new)
all_stay heap new = grind (arith, none-some, is_still, get_first)

pub more_changes : (owner : Owner) (touches : List Touch) (heap : Heap TaggedValue) (new : Object TaggedValue)
    → IsNewOf owner new → KeepsHeap owner touches heap (with_new heap new)
more_changes owner touches heap new plain = search (arith, more_changes_only, all_stay, adds_one)

-- ---- what is apart

pub stored_apart : {C : Type 0} (h : StepContext C) (number : ℕ) (object : Object TaggedValue) (index : ℕ) (v : TaggedValue)
    → object_at h.machine.heap number ≡ Some object → IsHeld h.around h.machine v
    → LeadsApart h.around h.machine (stored_in h number object index v).machine
stored_apart h number object index v there held = record {
  apart = λ keeps p. record {
    objects =
        objects_stay_apart h.machine.heap (with_object h.machine.heap number (with_cell object index v))
        h.machine.top.active p.machine.objects
        (each_stays h.machine.top.active [] h.machine.heap object index v number there)
        (top_is_applets keeps h.machine p.machine)
        (adds_none h.machine.top.active h.machine.heap number (with_cell object index v))
        (stored_holds h.machine.heap p.machine.objects.stored number object index v there (held keeps p)
        (each_stays h.machine.top.active [] h.machine.heap object index v number there));
    statics =
        fields_still h.machine.heap (with_object h.machine.heap number (with_cell object index v))
        (each_stays h.machine.top.active [] h.machine.heap object index v number there) h.machine.statics
        p.machine.statics;
    frames = p.machine.frames;
    kept = p.machine.kept;
  };
  kept = λ keeps q. q.now;
  statics = as_they_were refl;
}

-- a plain object of the owner that is active
pub new_apart : {C : Type 0} (h : StepContext C) (new : Object TaggedValue) → IsNewOf h.machine.top.active new
    → AllByRecursion (λ (v : TaggedValue). may_be_held (with_new h.machine.heap new) v ≡ true) new.cells
    → LeadsApart h.around h.machine (with_heap h.machine (with_new h.machine.heap new))
new_apart h new plain held = record {
  apart = λ keeps p. record {
    objects =
        objects_stay_apart h.machine.heap (with_new h.machine.heap new) h.machine.top.active p.machine.objects
        (all_stay h.machine.heap new) (top_is_applets keeps h.machine p.machine)
        (adds_one h.machine.top.active h.machine.heap new plain)
        (new_holds h.machine.heap p.machine.objects.stored new (all_stay h.machine.heap new) held);
    statics =
        fields_still h.machine.heap (with_new h.machine.heap new) (all_stay h.machine.heap new) h.machine.statics
        p.machine.statics;
    frames = p.machine.frames;
    kept = p.machine.kept;
  };
  kept = λ keeps q. q.now;
  statics = as_they_were refl;
}

-- a component is stored, and the frame goes on
pub stores : {C : Type 0} (h : StepContext C) (asked : Asked) (object : Object TaggedValue)
    (index : ℕ) (v : TaggedValue) (vs : List TaggedValue)
    → object_at h.machine.heap asked.object ≡ Some object → may_change asked.access ≡ true
    → IsWritten asked.access (facts_of h asked object)
    → is_allowed (verdict_in h asked object) ≡ true → IsHeld h.around h.machine v
    → KeepsLaw h.around h.machine (touch_in h asked object ∷ [])
    (leaves_operands (stored_in h asked.object object index v) vs)
stores h asked object index v vs there changes written fine held =
    goes (stored_in h asked.object object index v) h.next_pc h.machine.top.locals vs
    (one_changes h.machine.top.active (touch_in h asked object ∷ []) h.machine.heap
    object index v asked.object (is_accessed h asked object changes written fine) there)
    (stored_apart h asked.object object index v there held)
