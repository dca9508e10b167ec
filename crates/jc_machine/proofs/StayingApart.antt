-- Objects stay set apart where each stays and others are an applet's; and machines with the same frames stay apart.
use Rattle.std.proofs.Common.{◌≡◌, ◌≢◌, ◌⊎◌, ℕ, zero, suc, ◌==◌, Bool, true, not, List, [], ◌∷◌, ◌++◌, arith}
use Rattle.std.proofs.Common.{Option, Some, None, refl, sym, ap, ◌∙◌, eqb-true, slice_get, set}
use Rattle.std.proofs.lemmas.Bool.{and_parts, both_ways}
use Rattle.std.proofs.lemmas.Option.{none-some, same_Some}
use Rattle.std.specs.List.{AllByRecursion, list_all}
use Rattle.jc_firewall.specs.Verdict.{runtime_context}
use Rattle.jc_names.specs.declared.owner.Owner.{Owner}
use Rattle.jc_store.specs.Heap.{Heap, Object, object_at, with_new, with_object}
use Rattle.jc_store.specs.declared.kind.ObjectKind.{ObjectKind}
use Rattle.jc_store.specs.declared.kind.Mark.TheVariants.{Plain}
use Rattle.jc_machine.specs.Apart.{AreNativesApart, HaveApiMembers, IsApart, IsRuntimes, IsSetApart, SparesPlain}
use Rattle.jc_machine.specs.Apart.{has_no_code, is_applets}
use Rattle.jc_machine.specs.Going.{moved, with_top}
use Rattle.jc_machine.specs.Guarded.{AddsFor, IsNewOf, KeepsStatics, machine_of}
use Rattle.jc_machine.specs.Keeping.{MembersKeep}
use Rattle.jc_machine.specs.Machine.{Frame, Machine, Stepped, Surroundings, Touch}
use Rattle.jc_machine.specs.Natives.{KeepsObjects}
use Rattle.jc_machine.specs.Storable.{HoldStorable, may_be_held}
use Rattle.jc_words.specs.Values.{TaggedValue}
use Rattle.jc_machine.proofs.Staying.{they_stay}

-- ---- owners

pub applets_not : (owner : Owner) → is_applets owner ≡ true → owner.context ≡ runtime_context → ⊥
applets_not owner h e = grind (arith, both_ways, not)

by_context : (n : ℕ) (b : Bool) → (b ≡ true → n ≡ runtime_context) → (not b ≡ true) ⊎ (n ≡ runtime_context)
by_context n b h1 = grind arith

pub applets_or : (owner : Owner) → (is_applets owner ≡ true) ⊎ (owner.context ≡ runtime_context)
applets_or owner = grind (arith, by_context, eqb-true)

-- ---- objects

module _ (before after : Heap TaggedValue) (owner : Owner) (apart : IsSetApart before)
    (kept : KeepsObjects before after) (applets : is_applets owner ≡ true)
    (adds : AddsFor owner before after) (stored : HoldStorable after) where
  old_kind : (number : ℕ) (o p : Object TaggedValue) → object_at after number ≡ Some o
      → object_at before number ≡ Some p → o.kind ≡ p.kind
  old_kind number o p e f =
      let s = kept number p f in
      ap (λ (x : Object TaggedValue). x.kind) (same_Some o s.object (sym e ∙ s.found)) ∙ s.kind

  old_owner : (number : ℕ) (o p : Object TaggedValue) → object_at after number ≡ Some o
      → object_at before number ≡ Some p → o.owner ≡ p.owner
  old_owner number o p e f =
      let s = kept number p f in
      ap (λ (x : Object TaggedValue). x.owner) (same_Some o s.object (sym e ∙ s.found)) ∙ s.owner

  old_context : (number : ℕ) (o p : Object TaggedValue) → object_at after number ≡ Some o
      → object_at before number ≡ Some p → o.owner.context ≡ p.owner.context
  old_context number o p e f = ap (λ (x : Owner). x.context) (old_owner number o p e f)

  -- a new one isn't the runtime's
  new_context : (number : ℕ) (o : Object TaggedValue) → object_at after number ≡ Some o
      → object_at before number ≡ None → o.owner.context ≡ runtime_context → ⊥
  new_context number o e f c = grind (arith, applets_not)

  others_by : (number : ℕ) (o : Object TaggedValue) → object_at after number ≡ Some o
      → o.owner.context ≡ runtime_context → (found : Option (Object TaggedValue))
      → object_at before number ≡ found → IsRuntimes o
  others_by number o e c None f = absurd (new_context number o e f c)
  others_by number o e c (Some p) f =
      let r = apart.others number p f (sym (old_context number o p e f) ∙ c) in record {
        instance = ap (λ (x : Owner). x.instance) (old_owner number o p e f) ∙ r.instance;
        codeless = ap (λ (x : ObjectKind). has_no_code x.object_type) (old_kind number o p e f) ∙ r.codeless;
      }

  marked_by : (number : ℕ) (o : Object TaggedValue) → object_at after number ≡ Some o → o.kind.mark ≢ Plain
      → (found : Option (Object TaggedValue)) → object_at before number ≡ found
      → o.owner.context ≡ runtime_context
  marked_by number o e marked None f = absurd (marked (adds number o e f).plain)
  marked_by number o e marked (Some p) f = grind (arith, old_context, old_kind)

  pub set_apart_still : IsSetApart after
  set_apart_still = record {
    own = they_stay before after kept apart.own;
    others = λ number o e c. others_by number o e c (object_at before number) refl;
    marked = λ number o e m. marked_by number o e m (object_at before number) refl;
    stored = stored;
  }

pub objects_stay_apart : (before after : Heap TaggedValue) (owner : Owner) → IsSetApart before
    → KeepsObjects before after → is_applets owner ≡ true → AddsFor owner before after
    → HoldStorable after → IsSetApart after
objects_stay_apart before after owner apart kept applets adds stored = search (arith, set_apart_still)

-- ---- what is added

set_none : {A : Type 0} (xs : List A) (k i : ℕ) (x y : A) → slice_get (set xs k x) i ≡ Some y
    → slice_get xs i ≡ None → ⊥
set_none [] k i x y e f = none-some y e
set_none (z ∷ xs) zero zero x y e f = none-some z (sym f)
set_none (z ∷ xs) zero (suc i) x y e f = none-some y (sym f ∙ e)
set_none (z ∷ xs) (suc k) zero x y e f = none-some z (sym f)
set_none (z ∷ xs) (suc k) (suc i) x y e f = set_none xs k i x y e f

-- an object in place of another one is none more
none_more : (heap : Heap TaggedValue) (number n : ℕ) (x o : Object TaggedValue)
    → object_at (with_object heap number x) n ≡ Some o → object_at heap n ≡ None → ⊥
none_more heap number n x o h1 h2 = grind (arith, none-some, set_none)

pub adds_none : (owner : Owner) (heap : Heap TaggedValue) (number : ℕ) (x : Object TaggedValue)
    → AddsFor owner heap (with_object heap number x)
adds_none owner heap number x n o e f = absurd (none_more heap number n x o e f)

new_only : {A : Type 0} (xs : List A) (i : ℕ) (new y : A) → slice_get (xs ++ new ∷ []) i ≡ Some y
    → slice_get xs i ≡ None → y ≡ new
new_only [] zero new y e f = sym (same_Some new y e)
new_only [] (suc i) new y e f = absurd (none-some y e)
new_only (x ∷ xs) zero new y e f = absurd (none-some x (sym f))
new_only (x ∷ xs) (suc i) new y e f = new_only xs i new y e f

-- one more is the new one
pub adds_one : (owner : Owner) (heap : Heap TaggedValue) (new : Object TaggedValue) → IsNewOf owner new
    → AddsFor owner heap (with_new heap new)
adds_one owner heap new h1 = grind (arith, none-some, new_only)

-- ---- machines

-- what a step may rely on
pub record IsApartIn {C : Type 0} (keeps : C → Bool) (around : Surroundings C) (m : Machine C) : Type 0 where
  pub members : HaveApiMembers around.world.shapes
  pub natives : AreNativesApart keeps around.natives
  pub machine : IsApart keeps m

-- a test that native members keep holds of what it keeps
pub record IsKeptIn {C : Type 0} (keeps : C → Bool) (around : Surroundings C) (m : Machine C) : Type 0 where
  pub natives : MembersKeep keeps around.natives
  pub now : keeps m.runtime ≡ true

-- what it comes to then
pub record IsApartPart {C : Type 0} (keeps : C → Bool) (m : Machine C) (s : Stepped C) : Type 0 where
  pub spares : AllByRecursion (SparesPlain m.heap) s.touches
  pub after : (after : Machine C) → machine_of s.outcome ≡ Some after → IsApart keeps after

-- one machine is apart where a step begins in another one that is
pub record LeadsApart {C : Type 0} (around : Surroundings C) (m x : Machine C) : Type 0 where
  pub apart : (keeps : C → Bool) → IsApartIn keeps around m → IsApart keeps x
  -- and a test that native members keep holds of what it keeps
  pub kept : (keeps : C → Bool) → IsKeptIn keeps around m → keeps x.runtime ≡ true
  -- and static fields are kept, but for one that the code names
  pub statics : KeepsStatics around m x

-- an owner is an applet's there
abbrev pub RunsApplets : {C : Type 0} → Surroundings C → Machine C → Owner → Type 0
RunsApplets {C} around m owner = (keeps : C → Bool) → IsApartIn keeps around m → is_applets owner ≡ true

abbrev pub are_applets : List Frame → Bool
are_applets frames = list_all (λ (f : Frame). is_applets f.active) frames

pub top_is_applets : {C : Type 0} (keeps : C → Bool) (m : Machine C) → IsApart keeps m
    → is_applets m.top.active ≡ true
top_is_applets keeps m a = (and_parts (is_applets m.top.active) (are_applets m.waiting) a.frames).0

pub waiting_are_applets : {C : Type 0} (keeps : C → Bool) (m : Machine C) → IsApart keeps m
    → are_applets m.waiting ≡ true
waiting_are_applets keeps m a = (and_parts (is_applets m.top.active) (are_applets m.waiting) a.frames).1

pub top_runs : {C : Type 0} (around : Surroundings C) (m : Machine C) → RunsApplets around m m.top.active
top_runs around m keeps p = top_is_applets keeps m p.machine

pub is_apart_itself : {C : Type 0} (around : Surroundings C) (m : Machine C) → LeadsApart around m m
is_apart_itself around m = grind arith

-- its frame goes on
pub moved_apart : {C : Type 0} (keeps : C → Bool) (m : Machine C) (pc : ℕ) (locals operands : List TaggedValue)
    → IsApart keeps m → IsApart keeps (with_top m (moved m.top pc locals operands))
moved_apart keeps m pc locals operands a = grind arith

-- an access in the context of the frame that runs
pub own_spares : {C : Type 0} (around : Surroundings C) (m : Machine C) (t : Touch)
    → t.active ≡ m.top.active.context → (keeps : C → Bool) → IsApartIn keeps around m → SparesPlain m.heap t
own_spares around m t e keeps p f o there plain = grind (arith, applets_not, top_is_applets)

-- a value may be held there
abbrev pub IsHeld : {C : Type 0} → Surroundings C → Machine C → TaggedValue → Type 0
IsHeld {C} around m v = (keeps : C → Bool) → IsApartIn keeps around m → may_be_held m.heap v ≡ true

-- the frame that runs isn't the runtime's
pub top_isnt_runtime : {C : Type 0} (keeps : C → Bool) (m : Machine C) → IsApart keeps m
    → (m.top.active.context == runtime_context) ≡ true → ⊥
top_isnt_runtime keeps m a e = grind (arith, applets_not, top_is_applets, eqb-true)
