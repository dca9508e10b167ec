-- Static fields: what an entry of the constant pool says of one, and those with another value in one.
use Rattle.std.proofs.Common.{◌≡◌, ℕ, suc, ◌==◌, List, [], ◌∷◌, slice_get, Bool, true, false, cond, Option, Some}
use Rattle.std.proofs.Common.{None, find, refl, ap, ◌∙◌, subst, arith, eqb-true}
use Rattle.std.proofs.lemmas.Bool.{ltb-false}
use Rattle.std.specs.Option.{option_and_then, option_map}
use Rattle.jc_base.specs.declared.declared_type.DeclaredType.{DeclaredType}
use Rattle.jc_cap_desc.specs.Shape.{Shape}
use Rattle.jc_cap.specs.declared.entry.PoolEntry.{PoolEntry}
use Rattle.jc_classes.specs.Members.{DeclaredMethod}
use Rattle.jc_link.specs.Named.{named_by}
use Rattle.jc_link.specs.Target.{pool_target_of, static_type_of, target_of, target_of_declared}
use Rattle.jc_link.specs.declared.named.Named.{Named}
use Rattle.jc_link.specs.declared.named.StaticPlace.{StaticPlace}
use Rattle.jc_link.specs.declared.target.PoolTarget.{PoolTarget}
use Rattle.jc_link.specs.declared.target.PoolTarget.TheVariants as To
use Rattle.jc_link.specs.Linked.{World}
use Rattle.jc_names.specs.Names.{home_at, number_at}
use Rattle.jc_names.specs.declared.name.ClassName.{ClassName}
use Rattle.jc_names.specs.declared.name.MethodName.{MethodName}
use Rattle.jc_store.specs.Heap.{Heap}
use Rattle.jc_machine.specs.Fields.{static_at}
use Rattle.jc_machine.specs.Lookup.{is_kept_as, of_package, target_at}
use Rattle.jc_machine.specs.Machine.{StaticValue}
use Rattle.jc_machine.specs.Typed.{StaticTyped, StaticsTyped}
use Rattle.jc_words.specs.Values.{TaggedValue}
use Rattle.jc_safety.proofs.Lists.{each_at}

-- ---- what leads to a static field

not_instance : {A : Type 0} (o : Option A) (f : A → PoolTarget) (target : PoolTarget) → ((a : A) → f a ≡ target → ⊥)
    → option_map f o ≡ Some target → ⊥
not_instance o f target h1 h2 = grind arith

-- where an entry leads to a static field it has the type that the entry says
module _ (world : List Shape) (place : StaticPlace) (declared : DeclaredType ClassName) where
  abbrev target : PoolTarget
  target = To.StaticField place declared

  typed_so : (p : StaticPlace) (o : Option (DeclaredType ClassName)) → static_type_of world p ≡ o
      → option_map (To.StaticField p) o ≡ Some target → static_type_of world place ≡ Some declared
  typed_so p o h1 h2 = grind arith

  of_declared_method : (m : MethodName) (d : Option DeclaredMethod)
      → option_and_then (target_of_declared world m) d ≡ Some target → ⊥
  of_declared_method m d h1 = grind (arith, not_instance)

  by_name : (named : Option Named) → option_and_then (target_of world) named ≡ Some target
      → static_type_of world place ≡ Some declared
  by_name named h1 = grind (arith, not_instance, typed_so, of_declared_method)

  pub static_type_said : (home : ℕ) (entry : PoolEntry) → pool_target_of world home entry ≡ Some target
      → static_type_of world place ≡ Some declared
  static_type_said home entry e = by_name (named_by world home entry) e

-- what an entry with an index leads to is what that entry leads to
pub record Entry (w : World) (number index : ℕ) (target : PoolTarget) : Type 0 where
  pub entry : PoolEntry
  pub leads : pool_target_of w.shapes (home_at number) entry ≡ Some target

entry_in : (w : World) (number index : ℕ) (target : PoolTarget) (o : Option PoolEntry)
    → option_and_then (pool_target_of w.shapes (home_at number)) o ≡ Some target → Entry w number index target
entry_in w number index target None e = absurd cc
entry_in w number index target (Some entry) e = record { entry = entry; leads = e }

pub entry_of : (w : World) (number index : ℕ) (target : PoolTarget) → target_at w number index ≡ Some target
    → Entry w number index target
entry_of w number index target e = entry_in w number index target _ e

-- ---- the value of a static field

pub record Held (statics : List (List StaticValue)) (place : StaticPlace) (x : StaticValue) : Type 0 where
  pub number : ℕ
  pub is_number : number_at place.home ≡ Some number
  pub fields : List StaticValue
  pub of_number : of_package statics number ≡ Some fields
  pub found : find (λ (s : StaticValue). s.offset == place.offset) fields ≡ Some x

held_in : (statics : List (List StaticValue)) (place : StaticPlace) (x : StaticValue) (number : Option ℕ)
    → number_at place.home ≡ number
    → option_and_then (find (λ (s : StaticValue). s.offset == place.offset)) (option_and_then (of_package statics) number)
    ≡ Some x → Held statics place x
held_in statics place x number h1 h2 = grind arith

pub held : (statics : List (List StaticValue)) (place : StaticPlace) (x : StaticValue)
    → static_at statics place.home place.offset ≡ Some x → Held statics place x
held statics place x h = held_in statics place x (number_at place.home) refl h

-- a package's number leads back to where it stands
pub home_back : (home number : ℕ) → number_at home ≡ Some number → home_at number ≡ home
home_back home number e = grind (arith, ltb-false)

-- what is found is there, and has the offset
record FoundAt (offset : ℕ) (fields : List StaticValue) (x : StaticValue) : Type 0 where
  place : ℕ
  there : slice_get fields place ≡ Some x
  offset_is : x.offset ≡ offset

found_at : (offset : ℕ) (fields : List StaticValue) (x : StaticValue)
    → find (λ (s : StaticValue). s.offset == offset) fields ≡ Some x → FoundAt offset fields x
found_at offset [] x e = absurd cc
found_at offset (y ∷ fields) x e = by_test (y.offset == offset) refl (found_at offset fields x) e
  where
    by_test : (b : Bool) → (y.offset == offset) ≡ b
        → (find (λ (s : StaticValue). s.offset == offset) fields ≡ Some x → FoundAt offset fields x)
        → cond b (Some y) (find (λ (s : StaticValue). s.offset == offset) fields) ≡ Some x
        → FoundAt offset (y ∷ fields) x
    by_test true t later e =
        let same : y ≡ x = cc in
        record {
          place = 0;
          there = ap Some same;
          offset_is = subst (λ (z : StaticValue). z.offset ≡ offset) same (eqb-true y.offset offset t);
        }
    by_test false t later e =
        let f = later e in
        record { place = suc f.place; there = f.there; offset_is = f.offset_is }

module _ (w : World) (heap : Heap TaggedValue) (statics : List (List StaticValue)) (typed : StaticsTyped w heap statics)
    (place : StaticPlace) (declared : DeclaredType ClassName)
    (said : static_type_of w.shapes place ≡ Some declared) where
  -- it has a value
  pub value_there : (x : StaticValue) × (static_at statics place.home place.offset ≡ Some x)
  value_there = grind arith

  -- of its type
  typed_as : (number : ℕ) → number_at place.home ≡ Some number → (x : StaticValue)
      → StaticTyped w.shapes heap (home_at number) x → x.offset ≡ place.offset
      → is_kept_as w.shapes heap declared x.value ≡ true
  typed_as number is x t same =
      let home = home_back place.home number is in
      let here : static_type_of w.shapes (record { home = home_at number; offset = x.offset }) ≡ Some declared =
      ap (λ (h : ℕ). static_type_of w.shapes (record { home = h; offset = x.offset })) home
      ∙ ap (λ (o : ℕ). static_type_of w.shapes (record { home = place.home; offset = o })) same ∙ said in
      let found = t.found in
      let type : t.declared ≡ declared = cc in
      subst (λ (d : DeclaredType ClassName). is_kept_as w.shapes heap d x.value ≡ true) type t.typed

  pub value_typed : (x : StaticValue) → static_at statics place.home place.offset ≡ Some x
      → is_kept_as w.shapes heap declared x.value ≡ true
  value_typed x e =
      let h = held statics place x e in
      let f = found_at place.offset h.fields x h.found in
      typed_as h.number h.is_number x
      (each_at (StaticTyped w.shapes heap (home_at h.number)) h.fields f.place x
      (typed.typed h.number h.fields h.of_number) f.there)
      f.offset_is
