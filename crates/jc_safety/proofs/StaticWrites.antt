-- Static fields with another value in one of them are typed.
use Rattle.std.proofs.Common.{◌≡◌, ◌⊎◌, ℕ, zero, suc, ◌==◌, List, [], ◌∷◌, length, map, set, slice_get, arith}
use Rattle.std.proofs.Common.{Bool, true, false, Option, Some, find, is_some, refl, sym, ap, ◌∙◌, subst}
use Rattle.std.proofs.Common.{inl, inr, if◌then◌else◌, eqb-true, length-set}
use Rattle.std.specs.List.{AllByRecursion}
use Rattle.std.specs.Option.{option_map_or}
use Rattle.jc_base.specs.declared.declared_type.DeclaredType.{DeclaredType}
use Rattle.jc_link.specs.Linked.{World}
use Rattle.jc_link.specs.Target.{static_type_of}
use Rattle.jc_link.specs.declared.named.StaticPlace.{StaticPlace}
use Rattle.jc_names.specs.Names.{home_at, number_at}
use Rattle.jc_names.specs.declared.name.ClassName.{ClassName}
use Rattle.jc_store.specs.Heap.{Heap}
use Rattle.jc_machine.specs.Fields.{static_at, with_static, with_value, with_value_in}
use Rattle.jc_machine.specs.Lookup.{is_kept_as, of_package, with_package}
use Rattle.jc_machine.specs.Machine.{StaticValue}
use Rattle.jc_machine.specs.Typed.{StaticTyped, StaticsTyped}
use Rattle.jc_words.specs.Values.{TaggedValue}
use Rattle.jc_safety.proofs.Statics.{held, home_back, value_there}

-- a member of a list of which one was changed
set_get : {A : Type 0} (xs : List A) (n i : ℕ) (x y : A) → slice_get (set xs n x) i ≡ Some y
    → (slice_get xs i ≡ Some y) ⊎ ((i ≡ n) × (x ≡ y))
set_get [] n i x y e = absurd cc
set_get (z ∷ xs) zero zero x y e = inr (refl, cc)
set_get (z ∷ xs) zero (suc i) x y e = inl e
set_get (z ∷ xs) (suc n) zero x y e = inl e
set_get (z ∷ xs) (suc n) (suc i) x y e = grind (arith, set_get xs n i x y e)

package_get : {A : Type 0} (xs : List A) (n i : ℕ) (x y : A) → of_package (with_package xs n x) i ≡ Some y
    → (of_package xs i ≡ Some y) ⊎ ((i ≡ n) × (x ≡ y))
package_get xs n i x y h1 = grind (arith, set_get)

-- ---- what is found is found still, with its offset

find_still : (offset at : ℕ) (v : TaggedValue) (fields : List StaticValue)
    → is_some (find (λ (s : StaticValue). s.offset == at) fields) ≡ true
    → is_some (find (λ (s : StaticValue). s.offset == at) (map (with_value offset v) fields)) ≡ true
find_still offset at v [] e = absurd cc
find_still offset at v (x ∷ fields) e = grind (arith, eqb-true, find_still offset at v fields)

module _ (w : World) (heap : Heap TaggedValue) (statics : List (List StaticValue)) (typed : StaticsTyped w heap statics)
    (place : StaticPlace) (declared : DeclaredType ClassName)
    (said : static_type_of w.shapes place ≡ Some declared) (v : TaggedValue)
    (fits : is_kept_as w.shapes heap declared v ≡ true) where
  -- each field of a package is typed, with the value in that one
  one_typed : (number : ℕ) → number_at place.home ≡ Some number → (x : StaticValue)
      → StaticTyped w.shapes heap (home_at number) x
      → StaticTyped w.shapes heap (home_at number) (with_value place.offset v x)
  one_typed number is x t = by_test (x.offset == place.offset) refl
    where
      by_test : (b : Bool) → (x.offset == place.offset) ≡ b
          → StaticTyped w.shapes heap (home_at number)
          (if b then record { offset = place.offset; value = v } else x)
      by_test true e = record {
        declared = declared;
        found =
            ap (λ (h : ℕ). static_type_of w.shapes (record { home = h; offset = place.offset }))
            (home_back place.home number is)
            ∙ said;
        typed = fits;
      }
      by_test false e = t

  all_typed : (number : ℕ) → number_at place.home ≡ Some number → (fields : List StaticValue)
      → AllByRecursion (StaticTyped w.shapes heap (home_at number)) fields
      → AllByRecursion (StaticTyped w.shapes heap (home_at number)) (map (with_value place.offset v) fields)
  all_typed number is [] h = tt
  all_typed number is (x ∷ fields) h = (one_typed number is x h.0, all_typed number is fields h.1)

  module _ (number : ℕ) (is : number_at place.home ≡ Some number) (fields : List StaticValue)
      (there : of_package statics number ≡ Some fields) where
    abbrev changed : List (List StaticValue)
    changed = with_package statics number (map (with_value place.offset v) fields)

    changed_count : (n : ℕ) → length (with_package statics n (map (with_value place.offset v) fields)) ≡ length statics
    changed_count n = grind (arith, length-set)

    changed_typed : (k : ℕ) (others : List StaticValue) → of_package changed k ≡ Some others
        → AllByRecursion (StaticTyped w.shapes heap (home_at k)) others
    changed_typed k others e = elim (package_get statics number k (map (with_value place.offset v) fields) others e) [
      | inl same ↦ typed.typed k others same
      | inr new ↦
          let each = all_typed number is fields (typed.typed number fields there) in
          let here = subst
          (λ (n : ℕ). AllByRecursion (StaticTyped w.shapes heap (home_at n)) (map (with_value place.offset v) fields))
          (sym new.0) each in
          subst (λ (xs : List StaticValue). AllByRecursion (StaticTyped w.shapes heap (home_at k)) xs) new.1 here
    ]

    -- a package's fields are found as before, or are those with the value
    package_still : (n k : ℕ) (others : List StaticValue) → of_package statics k ≡ Some others
        → of_package statics n ≡ Some fields
        → (of_package (with_package statics n (map (with_value place.offset v) fields)) k ≡ Some others)
        ⊎ ((fields ≡ others) × (of_package (with_package statics n (map (with_value place.offset v) fields)) k ≡ Some
        (map (with_value place.offset v) fields)))
    package_still zero k others e f = inl e
    package_still (suc n) zero others e f = absurd cc
    package_still (suc n) (suc k) others e f = by_place statics n k e f
      where
        by_place : (xs : List (List StaticValue)) (n k : ℕ) → slice_get xs k ≡ Some others
            → slice_get xs n ≡ Some fields
            → (slice_get (set xs n (map (with_value place.offset v) fields)) k ≡ Some others)
            ⊎ ((fields ≡ others) × (slice_get (set xs n (map (with_value place.offset v) fields)) k ≡ Some
            (map (with_value place.offset v) fields)))
        by_place [] n k e f = absurd cc
        by_place (x ∷ xs) zero zero e f = inr (cc, refl)
        by_place (x ∷ xs) zero (suc k) e f = inl e
        by_place (x ∷ xs) (suc n) zero e f = inl e
        by_place (x ∷ xs) (suc n) (suc k) e f = by_place xs n k e f

    changed_present : (p : StaticPlace) (d : DeclaredType ClassName) → static_type_of w.shapes p ≡ Some d
        → is_some (static_at changed p.home p.offset) ≡ true
    changed_present p d says = grind (arith, value_there, held, package_still, find_still)

    changed_all : StaticsTyped w heap changed
    changed_all = grind (arith, changed_count, changed_typed, changed_present)

  pub put_typed : StaticsTyped w heap (with_static statics place.home place.offset v)
  put_typed =
      let x = value_there w heap statics typed place declared said in
      let h = held statics place x.0 x.1 in
      let P : Option ℕ → Type 0 =
      λ n. StaticsTyped w heap (option_map_or (λ (number : ℕ). with_value_in statics number place.offset v) n statics)
      in
      let Q : Option (List StaticValue) → Type 0 =
      λ o. StaticsTyped w heap (option_map_or (λ (fields : List StaticValue). with_package statics h.number
      (map (with_value place.offset v) fields)) o statics) in
      subst P (sym h.is_number) (subst Q (sym h.of_number) (changed_all h.number h.is_number h.fields h.of_number))
