-- How far tables go.
use Rattle.std.proofs.Common.{◌≡◌, ◌≢◌, ◌⊎◌, inl, inr, ℕ, ◌+◌, ◌-◌, ◌<◌, ◌≤◌, ◌==◌, List, length, Option, Some, None}
use Rattle.std.proofs.Common.{true, refl, sym, ap, ◌∙◌, arith, lt-ltb, le-ltb}
use Rattle.std.proofs.lemmas.Bool.{eqb-true, ne_eqb}
use Rattle.std.proofs.lemmas.Option.{slice_get_past}
use Rattle.std.specs.Option.{option_and_then}
use Rattle.jc_cap.specs.declared.record.RecordBody.{RecordBody}
use Rattle.jc_cap.specs.declared.record.RecordBody.TheVariants.{Interface, Class}
use Rattle.jc_cap_desc.specs.Shape.{ClassShape, Shape}
use Rattle.jc_classes.specs.Methods.{FindsAbove, FindsNothingElse, package_visible, record_visit, virtual_method_of}
use Rattle.jc_classes.specs.Methods.{virtual_visit}
use Rattle.jc_classes.specs.PrivatePlaces.{place_at}
use Rattle.jc_classes.specs.PrivateTables.{IsTabled, Tabled, row_at}
use Rattle.jc_classes.specs.Record.{package_entries}
use Rattle.jc_classes.specs.Walk.{found_from}
use Rattle.jc_classes.specs.World.{class_at, class_named, superclass_of, superclass_ref}
use Rattle.jc_classes.proofs.Tabling.{one_visit}
use Rattle.jc_names.specs.Names.{home_of}
use Rattle.jc_names.specs.declared.name.ClassName.{ClassName}
use Rattle.jc_names.specs.declared.name.MethodName.{MethodName}

module _ (world : List Shape) (c : ClassName) (table : Tabled) (is : IsTabled world c table) where
  pub none_public : (count : ℕ) → ((i : ℕ) → count ≤ i → i < 128 → place_at table.public i ≡ None)
      → (token asker : ℕ) → count ≤ token → token < 128 → virtual_method_of world c token asker ≡ None
  none_public count none token asker past less = grind (arith, lt-ltb)

  visible_at : (token place : ℕ) → 128 ≤ token → token < 256
      → virtual_method_of world c token place ≡ place_at (row_at table.visible place) (token - package_visible)
  visible_at token place least less = grind (arith, le-ltb)

  no_asker : (token place : ℕ) → length table.visible ≤ place → 128 ≤ token → token < 256
      → virtual_method_of world c token place ≡ None
  no_asker token place past least less = grind (arith, visible_at, slice_get_past)

  pub none_visible : (count place : ℕ)
      → ((i : ℕ) → count ≤ i → i < 128 → place_at (row_at table.visible place) i ≡ None)
      → (token : ℕ) → count ≤ token → token < 128 → virtual_method_of world c (128 + token) place ≡ None
  none_visible count place none token past less = grind (arith, visible_at)

  -- a class with a table finds nothing for a package behind its rows
  pub none_else : FindsNothingElse world c (record { first = 0; end = length table.visible })
  none_else token place else least less = grind (arith, no_asker)

  -- ---- what is found above a class

  abbrev above : ℕ → ℕ → Option MethodName
  above token asker = option_and_then (λ d. virtual_method_of world d token asker) (superclass_of world c)

  no_superclass : (k : ClassShape) → class_at world c ≡ Some k → superclass_ref k.body ≡ None
      → superclass_of world c ≡ None
  no_superclass k at none =
      ap (λ (o : Option ClassShape). option_and_then (class_named world (home_of c))
      (option_and_then (λ (k : ClassShape). superclass_ref k.body) o)) at
      ∙ ap (option_and_then (class_named world (home_of c))) none

  visit_above : (b : RecordBody) (token asker : ℕ) → package_visible ≤ token
      → (home_of c ≢ asker) ⊎ (length (package_entries b) ≡ 0)
      → (superclass_ref b ≡ None → superclass_of world c ≡ None)
      → found_from (record_visit world asker token (home_of c) b) (above token asker) ≡ above token asker
  visit_above (Interface r) token asker least leaves none =
      sym (ap (option_and_then (λ d. virtual_method_of world d token asker)) (none refl))
  visit_above (Class r) token asker least (inl other) none = grind (arith, le-ltb, ne_eqb)
  visit_above (Class r) token asker least (inr empty) none = grind (arith, le-ltb)

  found_above : (k : ClassShape) (asker : ℕ) → class_at world c ≡ Some k
      → (home_of c ≢ asker) ⊎ (length (package_entries k.body) ≡ 0) → FindsAbove world c asker
  found_above k asker at leaves token least =
      one_visit (virtual_visit world asker token) world table.depth c k is.ends is.depth at
      ∙ visit_above k.body token asker least leaves (no_superclass k at)

  pub others_above : (k : ClassShape) → class_at world c ≡ Some k
      → (asker : ℕ) → home_of c ≢ asker → FindsAbove world c asker
  others_above k at asker other = found_above k asker at (inl other)

  pub all_above : (k : ClassShape) → class_at world c ≡ Some k
      → (length (package_entries k.body) == 0) ≡ true → (asker : ℕ) → FindsAbove world c asker
  all_above k at empty asker = found_above k asker at (inr (eqb-true (length (package_entries k.body)) 0 empty))
