-- Rows of interfaces: the nearest class that lists an interface, by numbers and by names.
use Rattle.std.proofs.Common.{◌≡◌, ℕ, zero, suc, ◌+◌, ◌<◌, ◌≤◌, ◌==◌, Bool, true, false, cond, List, [], ◌∷◌, ◌++◌}
use Rattle.std.proofs.Common.{drop, length, map, Option, Some, None, is_some, nat_lt, slice_get, refl, ap, ◌∙◌}
use Rattle.std.proofs.Common.{arith}
use Rattle.std.proofs.lemmas.Bool.{ltb-true}
use Rattle.std.proofs.lemmas.Option.{slice_get-map}
use Rattle.std.specs.List.{cons_option, filter_map}
use Rattle.std.specs.Option.{option_and_then, option_map, option_map_or, option_or, option_to_list}
use Rattle.jc_cap.specs.Interfaces.{Implemented}
use Rattle.jc_cap.specs.declared.record.RecordBody.{RecordBody}
use Rattle.jc_cap.specs.declared.record.RecordBody.TheVariants.{Class, Interface}
use Rattle.jc_cap_desc.specs.Shape.{ClassShape, Shape}
use Rattle.jc_classes.specs.Methods.{indexes_visit, interface_visit, is_this, listing_visit}
use Rattle.jc_classes.specs.Methods.{package_visible, public_method_of, row_for, virtual_method_of}
use Rattle.jc_classes.specs.Record.{interface_rows}
use Rattle.jc_classes.specs.Walk.{found, found_from, most_classes, walk}
use Rattle.jc_classes.specs.World.{class_at, class_named, superclass_of, superclass_ref}
use Rattle.jc_names.specs.Names.{home_of}
use Rattle.jc_names.specs.declared.name.ClassName.{ClassName}
use Rattle.jc_entries.specs.declared.called.Called.{Called}
use Rattle.jc_entries.specs.declared.called.Called.TheVariants.{Nothing}
use Rattle.jc_program.specs.Called.{AreCalled, AreInterfaceCalls, called_at, called_of, called_under}
use Rattle.jc_program.specs.Classes.{HaveWordOffsets, class_names, class_number}
use Rattle.jc_program.specs.InterfaceRows.{AreInterfaceRows, ClassInterfaces, IndexRow, class_interfaces, index_row}
use Rattle.jc_program.specs.InterfaceRows.{indexes_at, indexes_from, indexes_in}
use Rattle.jc_program.specs.Methods.{LoadedMethod}
use Rattle.jc_program.specs.declared.interfaces.InterfaceCall.{InterfaceCall}
use Rattle.jc_program.specs.declared.interfaces.InterfaceCall.TheVariants.{NotListed, Listed}
use Rattle.jc_program.proofs.Chaining.{above_number}
use Rattle.jc_program.proofs.Naming.{first_option}
use Rattle.jc_program.proofs.Same.{number_told}

-- ---- what is left of a list

-- one row of those that are left
pub rest_more : {A B : Type 0} (h : A → Option B) (xs : List A) (i : ℕ) → i < length xs
    → option_to_list (option_and_then h (slice_get xs i)) ++ filter_map h (drop (i + 1) xs) ≡ filter_map h (drop i xs)
rest_more h [] i less = absurd (omega (arith, less))
rest_more h (x ∷ xs) zero less = first_option (h x) (filter_map h xs)
rest_more h (x ∷ xs) (suc i) less = grind (arith, first_option, slice_get, drop, rest_more h xs i (omega (arith, less)))

pub none_left : {A B : Type 0} (h : A → Option B) (xs : List A) (i : ℕ) → length xs ≤ i
    → filter_map h (drop i xs) ≡ []
none_left h [] zero past = refl
none_left h [] (suc i) past = refl
none_left h (x ∷ xs) zero past = absurd (omega (arith, past))
none_left h (x ∷ xs) (suc i) past = none_left h xs i (omega (arith, past))

-- ---- the nearest class that lists an interface

module _ (world : List Shape) (names : List ClassName) (interface : ClassName) (other : ℕ)
    (is : class_number names interface ≡ Some other) where
  abbrev with_number : Implemented → ℕ → IndexRow
  with_number row n = record { interface = n; indexes = row.indexes }

  abbrev indexes_of : Option Implemented → Option (List ℕ)
  indexes_of o = option_map (λ (r : Implemented). r.indexes) o

  -- the first row for it in a class's record
  own_row : (home : ℕ) (rows : List Implemented) → indexes_in (filter_map (index_row world names home) rows) other
      ≡ indexes_of (row_for world interface home rows)
  own_row home [] = refl
  own_row home (row ∷ rows) = by_name (class_named world home row.interface) (own_row home rows)
    where
      rest : List IndexRow
      rest = filter_map (index_row world names home) rows

      by_test : (n : ℕ) (b : Bool) → (n == other) ≡ b → indexes_in rest other ≡ indexes_of (row_for world interface home rows)
          → indexes_in (with_number row n ∷ rest) other
          ≡ indexes_of (cond b (Some row) (row_for world interface home rows))
      by_test n b h1 h2 = grind arith

      by_number : (o : Option ℕ) (b : Bool) → option_map_or (λ n. n == other) o false ≡ b
          → indexes_in rest other ≡ indexes_of (row_for world interface home rows)
          → indexes_in (cons_option (option_map (with_number row) o) rest) other
          ≡ indexes_of (cond b (Some row) (row_for world interface home rows))
      by_number o b h1 h2 = grind (arith, by_test)

      by_name : (o : Option ClassName) → indexes_in rest other ≡ indexes_of (row_for world interface home rows)
          → indexes_in (cons_option (option_map (with_number row) (option_and_then (class_number names) o)) rest) other
          ≡ indexes_of (cond (is_this interface o) (Some row) (row_for world interface home rows))
      by_name o h1 = grind (arith, by_number, number_told)

  -- a class's own row, or what is found above it
  own : (home : ℕ) (body : RecordBody) (above : Option (List ℕ)) → (superclass_ref body ≡ None → above ≡ None)
      → option_or (indexes_in (filter_map (index_row world names home) (interface_rows body)) other) above
      ≡ found_from (listing_visit world interface home body) above
  own home (Interface r) above none = none refl
  own home (Class r) above none =
      ap (λ (o : Option (List ℕ)). option_or o above) (own_row home r.interfaces)
      ∙ by_row (row_for world interface home r.interfaces)
    where
      by_row : (o : Option Implemented) → option_or (indexes_of o) above ≡ found_from (indexes_visit o) above
      by_row o = grind arith

  abbrev says : List ClassInterfaces → ℕ → ClassInterfaces → Option (List ℕ)
  says classes steps k = option_or (indexes_in k.rows other)
      (option_and_then (indexes_from classes other steps) k.superclass)

  -- one class on the way up, where those above it say what is found by names
  one_class : (classes : List ClassInterfaces) (steps : ℕ) (c : ClassName)
      → option_and_then (indexes_from classes other steps) (option_and_then (class_number names) (superclass_of world c))
      ≡ option_and_then (walk (interface_visit world interface) world steps) (superclass_of world c)
      → says classes steps (class_interfaces world names c) ≡ walk (interface_visit world interface) world (suc steps) c
  one_class classes steps c above =
      ap (option_or (indexes_in (class_interfaces world names c).rows other)) above ∙ by_class (class_at world c) refl
    where
      by_names : ClassName → Option (List ℕ)
      by_names = walk (interface_visit world interface) world steps

      by_ref : (o : Option ClassShape) → class_at world c ≡ o
          → option_and_then by_names (superclass_of world c) ≡ option_and_then by_names
          (option_and_then (class_named world (home_of c)) (option_and_then (λ (k : ClassShape). superclass_ref k.body) o))
      by_ref o e = grind (arith, by_names)

      with_rows : (o : Option ClassShape) → class_at world c ≡ o
          → option_or (indexes_in (class_interfaces world names c).rows other)
          (option_and_then by_names (superclass_of world c))
          ≡ option_or (indexes_in (filter_map (index_row world names (home_of c))
          (option_map_or (λ (k : ClassShape). interface_rows k.body) o [])) other)
          (option_and_then by_names (superclass_of world c))
      with_rows o e = grind (arith, by_names)

      by_class : (o : Option ClassShape) → class_at world c ≡ o
          → option_or (indexes_in (class_interfaces world names c).rows other)
          (option_and_then by_names (superclass_of world c))
          ≡ option_and_then (λ (k : ClassShape). found_from (interface_visit world interface c k)
          (option_and_then by_names (superclass_of world c))) (class_at world c)
      by_class o h1 = grind (arith, with_rows, by_ref, by_names, own)

  module _ (are : names ≡ class_names world) (words : HaveWordOffsets world) where
    abbrev made : List ClassInterfaces
    made = map (class_interfaces world names) names

    -- the same is found by numbers and by names, in as many steps
    walk_is : (steps number : ℕ) (c : ClassName) → slice_get names number ≡ Some c
        → indexes_from made other steps number ≡ walk (interface_visit world interface) world steps c
    walk_is zero number c at = refl
    walk_is (suc steps) number c at =
        ap (option_and_then (says made steps)) (slice_get-map (class_interfaces world names) names number
        ∙ ap (option_map (class_interfaces world names)) at)
        ∙ one_class made steps c (above (superclass_of world c) refl (walk_is steps))
      where
        above : (o : Option ClassName) → superclass_of world c ≡ o
            → ((number : ℕ) (d : ClassName) → slice_get names number ≡ Some d
            → indexes_from made other steps number ≡ walk (interface_visit world interface) world steps d)
            → option_and_then (indexes_from made other steps) (option_and_then (class_number names) o)
            ≡ option_and_then (walk (interface_visit world interface) world steps) o
        above None e same = refl
        above (Some d) e same =
            let has = above_number world names are words c d e in
            ap (option_and_then (indexes_from made other steps)) has.found ∙ same has.number d has.there

-- ---- what a call leads to

pub are_interface_calls : (world : List Shape) (methods : List LoadedMethod) (names : List ClassName)
    (classes : List ClassInterfaces) (virtuals : List (List Called)) → names ≡ class_names world
    → HaveWordOffsets world → AreInterfaceRows world names classes → AreCalled world methods names virtuals
    → AreInterfaceCalls world methods names classes virtuals
are_interface_calls world methods names classes virtuals are words rows called number other token c interface at is =
    ap (λ (o : Option (List ℕ)). leads o)
    (ap (λ cs. indexes_at cs other number) rows
    ∙ walk_is world names interface other is are words most_classes number c at)
    ∙ by_found (found (interface_visit world interface) world c)
  where
    leads : Option (List ℕ) → InterfaceCall
    leads o = option_map_or (λ indexes.
        Listed (option_map_or (called_under virtuals number) (slice_get indexes token) Nothing)) o NotListed

    by_test : (index : ℕ) (b : Bool) → nat_lt index package_visible ≡ b
        → cond b (called_at virtuals number index) Nothing
        ≡ called_of methods (cond b (virtual_method_of world c index 0) None)
    by_test index true e = called number index 0 c at (ltb-true index package_visible e)
    by_test index false e = refl

    by_index : (o : Option ℕ) → option_map_or (called_under virtuals number) o Nothing
        ≡ called_of methods (option_and_then (public_method_of world c) o)
    by_index None = refl
    by_index (Some index) = by_test index (nat_lt index package_visible) refl

    by_found : (o : Option (List ℕ)) → leads o
        ≡ cond (is_some o) (Listed (called_of methods (option_and_then (λ indexes.
        option_and_then (public_method_of world c) (slice_get indexes token)) o))) NotListed
    by_found None = refl
    by_found (Some indexes) = ap Listed (by_index (slice_get indexes token))
