-- Objects of the API's classes have no fields that a package declares: each of their cells is a word.
use Rattle.std.proofs.Common.{◌≡◌, ℕ, zero, suc, List, [], ◌∷◌, map, Option, Some, None, slice_get, sym, subst, arith}
use Rattle.std.specs.List.{AllByRecursion, range_with_len}
use Rattle.std.specs.Option.{option_map, option_map_or}
use Rattle.jc_api.specs.Class as tables
use Rattle.jc_api.specs.declared.class.ApiClass.{ApiClass}
use Rattle.jc_base.specs.declared.declared_type.DeclaredType.{DeclaredType}
use Rattle.jc_cap_desc.specs.Shape.{Shape}
use Rattle.jc_classes.specs.Walk.{most_classes}
use Rattle.jc_classes.specs.World.{superclass_of}
use Rattle.jc_link.specs.ApiClasses.{StandsThere}
use Rattle.jc_link.specs.Named.{size_of}
use Rattle.jc_link.specs.Target.{instance_type_of}
use Rattle.jc_names.specs.declared.name.ClassName.{ClassName}
use Rattle.jc_names.specs.declared.name.ClassName.TheVariants.{Api}
use Rattle.jc_machine.specs.Lookup.{fields_of, fields_within, own_fields}
use Rattle.jc_safety.proofs.Lists.{each_at, each_joined}

abbrev pub AreBlank : List (Option (DeclaredType ClassName)) → Type 0
AreBlank fields = AllByRecursion (λ f. f ≡ None) fields

blank_each : (f : ℕ → Option (DeclaredType ClassName)) → ((n : ℕ) → f n ≡ None) → (xs : List ℕ) → AreBlank (map f xs)
blank_each f none [] = tt
blank_each f none (x ∷ xs) = (none x, blank_each f none xs)

module _ (world : List Shape) (there : (c : ApiClass) → StandsThere world c) where
  blank_above : (n : ℕ) → ((c : ApiClass) → AreBlank (fields_within world n (Api c))) → (o : Option ApiClass)
      → AreBlank (option_map_or (fields_within world n) (option_map Api o) [])
  blank_above n h1 o = grind arith

  all_blank : (n : ℕ) (c : ApiClass) → AreBlank (fields_within world n (Api c))
  all_blank zero c = tt
  all_blank (suc n) c =
      let above = subst (λ (o : Option ClassName). AreBlank (option_map_or (fields_within world n) o []))
      (sym (there c).superclass) (blank_above n (all_blank n) (tables.superclass_of c)) in
      each_joined (λ f. f ≡ None) (option_map_or (fields_within world n) (superclass_of world (Api c)) [])
      (own_fields world (Api c)) above
      (blank_each (instance_type_of world (Api c)) (there c).fields (range_with_len 0 (size_of world (Api c))))

  -- a cell of such an object is no field's
  pub no_field : (c : ApiClass) (cell : ℕ) (field : Option (DeclaredType ClassName))
      → slice_get (fields_of world (Api c)) cell ≡ Some field → field ≡ None
  no_field c cell field e = each_at (λ f. f ≡ None) (fields_of world (Api c)) cell field (all_blank most_classes c) e
