-- Whether a package is well-formed in its world, in which it stands with the others, and otherwise which refusal is
-- reported (Java Card Virtual Machine Specification, Linking; Binary Compatibility).
use Rattle.std.specs.Prelude.{take, ◌≡◌, ℕ, true, ◌||◌, Bool, List, length, Option, Some, None, if◌then◌else◌}
use Rattle.std.specs.List.{find}
use Rattle.std.specs.Option.{option_map, option_map_or, option_or}
use Rattle.jc_base.specs.declared.fault.LoadFault.{LoadFault}
use Rattle.jc_base.specs.declared.fault.LoadFault.TheVariants.{MissingImport, Unresolved, TypeMismatch, BadClass}
use Rattle.jc_base.specs.declared.fault.LoadFault.TheVariants.{BadStatic, DuplicatePackage}
use Rattle.jc_cap_desc.specs.Shape.{ClassShape, Package, Shape}
use Rattle.jc_classes.specs.Growth.{grown}
use Rattle.jc_classes.specs.Members.{name_of}
use Rattle.jc_names.specs.declared.name.ClassName.{ClassName}
use Rattle.jc_link.specs.Classes.{has_bad_entry, has_field_past_size, has_field_twice, has_other_nargs}
use Rattle.jc_link.specs.Classes.{has_unknown_type, lacks_superclass, leads_round, lists_no_interface}
use Rattle.jc_link.specs.Imports.{first_unmet, is_there_already}
use Rattle.jc_link.specs.Inherited.{is_unfinished, loses_method, overrides_with_another_type}
use Rattle.jc_link.specs.Pool.{first_mistyped, first_unresolved}
use Rattle.jc_link.specs.Statics.{first_bad_static}

-- faults of a class that don't depend on what it inherits, and faults that do
abbrev pub is_bad_alone : List Shape → ℕ → ClassName → ClassShape → Bool
is_bad_alone world home c k =
    lacks_superclass world c k || leads_round world c || lists_no_interface world home k
    || has_unknown_type world home k
    || has_field_twice k || has_field_past_size k || has_bad_entry world home c k || has_other_nargs k

abbrev pub is_bad_heir : List Shape → ℕ → ClassName → ClassShape → Bool
is_bad_heir world home c k =
    loses_method world home c || overrides_with_another_type world home c || is_unfinished world c k

abbrev pub is_bad : List Shape → ℕ → ClassShape → ClassName → Bool
is_bad world home k c = is_bad_alone world home c k || is_bad_heir world home c k

abbrev pub is_bad_class : List Shape → ℕ → ClassShape → Bool
is_bad_class world home k = option_map_or (is_bad world home k) (name_of home k) true

-- the offset of the first class that isn't well-formed
abbrev pub first_bad_class : List Shape → ℕ → Shape → Option ℕ
first_bad_class world home shape = option_map (λ k. k.offset) (find (is_bad_class world home) shape.classes)

-- a duplicate package
abbrev pub duplicate : Bool → Option LoadFault
duplicate found = if found then Some DuplicatePackage else None

-- why the package at place `home` isn't well-formed: the refusal with the least number, at its first place
abbrev pub linking_fault : List Shape → ℕ → Package → Option LoadFault
linking_fault world home p =
    option_or (option_map MissingImport (first_unmet world home p.shape))
    (option_or (option_map Unresolved (first_unresolved world home p.body.pool))
    (option_or (option_map TypeMismatch (first_mistyped world home p.body))
    (option_or (option_map BadClass (first_bad_class world home p.shape))
    (option_or (option_map BadStatic (first_bad_static p.body.statics p.shape))
    (duplicate (is_there_already (take home world) p.shape))))))

-- why a package isn't well-formed, appended to the world of the packages before it
abbrev pub fault_behind : List Shape → Package → Option LoadFault
fault_behind before p = linking_fault (grown before p.shape) (length before) p

-- a package that is well-formed in the world of those before it
abbrev pub IsWellFormed : List Shape → Package → Type 0
IsWellFormed before p = fault_behind before p ≡ None
