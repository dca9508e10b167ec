-- Private. Parts of the refusals of linking.
use Rattle.std.specs.Prelude.{◌≡◌, ◌⊎◌, ℕ, take, List, Option, Some}
use Rattle.std.specs.Option.{option_map, option_or}
use Rattle.jc_base.specs.declared.fault.LoadFault.{LoadFault}
use Rattle.jc_base.specs.declared.fault.LoadFault.TheVariants.{Memory, TypeMismatch, BadClass, BadStatic}
use Rattle.jc_cap_desc.specs.Shape.{Body, Shape}
use Rattle.jc_link.specs.Imports.{is_there_already}
use Rattle.jc_link.specs.Pool.{first_mistyped}
use Rattle.jc_link.specs.Statics.{first_bad_static}
use Rattle.jc_link.specs.WellFormed.{duplicate, first_bad_class}

abbrev pub class_fault : List Shape → ℕ → Shape → Body → Option LoadFault
class_fault world home shape body =
    option_or (option_map BadClass (first_bad_class world home shape))
    (option_or (option_map BadStatic (first_bad_static body.statics shape))
    (duplicate (is_there_already (take home world) shape)))

-- the first fault of a package, apart from its imports and the names of its entries
abbrev pub fault_behind_names : List Shape → ℕ → Shape → Body → Option LoadFault
fault_behind_names world home shape body =
    option_or (option_map TypeMismatch (first_mistyped world home body)) (class_fault world home shape body)

-- out of memory, or this fault
abbrev pub IsTold : Option LoadFault → LoadFault → Type 0
IsTold wrong fault = (fault ≡ Memory) ⊎ (wrong ≡ Some fault)
