-- Private. The name that a certificate of a world's last package has for a class, if the class's package is there.
use Rattle.std.specs.Prelude.{◌+◌, ◌==◌, List, length, Option, Some, slice_get, if◌then◌else◌}
use Rattle.std.specs.Option.{option_map}
use Rattle.jc_cap_desc.specs.Shape.{Shape}
use Rattle.jc_cert.specs.declared.stated_type.SpelledClass.{SpelledClass}
use Rattle.jc_cert.specs.declared.stated_type.SpelledClass.TheVariants as spelled
use Rattle.jc_names.specs.Names.{home_of}
use Rattle.jc_names.specs.declared.name.ClassName.{ClassName}
use Rattle.jc_names.specs.declared.name.ClassName.TheVariants.{Api, Loaded}

abbrev pub spelled_name : List Shape → ClassName → Option SpelledClass
spelled_name world (Api class) = Some (spelled.Api class)
spelled_name world (Loaded number offset) =
    if home_of (Loaded number offset) + 1 == length world then Some (spelled.Own offset)
    else option_map (λ s. spelled.Other s.«package».aid offset) (slice_get world (home_of (Loaded number offset)))
