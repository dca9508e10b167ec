-- The interfaces that a class and its superclasses list, as the look-up of an interface's method visits them (Java Card
-- Virtual Machine Specification, invokeinterface; CAP file format: Class component).
use Rattle.std.specs.Prelude.{◌≡◌, ℕ, zero, suc, List, [], Option, Some}
use Rattle.std.specs.Option.{option_and_then}
use Rattle.jc_cap_desc.specs.Shape.{ClassShape, Shape}
use Rattle.jc_classes.specs.Record.{interface_rows}
use Rattle.jc_classes.specs.World.{class_at, superclass_of}
use Rattle.jc_names.specs.declared.name.ClassName.{ClassName}

-- the class that many superclasses above a class
abbrev pub class_behind : List Shape → ℕ → ClassName → Option ClassName
class_behind world zero c = Some c
class_behind world (suc n) c = option_and_then (class_behind world n) (superclass_of world c)

-- neither a class nor a superclass of it lists an interface in its own record
abbrev pub ListNothing : List Shape → ClassName → Type 0
ListNothing world c = (n : ℕ) (d : ClassName) (k : ClassShape) → class_behind world n c ≡ Some d
    → class_at world d ≡ Some k → interface_rows k.body ≡ []
