-- The methods of a linked package: the settings of their code, and their greatest number of operands.
use Rattle.std.specs.Prelude.{ℕ, ◌-◌, Bool, List, length, Option, Some, None, is_some, unwrap_or}
use Rattle.std.specs.Option.{option_and_then, option_map}
use Rattle.jc_base.specs.declared.declared_type.ReturnType.{ReturnType}
use Rattle.jc_base.specs.declared.declared_type.ReturnType.TheVariants.{Void, Value}
use Rattle.jc_cap_desc.specs.Shape.{Shape}
use Rattle.jc_classes.specs.Members.{DeclaredMethod, method_at}
use Rattle.jc_classes.specs.Methods.{method_name}
use Rattle.jc_names.specs.declared.name.ClassName.{ClassName}
use Rattle.jc_link.specs.Linked.{Linked}
use Rattle.jc_link.specs.MemberType.{declared_type_of}
use Rattle.jc_types.specs.declared.ty.Ty.{Ty}
use Rattle.jc_types.specs.Ty.{type_of_declared}
use Rattle.jc_effects.specs.Objects.{Setting}

-- the method at an offset of a linked package, which is the last of its world
abbrev pub own_method : Linked → ℕ → Option DeclaredMethod
own_method l offset = method_at l.world (method_name (length l.world - 1) offset)

-- the type of a result, unless it is void
abbrev pub returned_type : ReturnType ClassName → Option Ty
returned_type Void = None
returned_type (Value declared) = Some (type_of_declared declared)

-- the type of a method's result, unless it is void
abbrev pub result_of : List Shape → DeclaredMethod → Option Ty
result_of world d = option_and_then (λ signature. returned_type signature.result) (declared_type_of world d)

-- the setting of the code of the method at an offset
abbrev pub setting_of : Linked → ℕ → Setting
setting_of l offset =
    record {
      world = l.world;
      targets = l.body.targets;
      returned = option_and_then (result_of l.world) (own_method l offset);
    }

-- the greatest number of operands of the method at an offset, if there is one with a header
abbrev pub stack_of : Linked → ℕ → Option ℕ
stack_of l offset = option_map (λ h. h.max_stack) (option_and_then (λ d. d.method.header) (own_method l offset))

-- whether there is such a method
abbrev pub has_own_method : Linked → ℕ → Bool
has_own_method l offset = is_some (stack_of l offset)

-- the greatest number of its operands
abbrev pub max_stack_of : Linked → ℕ → ℕ
max_stack_of l offset = unwrap_or (stack_of l offset) 0
