-- Methods with their declaring classes (Java Card Virtual Machine Specification, Descriptor component:
-- method_descriptor_info).
use Rattle.std.specs.Prelude.{ℕ, List, Option, None, slice_get, is_some, nat_lt, if◌then◌else◌}
use Rattle.std.specs.List.{find}
use Rattle.std.specs.Option.{option_and_then, option_map}
use Rattle.jc_cap_desc.specs.Shape.{ClassShape, MethodShape, Shape}
use Rattle.jc_classes.specs.Methods.{method_of_class}
use Rattle.jc_names.specs.Names.{method_home, method_offset, name_in}
use Rattle.jc_names.specs.declared.name.ClassName.{ClassName}
use Rattle.jc_names.specs.declared.name.MethodName.{MethodName}

-- the name of a class of the package at place `home`; no component has an offset above 65,535
abbrev pub name_of : ℕ → ClassShape → Option ClassName
name_of home k = if nat_lt k.offset 0x10000 then name_in home k.offset else None

-- a method with its class
pub record DeclaredMethod : Type 0 where
  pub class : ClassName
  pub method : MethodShape

-- the method at an offset of the package at place `home`: that of the first class that has one
abbrev pub declared_in : ℕ → ℕ → Shape → Option DeclaredMethod
declared_in home offset shape =
    option_and_then (λ k. option_and_then
    (λ class. option_map (λ m. record { class = class; method = m }) (method_of_class offset k)) (name_of home k))
    (find (λ k. is_some (method_of_class offset k)) shape.classes)

-- the method with a name
abbrev pub method_at : List Shape → MethodName → Option DeclaredMethod
method_at world m =
    option_and_then (λ home. option_and_then (declared_in home (method_offset m)) (slice_get world home))
    (method_home m)
