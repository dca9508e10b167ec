-- A world that grows: appending packages changes no effect of the instructions of those before them.
use Rattle.std.specs.Prelude.{◌≡◌, ℕ, ◌-◌, true, List, length}
use Rattle.std.specs.Option.{option_and_then}
use Rattle.jc_cap_desc.specs.Shape.{Shape}
use Rattle.jc_classes.specs.Growth.{IsWithin}
use Rattle.jc_classes.specs.Members.{DeclaredMethod, method_at}
use Rattle.jc_classes.specs.Methods.{method_name}
use Rattle.jc_classes.specs.Subtype.{is_class_below}
use Rattle.jc_names.specs.declared.name.ClassName.{ClassName}
use Rattle.jc_link.specs.Linked.{Linked}
use Rattle.jc_types.specs.State.{Types, types_below}
use Rattle.jc_types.specs.Ty.{is_below}
use Rattle.jc_types.specs.declared.ty.Ty.{Ty}
use Rattle.jc_effects.specs.Method.{own_method, result_of, setting_of}
use Rattle.jc_effects.specs.Objects.{Setting, has_objects, interface_method_type}

-- the same setting in another world
abbrev pub in_world : List Shape → Setting → Setting
in_world world set = record set { world = world }

-- the classes and methods of the earlier world have the same properties in the later one
pub record KeepsAllMembers (before after : List Shape) : Type 0 where
  pub objects : (c : ClassName) → IsWithin before c → has_objects after c ≡ has_objects before c
  pub interface_types : (c : ClassName) (token : ℕ) → IsWithin before c
      → interface_method_type after c token ≡ interface_method_type before c token
  pub results : (d : DeclaredMethod) → IsWithin before d.class → result_of after d ≡ result_of before d

-- types and states that are below others are below them in the later world too, whatever they name
pub record KeepsAllOrders (before after : List Shape) : Type 0 where
  pub types : (t u : Ty) → is_below (is_class_below before) t u ≡ true → is_below (is_class_below after) t u ≡ true
  pub states : (s t : Types) → types_below (is_class_below before) s t ≡ true
      → types_below (is_class_below after) s t ≡ true

-- the methods of a linked package are found in a later world, with the results of their settings
pub record KeepsOwnMethods (l : Linked) (after : List Shape) : Type 0 where
  pub declared : (offset : ℕ) → method_at after (method_name (length l.world - 1) offset) ≡ own_method l offset
  pub returned : (offset : ℕ) → option_and_then (result_of after) (own_method l offset) ≡ (setting_of l offset).returned
