-- The rules of a linked package, and its methods for the check (Java Card Virtual Machine Specification, Method
-- component: method_header_info, exception_handler_info).
use Rattle.std.specs.Prelude.{ℕ, ◌-◌, ◌==◌, List, [], ◌∷◌, ◌++◌, length, map, Option, Some, None, slice_get}
use Rattle.std.specs.Prelude.{if◌then◌else◌}
use Rattle.std.specs.Option.{option_and_then, option_map_or}
use Rattle.jc_base.specs.declared.class_ref.ClassRef.TheVariants.{Internal}
use Rattle.jc_api.specs.declared.class.ApiClass.TheVariants.{Throwable}
use Rattle.jc_cap_desc.specs.Shape.{MethodBody, Shape}
use Rattle.jc_cap.specs.declared.handler.Handler as rows
use Rattle.jc_cert.specs.declared.stated_type.SpelledClass.{SpelledClass}
use Rattle.jc_cert.specs.declared.stated_type.SpelledClass.TheVariants.{Own, Api, Other}
use Rattle.jc_classes.specs.Members.{DeclaredMethod}
use Rattle.jc_classes.specs.Subtype.{is_class_at, is_class_below}
use Rattle.jc_classes.specs.World.{class_named, loaded_with}
use Rattle.jc_names.specs.declared.name.ClassName.{ClassName}
use Rattle.jc_names.specs.declared.name.ClassName.TheVariants as names
use Rattle.jc_code.specs.Instructions.{instr_at}
use Rattle.jc_link.specs.Linked.{Linked}
use Rattle.jc_link.specs.MemberType.{declared_type_of}
use Rattle.jc_link.specs.declared.target.PoolTarget.{PoolTarget}
use Rattle.jc_link.specs.declared.target.PoolTarget.TheVariants as To
use Rattle.jc_effects.specs.Effect.{effect_of}
use Rattle.jc_effects.specs.Method.{max_stack_of, own_method, result_of}
use Rattle.jc_types.specs.Ty.{type_of_declared}
use Rattle.jc_types.specs.declared.ty.Ty.{Ty}
use Rattle.jc_types.specs.declared.ty.Ty.TheVariants.{Class}
use Rattle.jc_check.specs.Method.{CheckedHandler, CheckedMethod}
use Rattle.jc_check.specs.Rules.{Rules}

-- the place of a linked package: it is the last of its world
abbrev pub own_home : List Shape → ℕ
own_home world = length world - 1

-- ---- the classes that names in its certificate stand for

-- the class with a name, if it isn't an interface
abbrev pub if_class : List Shape → ClassName → Option ClassName
if_class world c = if is_class_at world c then Some c else None

-- the class whose record stands at an offset of the package at place `home`
abbrev pub class_with_record : List Shape → ℕ → ℕ → Option ClassName
class_with_record world home offset = option_and_then (if_class world) (class_named world home (Internal offset))

-- the class that a name stands for. An AID names a package that was loaded before
unfoldable pub class_of_name : List Shape → SpelledClass → Option ClassName
class_of_name world (Own offset) = class_with_record world (own_home world) offset
class_of_name world (Api class) = if_class world (names.Api class)
class_of_name world (Other aid offset) =
    option_and_then (λ home. class_with_record world home offset) (loaded_with world (own_home world) aid)

-- the rules of a linked package
abbrev pub package_rules : Linked → Rules
package_rules l = record {
  decoder = instr_at;
  effect = λ most returned. effect_of (record { world = l.world; targets = l.body.targets; returned = returned }) most;
  below = is_class_below l.world;
  class_of = class_of_name l.world;
}

-- ---- its methods. A row that is missing, or a type that doesn't resolve, leaves its part empty

-- the objects that may be thrown are of this class, or of one below it
abbrev pub throwable : ClassName
throwable = names.Api Throwable

-- the class that an entry of the constant pool names, if its objects may be thrown
abbrev pub thrown_class : List Shape → PoolTarget → Option ClassName
thrown_class world (To.Class c) = if is_class_below world c throwable then Some c else None
thrown_class world (To.InstanceField c cell declared) = None
thrown_class world (To.StaticField place declared) = None
thrown_class world (To.VirtualMethod c token signature) = None
thrown_class world (To.SuperMethod c m signature) = None
thrown_class world (To.StaticMethod c m is_static signature) = None

-- the index that catches everything that may be thrown
abbrev pub catches_all : ℕ
catches_all = 0

-- the class that a handler catches, by its index into the constant pool
abbrev pub caught_class : Linked → ℕ → Option ClassName
caught_class l index =
    if index == catches_all then Some throwable
    else option_and_then (thrown_class l.world) (slice_get l.body.targets index)

-- a handler of code that begins at an offset of the Method component
abbrev pub handler_of : Linked → ℕ → rows.Handler → CheckedHandler
handler_of l code_offset h = record {
  start = h.start - code_offset;
  length = h.active_length;
  goes_on = h.handler - code_offset;
  caught = caught_class l h.catch_type;
}

-- the object on which a method is called, of the class that declares the method, unless it is static
abbrev pub receiver_of : DeclaredMethod → List Ty
receiver_of d = if d.method.is_static then [] else Class d.class ∷ []

-- the types of a method's arguments, the object first
abbrev pub arguments_of : List Shape → DeclaredMethod → List Ty
arguments_of world d =
    receiver_of d ++ option_map_or (λ signature. map type_of_declared signature.parameters)
    (declared_type_of world d) []

-- the number of a method's locals besides its arguments
abbrev pub max_locals_of : DeclaredMethod → ℕ
max_locals_of d = option_map_or (λ h. h.max_locals) d.method.header 0

-- a method with code
abbrev pub method_of : Linked → MethodBody → CheckedMethod
method_of l b =
    let declared = own_method l b.offset in
    record {
      code = b.code;
      arguments = option_map_or (arguments_of l.world) declared [];
      max_locals = option_map_or max_locals_of declared 0;
      max_stack = max_stack_of l b.offset;
      returned = option_and_then (result_of l.world) declared;
      handlers = map (handler_of l b.code_offset) b.handlers;
    }
