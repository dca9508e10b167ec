-- The properties of a card's world that a machine relies on (Java Card Virtual Machine Specification, Binary
-- Compatibility; getfield, invokevirtual, invokespecial, invokestatic, invokeinterface).
use Rattle.std.specs.Prelude.{◌≡◌, ℕ, ◌+◌, ◌<◌, Bool, true, false, List, length, Some, None, IsSome, is_some, slice_get}
use Rattle.std.specs.List.{list_all}
use Rattle.jc_base.specs.Signature.{Signature}
use Rattle.jc_cap.specs.ClassComponent.{is_class}
use Rattle.jc_cap_desc.specs.Shape.{ClassShape, FieldShape, MethodShape, Shape}
use Rattle.jc_cap.specs.declared.method_header.MethodHeader.{MethodHeader}
use Rattle.jc_cap.specs.declared.entry.PoolEntry.{PoolEntry}
use Rattle.jc_api.specs.declared.class.ApiClass.TheVariants.{Object}
use Rattle.jc_classes.specs.Members.{DeclaredMethod, method_at}
use Rattle.jc_classes.specs.Methods.{interface_method_of, interface_visit, virtual_method_of}
use Rattle.jc_classes.specs.Subtype.{is_at_or_above, is_class_at, IsOrderly}
use Rattle.jc_classes.specs.Walk.{found, most_classes}
use Rattle.jc_names.specs.Names.{home_of}
use Rattle.jc_classes.specs.World.{class_at, superclass_of}
use Rattle.jc_names.specs.declared.name.ClassName.{ClassName}
use Rattle.jc_names.specs.declared.name.ClassName.TheVariants.{Api}
use Rattle.jc_names.specs.declared.name.MethodName.{MethodName}
use Rattle.jc_link.specs.Classes.{argument_count}
use Rattle.jc_link.specs.Found.{is_same_signature}
use Rattle.jc_link.specs.MemberType.{declared_type_of, member_type_of, method_type_of}
use Rattle.jc_link.specs.Named.{cells_above, instance_field_at, is_concrete, size_of, static_field_at}
use Rattle.jc_link.specs.Target.{instance_type_of, pool_target_of, static_type_of}
use Rattle.jc_link.specs.declared.named.StaticPlace.{StaticPlace}

-- a class is another one, or has it as a superclass, any number of steps up
pub data IsHeir (world : List Shape) : ClassName → ClassName → Type 0 where
  itself : (c : ClassName) → IsHeir world c c
  behind : (c d e : ClassName) → superclass_of world c ≡ Some d → IsHeir world d e → IsHeir world c e

-- superclasses are classes, and their chains end in Object, which has none. What `is_at_or_above` finds above a class
-- is above it
pub record HaveSuperclasses (world : List Shape) : Type 0 where
  pub orderly : IsOrderly world
  pub classes : (c d : ClassName) → superclass_of world c ≡ Some d → is_class_at world d ≡ true
  pub object : (c : ClassName) → is_class_at world c ≡ true → IsHeir world c (Api Object)
  pub top : superclass_of world (Api Object) ≡ None
  pub heirs : (c d : ClassName) → is_at_or_above world most_classes d c ≡ true → IsHeir world c d

-- an instance field has a type, and a cell among those of its class, which come after those of the superclass; a static
-- field has a type
pub record HaveFields (world : List Shape) : Type 0 where
  pub types : (c : ClassName) (token : ℕ) (f : FieldShape) → instance_field_at world c token ≡ Some f
      → IsSome (instance_type_of world c token)
  pub cells : (c : ClassName) (token : ℕ) (f : FieldShape) → instance_field_at world c token ≡ Some f
      → token < size_of world c
  pub above : (c d : ClassName) → superclass_of world c ≡ Some d
      → cells_above world most_classes c ≡ size_of world d + cells_above world most_classes d
  pub statics : (place : StaticPlace) (f : FieldShape) → static_field_at world place ≡ Some f
      → IsSome (static_type_of world place)

-- a method has a type, and its header counts the words of its arguments
pub record HaveMethods (world : List Shape) : Type 0 where
  pub types : (m : MethodName) (d : DeclaredMethod) → method_at world m ≡ Some d → IsSome (declared_type_of world d)
  pub words : (m : MethodName) (d : DeclaredMethod) (h : MethodHeader) → method_at world m ≡ Some d
      → d.method.header ≡ Some h → h.nargs ≡ argument_count d.method

-- a method that a class finds exists, isn't static, and is declared by the class or a superclass of it
pub record IsInstanceMethod (world : List Shape) (c : ClassName) (m : MethodName) : Type 0 where
  pub declared : DeclaredMethod
  pub there : method_at world m ≡ Some declared
  pub instance : declared.method.is_static ≡ false
  pub heir : IsHeir world c declared.class

-- a class has a method of the same type as one that a superclass of it has
pub record HasInPlace (world : List Shape) (c : ClassName) (token asker : ℕ) (above : MethodName) : Type 0 where
  pub method : MethodName
  pub found : virtual_method_of world c token asker ≡ Some method
  pub type : method_type_of world method ≡ method_type_of world above

-- the method that a class finds at a virtual token is an instance method; and a class has each method of its
-- superclasses, or overrides it
pub record HaveVirtualMethods (world : List Shape) : Type 0 where
  pub found : (c : ClassName) (token asker : ℕ) (m : MethodName) → virtual_method_of world c token asker ≡ Some m
      → IsInstanceMethod world c m
  pub kept : (c d : ClassName) (token asker : ℕ) (above : MethodName) → IsHeir world c d → token < 256
      → virtual_method_of world d token asker ≡ Some above
      → HasInPlace world c token asker above

-- an object's class has the method of an interface: it isn't abstract, and has the type that the interface states
pub record HasMethodOf (world : List Shape) (c interface : ClassName) (row : MethodShape) : Type 0 where
  pub method : MethodName
  pub found : interface_method_of world c interface row.token ≡ Some method
  pub concrete : is_concrete world method ≡ true
  pub type : method_type_of world method ≡ member_type_of world (home_of interface) row.signature

-- a class that isn't abstract leaves no method abstract, and has each method of each interface that its chain lists
pub record IsFinished (world : List Shape) (c : ClassName) : Type 0 where
  pub concrete : (token asker : ℕ) (m : MethodName) → token < 256 → asker < length world
      → virtual_method_of world c token asker ≡ Some m → is_concrete world m ≡ true
  pub interfaces : (interface : ClassName) (k : ClassShape) (n : ℕ) (row : MethodShape)
      → IsSome (found (interface_visit world interface) world c)
      → class_at world interface ≡ Some k → slice_get k.methods n ≡ Some row → HasMethodOf world c interface row

-- all of these; and types that `is_same_signature` accepts are equal
pub record IsSound (world : List Shape) : Type 0 where
  pub superclasses : HaveSuperclasses world
  pub fields : HaveFields world
  pub methods : HaveMethods world
  pub virtual_methods : HaveVirtualMethods world
  pub finished : (c : ClassName) (k : ClassShape) → class_at world c ≡ Some k → is_class k.body ≡ true
      → k.is_abstract ≡ false → IsFinished world c
  pub same_types : (s t : Signature ClassName) → is_same_signature s t ≡ true → s ≡ t

-- each entry of the pool of the package at place `home` has a target
abbrev pub leads_somewhere : List Shape → ℕ → PoolEntry → Bool
leads_somewhere world home entry = is_some (pool_target_of world home entry)

abbrev pub LeadSomewhere : List Shape → ℕ → List PoolEntry → Type 0
LeadSomewhere world home pool = list_all (leads_somewhere world home) pool ≡ true
