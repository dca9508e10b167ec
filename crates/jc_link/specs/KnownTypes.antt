-- Types whose classes are known. The types of a world name existing classes, and an interface counts as Object (Java
-- Card Virtual Machine Specification, Linking; Verification types).
use Rattle.std.specs.Prelude.{◌≡◌, ℕ, Bool, true, ◌&&◌, List, Some}
use Rattle.std.specs.List.{list_all}
use Rattle.std.specs.Option.{option_map_or}
use Rattle.jc_base.specs.Signature.{Signature}
use Rattle.jc_base.specs.declared.class_ref.ClassRef.{ClassRef}
use Rattle.jc_base.specs.declared.declared_type.DeclaredType.{DeclaredType}
use Rattle.jc_base.specs.declared.declared_type.ReturnType.{ReturnType}
use Rattle.jc_base.specs.declared.declared_type.ReturnType.TheVariants.{Void, Value}
use Rattle.jc_cap_desc.specs.Shape.{Shape}
use Rattle.jc_cap.specs.declared.entry.PoolEntry.{PoolEntry}
use Rattle.jc_api.specs.declared.class.ApiClass.TheVariants.{Object, Throwable}
use Rattle.jc_classes.specs.Members.{DeclaredMethod, method_at}
use Rattle.jc_classes.specs.Subtype.{common_class, is_class_at}
use Rattle.jc_classes.specs.World.{superclass_of}
use Rattle.jc_names.specs.declared.name.ClassName.{ClassName}
use Rattle.jc_names.specs.declared.name.ClassName.TheVariants.{Api}
use Rattle.jc_names.specs.declared.name.MethodName.{MethodName}
use Rattle.jc_link.specs.Found.{class_in}
use Rattle.jc_link.specs.MemberType.{counted, member_type_of}
use Rattle.jc_link.specs.Target.{pool_target_of}
use Rattle.jc_link.specs.declared.target.PoolTarget.{PoolTarget}
use Rattle.jc_link.specs.declared.target.PoolTarget.TheVariants as To

-- the class that a type names, if it names one, is known
abbrev pub is_known_type : (ClassName → Bool) → DeclaredType ClassName → Bool
is_known_type known type = option_map_or known (class_in type) true

abbrev pub is_known_return : (ClassName → Bool) → ReturnType ClassName → Bool
is_known_return known Void = true
is_known_return known (Value type) = is_known_type known type

-- all parameters and the result of a method have known types
abbrev pub is_known_signature : (ClassName → Bool) → Signature ClassName → Bool
is_known_signature known s = list_all (is_known_type known) s.parameters && is_known_return known s.result

-- the target of a pool's entry is a class or an interface of the world, or a member with such a type
abbrev pub is_known_target : List Shape → PoolTarget → Bool
is_known_target world (To.Class c) = is_class_at world (counted world c)
is_known_target world (To.InstanceField c cell declared) = is_known_type (is_class_at world) declared
is_known_target world (To.StaticField place declared) = is_known_type (is_class_at world) declared
is_known_target world (To.VirtualMethod c token signature) = is_known_signature (is_class_at world) signature
is_known_target world (To.SuperMethod c m signature) = is_known_signature (is_class_at world) signature
is_known_target world (To.StaticMethod c m is_static signature) = is_known_signature (is_class_at world) signature

-- the types of a world name existing classes: Object and Throwable, each class with a superclass, the nearest class
-- above two of which the first is a class, the classes in the types of members, those that declare methods, and those
-- of the targets of pools' entries
pub record NameClasses (world : List Shape) : Type 0 where
  pub object : is_class_at world (Api Object) ≡ true
  pub throwable : is_class_at world (Api Throwable) ≡ true
  pub heirs : (c d : ClassName) → superclass_of world c ≡ Some d → is_class_at world c ≡ true
  pub common : (c d : ClassName) → is_class_at world c ≡ true → is_class_at world (common_class world c d) ≡ true
  pub members : (home : ℕ) (s : Signature ClassRef) (t : Signature ClassName) → member_type_of world home s ≡ Some t
      → is_known_signature (is_class_at world) t ≡ true
  pub declared : (m : MethodName) (d : DeclaredMethod) → method_at world m ≡ Some d → is_class_at world d.class ≡ true
  pub targets : (home : ℕ) (entry : PoolEntry) (target : PoolTarget) → pool_target_of world home entry ≡ Some target
      → is_known_target world target ≡ true
