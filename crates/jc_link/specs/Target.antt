-- The targets of entries of the constant pool, with the types of members: what an instruction needs of an entry.
use Rattle.std.specs.Prelude.{map, ℕ, ◌+◌, List, Option, Some, None}
use Rattle.std.specs.Option.{option_and_then, option_map}
use Rattle.jc_base.specs.Signature.{Signature}
use Rattle.jc_base.specs.declared.declared_type.DeclaredType.{DeclaredType}
use Rattle.jc_cap_desc.specs.Shape.{Shape}
use Rattle.jc_cap.specs.declared.entry.PoolEntry.{PoolEntry}
use Rattle.jc_classes.specs.Members.{DeclaredMethod, method_at}
use Rattle.jc_classes.specs.Walk.{most_classes}
use Rattle.jc_names.specs.Names.{home_of}
use Rattle.jc_names.specs.declared.name.ClassName.{ClassName}
use Rattle.jc_names.specs.declared.name.MethodName.{MethodName}
use Rattle.jc_link.specs.MemberType.{as_member, declared_type_of, field_type_of, method_type_of}
use Rattle.jc_link.specs.Named.{cells_above, instance_field_at, named_by, static_field_at}
use Rattle.jc_link.specs.declared.named.Named.{Named}
use Rattle.jc_link.specs.declared.named.Named.TheVariants as Names
use Rattle.jc_link.specs.declared.named.StaticPlace.{StaticPlace}
use Rattle.jc_link.specs.declared.target.PoolTarget.{PoolTarget}
use Rattle.jc_link.specs.declared.target.PoolTarget.TheVariants as To

-- the types of fields
abbrev pub instance_type_of : List Shape → ClassName → ℕ → Option (DeclaredType ClassName)
instance_type_of world c token = option_and_then (field_type_of world (home_of c)) (instance_field_at world c token)

abbrev pub static_type_of : List Shape → StaticPlace → Option (DeclaredType ClassName)
static_type_of world place = option_and_then (field_type_of world place.home) (static_field_at world place)

-- the type of the member that is named; a class has none
abbrev pub named_type_of : List Shape → Named → Option (Signature ClassName)
named_type_of world (Names.Class c) = None
named_type_of world (Names.InstanceField c token) = option_map as_member (instance_type_of world c token)
named_type_of world (Names.StaticField place) = option_map as_member (static_type_of world place)
named_type_of world (Names.VirtualMethod c token m) = method_type_of world m
named_type_of world (Names.SuperMethod c m) = method_type_of world m
named_type_of world (Names.StaticMethod m) = method_type_of world m

-- the cell of a field: its token, after the cells of the superclasses
abbrev pub cell_of : List Shape → ClassName → ℕ → ℕ
cell_of world c token = cells_above world most_classes c + token

-- a static method or constructor with its class and its declared type
abbrev pub target_of_declared : List Shape → MethodName → DeclaredMethod → Option PoolTarget
target_of_declared world m d = option_map (To.StaticMethod d.class m d.method.is_static) (declared_type_of world d)

-- the target of a name, if its type resolves
abbrev pub target_of : List Shape → Named → Option PoolTarget
target_of world (Names.Class c) = Some (To.Class c)
target_of world (Names.InstanceField c token) =
    option_map (To.InstanceField c (cell_of world c token)) (instance_type_of world c token)
target_of world (Names.StaticField place) = option_map (To.StaticField place) (static_type_of world place)
target_of world (Names.VirtualMethod c token m) = option_map (To.VirtualMethod c token) (method_type_of world m)
target_of world (Names.SuperMethod c m) = option_map (To.SuperMethod c m) (method_type_of world m)
target_of world (Names.StaticMethod m) = option_and_then (target_of_declared world m) (method_at world m)

-- the target of an entry of the package at place `home`
abbrev pub pool_target_of : List Shape → ℕ → PoolEntry → Option PoolTarget
pool_target_of world home entry = option_and_then (target_of world) (named_by world home entry)

-- the targets of the entries of a pool, in order, if they have any
abbrev pub pool_targets : List Shape → ℕ → List PoolEntry → List (Option PoolTarget)
pool_targets world home pool = map (pool_target_of world home) pool
