-- What entries of the constant pool name, resolved in the world (Java Card Virtual Machine Specification, Constant Pool
-- component: cp_info; Linking).
use Rattle.std.specs.Prelude.{ℕ, zero, suc, ◌+◌, ◌==◌, Bool, false, not, List, Option, Some, None, slice_get}
use Rattle.std.specs.Prelude.{if◌then◌else◌}
use Rattle.std.specs.List.{find, flat_map}
use Rattle.std.specs.Option.{option_and_then, option_map, option_map_or}
use Rattle.jc_cap.specs.declared.exports.ExportedClass.{ExportedClass}
use Rattle.jc_cap_desc.specs.Shape.{ClassShape, FieldShape, MethodShape, Shape}
use Rattle.jc_cap_desc.specs.declared.class_row.FieldPlace.{FieldPlace}
use Rattle.jc_cap_desc.specs.declared.class_row.FieldPlace.TheVariants.{Static, Instance}
use Rattle.jc_cap.specs.declared.entry.PoolEntry.{PoolEntry}
use Rattle.jc_cap.specs.declared.entry.PoolEntry.TheVariants.{Classref, InstanceFieldref, VirtualMethodref}
use Rattle.jc_cap.specs.declared.entry.PoolEntry.TheVariants.{SuperMethodref, StaticFieldref, StaticMethodref}
use Rattle.jc_cap.specs.declared.entry.StaticRef.{StaticRef}
use Rattle.jc_cap.specs.declared.entry.StaticRef.TheVariants.{Internal, External}
use Rattle.jc_classes.specs.Members.{method_at}
use Rattle.jc_classes.specs.Methods.{method_name, virtual_method_of}
use Rattle.jc_classes.specs.Record.{declared_size}
use Rattle.jc_classes.specs.Subtype.{is_class_at}
use Rattle.jc_classes.specs.World.{class_at, class_named, import_of, superclass_of}
use Rattle.jc_names.specs.declared.name.ClassName.{ClassName}
use Rattle.jc_names.specs.declared.name.MethodName.{MethodName}
use Rattle.jc_link.specs.declared.named.Named.{Named}
use Rattle.jc_link.specs.declared.named.Named.TheVariants as Names
use Rattle.jc_link.specs.declared.named.StaticPlace.{StaticPlace}

-- the place of an instance field with a token, and of a static field at an offset of the static image
abbrev pub is_instance_field : ℕ → FieldPlace → Bool
is_instance_field token (Static offset) = false
is_instance_field token (Instance class found) = found == token

abbrev pub is_static_field : ℕ → FieldPlace → Bool
is_static_field offset (Static found) = found == offset
is_static_field offset (Instance class token) = false

-- the first field that a class itself declares with a token
abbrev pub instance_field_in : ℕ → ClassShape → Option FieldShape
instance_field_in token k = find (λ f. is_instance_field token f.place) k.fields

abbrev pub instance_field_at : List Shape → ClassName → ℕ → Option FieldShape
instance_field_at world c token = option_and_then (instance_field_in token) (class_at world c)

-- the first static field at an offset of a package's static image, in the order of the classes
abbrev pub static_field_in : ℕ → Shape → Option FieldShape
static_field_in offset shape = find (λ f. is_static_field offset f.place) (flat_map (λ k. k.fields) shape.classes)

abbrev pub static_field_at : List Shape → StaticPlace → Option FieldShape
static_field_at world place = option_and_then (static_field_in place.offset) (slice_get world place.home)

-- how many cells of an object a class itself declares
abbrev pub size_of : List Shape → ClassName → ℕ
size_of world d = option_map_or (λ k. declared_size k.body) (class_at world d) 0

-- how many cells of an object its superclasses take, within n classes
abbrev pub cells_above : List Shape → ℕ → ClassName → ℕ
cells_above world zero c = 0
cells_above world (suc n) c = option_map_or (λ d. size_of world d + cells_above world n d) (superclass_of world c) 0

-- the place of a static member: in its own package, or where an imported package exports it, by its tokens
abbrev pub exported_place : (ExportedClass → List ℕ) → List Shape → ℕ → ℕ → ℕ → Option StaticPlace
exported_place tokens world there class token =
    option_map (λ offset. record { home = there; offset = offset })
    (option_and_then (λ row. slice_get (tokens row) token)
    (option_and_then (λ shape. slice_get shape.exports class) (slice_get world there)))

abbrev pub static_place : (ExportedClass → List ℕ) → List Shape → ℕ → StaticRef → Option StaticPlace
static_place tokens world home (Internal offset) = Some (record { home = home; offset = offset })
static_place tokens world home (External import class token) =
    option_and_then (λ there. exported_place tokens world there class token) (import_of world home import)

-- whether a method exists and isn't abstract
abbrev pub is_abstract_method : MethodShape → Bool
is_abstract_method m = option_map_or (λ header. header.is_abstract) m.header false

abbrev pub is_concrete : List Shape → MethodName → Bool
is_concrete world m = option_map_or (λ d. not (is_abstract_method d.method)) (method_at world m) false

-- a value, if it passes a test
abbrev pub if_passes : {A : Type 0} → (A → Bool) → A → Option A
if_passes test a = if test a then Some a else None

-- a field of a class, if the class itself declares it
abbrev pub named_field : List Shape → ℕ → ClassName → Option Named
named_field world token c = option_map (λ f. Names.InstanceField c token) (instance_field_at world c token)

-- a virtual method of a class, not of an interface, looked up for the package at place `home`
abbrev pub named_virtual : List Shape → ℕ → ℕ → ClassName → Option Named
named_virtual world home token c =
    if is_class_at world c then option_map (Names.VirtualMethod c token) (virtual_method_of world c token home)
    else None

-- a virtual method, not abstract, of a class's superclass, looked up for the package at place `home`
abbrev pub method_above : List Shape → ℕ → ℕ → ClassName → Option MethodName
method_above world home token c = option_and_then (λ d. virtual_method_of world d token home) (superclass_of world c)

abbrev pub named_above : List Shape → ℕ → ℕ → ClassName → Option Named
named_above world home token c =
    if is_class_at world c then option_map (Names.SuperMethod c)
    (option_and_then (if_passes (is_concrete world)) (method_above world home token c))
    else None

-- a static field, if there is one at this place
abbrev pub named_static_field : List Shape → StaticPlace → Option Named
named_static_field world place = option_map (λ f. Names.StaticField place) (static_field_at world place)

-- a static method or a constructor, not abstract, if there is one at this place
abbrev pub named_static_method : List Shape → StaticPlace → Option Named
named_static_method world place =
    option_map Names.StaticMethod (if_passes (is_concrete world) (method_name place.home place.offset))

-- what an entry of the package at place `home` names
abbrev pub named_by : List Shape → ℕ → PoolEntry → Option Named
named_by world home (Classref ref) = option_map Names.Class (class_named world home ref)
named_by world home (InstanceFieldref m) = option_and_then (named_field world m.token) (class_named world home m.class)
named_by world home (VirtualMethodref m) =
    option_and_then (named_virtual world home m.token) (class_named world home m.class)
named_by world home (SuperMethodref m) =
    option_and_then (named_above world home m.token) (class_named world home m.class)
named_by world home (StaticFieldref s) =
    option_and_then (named_static_field world) (static_place (λ row. row.fields) world home s)
named_by world home (StaticMethodref s) =
    option_and_then (named_static_method world) (static_place (λ row. row.methods) world home s)
