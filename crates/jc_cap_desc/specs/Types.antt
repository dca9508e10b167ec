-- The types that rows and pool entries name (Java Card Virtual Machine Specification, Descriptor component).
use Rattle.std.specs.Prelude.{ℕ, ◌==◌, Bool, true, false, ◌&&◌, ◌||◌, List, [], ◌∷◌, Option, Some, None, Result, Ok}
use Rattle.std.specs.Prelude.{Err, if◌then◌else◌}
use Rattle.std.specs.Option.{option_and_then, is_some}
use Rattle.jc_base.specs.PlacedRows.{row_at}
use Rattle.jc_base.specs.Results.{◌>>=◌}
use Rattle.jc_base.specs.Signature.{Signature}
use Rattle.jc_base.specs.Tag.{descriptor_tag}
use Rattle.jc_base.specs.declared.class_ref.ClassRef.{ClassRef}
use Rattle.jc_base.specs.declared.class_ref.ClassRef.TheVariants.{Internal, External}
use Rattle.jc_base.specs.declared.declared_type.DeclaredType.{DeclaredType}
use Rattle.jc_base.specs.declared.declared_type.DeclaredType.TheVariants as Known
use Rattle.jc_base.specs.declared.fault.LoadFault.{LoadFault}
use Rattle.jc_base.specs.declared.fault.LoadFault.TheVariants.{Malformed}
use Rattle.jc_base.specs.declared.placed_rows.Placed.{Placed}
use Rattle.jc_cap.specs.Descriptor.{field_type_of}
use Rattle.jc_cap_desc.specs.Component.{layout_of}
use Rattle.jc_cap_desc.specs.declared.class_row.FieldPlace.{FieldPlace}
use Rattle.jc_cap_desc.specs.declared.class_row.FieldPlace.TheVariants.{Static, Instance}
use Rattle.jc_cap_desc.specs.declared.class_row.StatedType.{StatedType}
use Rattle.jc_cap_desc.specs.declared.class_row.StatedType.TheVariants.{Boolean, Byte, Short, Described, Unknown}
use Rattle.jc_cap_desc.specs.declared.class_row.FieldRow.{FieldRow}
use Rattle.jc_cap_desc.specs.declared.class_row.MethodRow.{MethodRow}
use Rattle.jc_cap_desc.specs.declared.class_row.ClassRow.{ClassRow}
use Rattle.jc_cap_desc.specs.declared.component.DescriptorInfo.{DescriptorInfo}

-- the type that a field's row states, if it exists
abbrev pub type_of_field : List (Placed (Signature ClassRef)) → StatedType → Option (DeclaredType ClassRef)
type_of_field types Boolean = Some Known.Boolean
type_of_field types Byte = Some Known.Byte
type_of_field types Short = Some Known.Short
type_of_field types (Described offset) = option_and_then field_type_of (row_at offset types)
type_of_field types Unknown = None

-- whether two references are equal
abbrev pub is_same_class : ClassRef → ClassRef → Bool
is_same_class (Internal a) (Internal b) = a == b
is_same_class (External a b) (External c d) = a == c && b == d
is_same_class (Internal a) (External c d) = false
is_same_class (External a b) (Internal c) = false

-- whether a field belongs to a class; every static field counts as its own
abbrev pub is_own_field : ClassRef → FieldPlace → Bool
is_own_field this (Static offset) = true
is_own_field this (Instance class token) = is_same_class class this

-- each field of a class is its own, and its type exists
abbrev pub fields_are_typed : List (Placed (Signature ClassRef)) → ClassRef → List FieldRow → Bool
fields_are_typed types this [] = true
fields_are_typed types this (f ∷ fields) =
    if is_own_field this f.place && is_some (type_of_field types f.stated) then fields_are_typed types this fields
    else false

-- each method's type exists
abbrev pub methods_are_typed : List (Placed (Signature ClassRef)) → List MethodRow → Bool
methods_are_typed types [] = true
methods_are_typed types (m ∷ methods) =
    if is_some (row_at m.type_offset types) then methods_are_typed types methods else false

-- the types of each class's fields and methods exist
abbrev pub classes_are_typed : List (Placed (Signature ClassRef)) → List ClassRow → Bool
classes_are_typed types [] = true
classes_are_typed types (row ∷ rows) =
    if fields_are_typed types row.this row.fields && methods_are_typed types row.methods
    then classes_are_typed types rows
    else false

-- the type offset of a pool entry that has no type
abbrev pub no_type : ℕ
no_type = 0xFFFF

-- each pool entry's type exists, if it has one
abbrev pub pool_is_typed : List (Placed (Signature ClassRef)) → List ℕ → Bool
pool_is_typed types [] = true
pool_is_typed types (offset ∷ offsets) =
    if offset == no_type || is_some (row_at offset types) then pool_is_typed types offsets else false

-- all types that are named exist
abbrev pub types_are_there : DescriptorInfo → Bool
types_are_there info = pool_is_typed info.types info.pool_types && classes_are_typed info.types info.classes

-- the component, or its refusal
abbrev pub descriptor_of : List ℕ → Result DescriptorInfo LoadFault
descriptor_of info =
    layout_of info >>= λ found. if types_are_there found then Ok found else Err (Malformed descriptor_tag)
