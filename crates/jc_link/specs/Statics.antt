-- Static fields in their image (Java Card Virtual Machine Specification, StaticField component): references first,
-- those of initialised arrays before the others, and then the fields of primitive types.
use Rattle.std.specs.Prelude.{ℕ, ◌+◌, ◌*◌, ◌/◌, ◌%◌, ◌==◌, Bool, true, false, not, ◌&&◌, ◌||◌, nat_lt, List, [], ◌∷◌}
use Rattle.std.specs.Prelude.{map, Option, Some, None, min, slice_get, if◌then◌else◌}
use Rattle.std.specs.List.{count_by, filter, filter_map, flat_map}
use Rattle.std.specs.Option.{option_map_or}
use Rattle.jc_base.specs.declared.class_ref.ClassRef.{ClassRef}
use Rattle.jc_base.specs.declared.declared_type.DeclaredType.{DeclaredType}
use Rattle.jc_base.specs.declared.declared_type.DeclaredType.TheVariants as Declared
use Rattle.jc_cap.specs.Statics.{StaticImage}
use Rattle.jc_cap.specs.declared.arrays.StaticArray.{StaticArray}
use Rattle.jc_cap.specs.declared.arrays.StaticArray.TheVariants as Of
use Rattle.jc_cap_desc.specs.Shape.{FieldShape, Shape}
use Rattle.jc_cap_desc.specs.declared.class_row.FieldPlace.{FieldPlace}
use Rattle.jc_cap_desc.specs.declared.class_row.FieldPlace.TheVariants.{Static, Instance}
use Rattle.jc_link.specs.Found.{kind_of}

-- a static field: its offset and its type
pub record StaticField : Type 0 where
  pub offset : ℕ
  pub type : DeclaredType ClassRef

abbrev pub static_of : FieldShape → Option StaticField
static_of f = placed f.place
  where
    placed : FieldPlace → Option StaticField
    placed (Static offset) = Some (record { offset = offset; type = f.type })
    placed (Instance class token) = None

-- the static fields of a package, in the order of the classes
abbrev pub static_fields : Shape → List StaticField
static_fields shape = filter_map static_of (flat_map (λ k. k.fields) shape.classes)

-- whether a field of a type holds a reference
abbrev pub holds_reference : {C : Type 0} → DeclaredType C → Bool
holds_reference Declared.Boolean = false
holds_reference Declared.Byte = false
holds_reference Declared.Short = false
holds_reference (Declared.Reference c) = true
holds_reference Declared.BooleanArray = true
holds_reference Declared.ByteArray = true
holds_reference Declared.ShortArray = true
holds_reference (Declared.ReferenceArray c) = true

-- how many bytes a field of a type takes
abbrev pub width_of : {C : Type 0} → DeclaredType C → ℕ
width_of Declared.Boolean = 1
width_of Declared.Byte = 1
width_of Declared.Short = 2
width_of (Declared.Reference c) = 2
width_of Declared.BooleanArray = 2
width_of Declared.ByteArray = 2
width_of Declared.ShortArray = 2
width_of (Declared.ReferenceArray c) = 2

abbrev pub behind : StaticField → ℕ
behind f = f.offset + width_of f.type

-- a field that runs past the image
abbrev pub leaves_image : StaticImage → StaticField → Bool
leaves_image image f = nat_lt image.size (behind f)

-- a reference that isn't one of the image's first references, or a primitive that isn't after them
abbrev pub is_misplaced : StaticImage → StaticField → Bool
is_misplaced image f =
    if holds_reference f.type then not (f.offset % 2 == 0 && nat_lt f.offset (2 * image.references))
    else nat_lt f.offset (2 * image.references)

-- whether two fields share a byte; each shares its own bytes with itself
abbrev pub share_a_byte : StaticField → StaticField → Bool
share_a_byte f g = nat_lt f.offset (behind g) && nat_lt g.offset (behind f)

-- a field that shares a byte with another one
abbrev pub overlaps_another : List StaticField → StaticField → Bool
overlaps_another fields f = nat_lt 1 (count_by (share_a_byte f) fields)

-- the type of an initialised array
abbrev pub array_type : StaticArray → DeclaredType ClassRef
array_type (Of.Boolean values) = Declared.BooleanArray
array_type (Of.Byte values) = Declared.ByteArray
array_type (Of.Short values) = Declared.ShortArray

-- whether an initialised array has exactly this type
abbrev pub is_of_type : StaticArray → DeclaredType ClassRef → Bool
is_of_type array type = kind_of (array_type array) == kind_of type

-- a field refers to an initialised array, and has another type
abbrev pub is_of_another_array : StaticImage → StaticField → Bool
is_of_another_array image f =
    f.offset % 2 == 0 && option_map_or (λ array. not (is_of_type array f.type))
    (slice_get image.arrays (f.offset / 2)) false

abbrev pub is_bad_static : StaticImage → List StaticField → StaticField → Bool
is_bad_static image fields f =
    leaves_image image f || is_misplaced image f || overlaps_another fields f || is_of_another_array image f

-- the least of numbers
abbrev pub least : List ℕ → Option ℕ
least [] = None
least (n ∷ numbers) = Some (option_map_or (min n) (least numbers) n)

-- the least offset of a bad static field
abbrev pub first_bad_static : StaticImage → Shape → Option ℕ
first_bad_static image shape =
    least (map (λ f. f.offset) (filter (is_bad_static image (static_fields shape)) (static_fields shape)))
