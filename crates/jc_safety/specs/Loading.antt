-- What a package adds when it is loaded: the first values of its static fields, and its initialised arrays (Java Card
-- Virtual Machine Specification, CAP file format: StaticField component).
use Rattle.std.specs.Prelude.{◌≡◌, ℤ, ℕ, suc, ◌+◌, ◌-◌, ◌*◌, ◌/◌, ◌<◌, Bool, true, ◌&&◌, if◌then◌else◌, List, [], ◌∷◌}
use Rattle.std.specs.Prelude.{◌++◌, length, map, replicate, get_or, slice_get, Option, Some, None, nat_le, nat_lt}
use Rattle.std.specs.Option.{option_map_or}
use Rattle.jc_base.specs.declared.class_ref.ClassRef.{ClassRef}
use Rattle.jc_base.specs.declared.declared_type.DeclaredType.{DeclaredType}
use Rattle.jc_base.specs.declared.declared_type.DeclaredType.TheVariants as Declared
use Rattle.jc_cap.specs.Statics.{StaticImage}
use Rattle.jc_cap.specs.declared.applets.Applet.{Applet}
use Rattle.jc_cap.specs.declared.arrays.StaticArray.{StaticArray}
use Rattle.jc_cap.specs.declared.arrays.StaticArray.TheVariants as Of
use Rattle.jc_cap_desc.specs.Shape.{Shape}
use Rattle.jc_firewall.specs.Verdict.{runtime}
use Rattle.jc_link.specs.Linked.{IsBoundTo, Linked, LinkedBody, World, with_linked}
use Rattle.jc_link.specs.Statics.{StaticField, static_fields}
use Rattle.jc_machine.specs.Accepted.{IsAccepted}
use Rattle.jc_machine.specs.Machine.{Limits, Machine, StaticValue, Surroundings}
use Rattle.jc_machine.specs.Typed.{IsTypedBeside}
use Rattle.jc_names.specs.declared.owner.Owner.{Owner}
use Rattle.jc_store.specs.Heap.{Heap, Object, cells_in, next_number}
use Rattle.jc_store.specs.declared.kind.ObjectKind.{ObjectKind}
use Rattle.jc_store.specs.declared.kind.Mark.{Mark}
use Rattle.jc_store.specs.declared.kind.Mark.TheVariants.{GlobalArray, Plain}
use Rattle.jc_store.specs.declared.kind.ObjectType.{ObjectType}
use Rattle.jc_store.specs.declared.kind.ObjectType.TheVariants.{BooleanArray, ByteArray, ShortArray}
use Rattle.jc_words.specs.Shorts.{low_byte, low_half, word_of}
use Rattle.jc_words.specs.Values.{Null, Ref, TaggedValue, Word}

-- ---- initialised arrays

abbrev pub type_of_array : StaticArray → ObjectType
type_of_array (Of.Boolean values) = BooleanArray
type_of_array (Of.Byte values) = ByteArray
type_of_array (Of.Short values) = ShortArray

-- its components as words: of booleans and bytes only the low byte is kept
abbrev pub byte_word : ℤ → ℕ
byte_word value = low_byte (word_of value)

abbrev pub short_word : ℤ → ℕ
short_word value = low_half (word_of value)

abbrev pub words_of_array : StaticArray → List ℕ
words_of_array (Of.Boolean values) = map byte_word values
words_of_array (Of.Byte values) = map byte_word values
words_of_array (Of.Short values) = map short_word values

-- the arrays of a package with applets belong to its context, with instance number 0; those of a library belong to the
-- runtime, and are for all contexts
abbrev pub owner_of_arrays : ℕ → Option (List Applet) → Owner
owner_of_arrays number None = runtime
owner_of_arrays number (Some applets) = record { context = number; instance = 0 }

abbrev pub mark_of_arrays : Option (List Applet) → Mark
mark_of_arrays None = GlobalArray
mark_of_arrays (Some applets) = Plain

abbrev pub kind_of_array : LinkedBody → StaticArray → ObjectKind
kind_of_array body array =
    record { object_type = type_of_array array; mark = mark_of_arrays body.kept.applets; clears = None }

abbrev pub loaded_array : ℕ → LinkedBody → StaticArray → Object TaggedValue
loaded_array number body array = record {
  kind = kind_of_array body array;
  owner = owner_of_arrays number body.kept.applets;
  cells = map Word (words_of_array array);
}

-- the arrays of the package with a number, in the order of their references
abbrev pub loaded_arrays : ℕ → LinkedBody → List (Object TaggedValue)
loaded_arrays number body = map (loaded_array number body) body.kept.statics.arrays

-- ---- static fields

-- the bytes of the image: the references, then the bytes that are 0 at first, then those with values
abbrev pub image_bytes : StaticImage → List ℕ
image_bytes image = replicate (2 * image.references + image.defaults) 0 ++ image.values

abbrev pub byte_at : StaticImage → ℕ → ℕ
byte_at image offset = low_byte (get_or (image_bytes image) offset 0)

-- two bytes, the high one first
abbrev pub short_at : StaticImage → ℕ → ℕ
short_at image offset = 256 * byte_at image offset + byte_at image (offset + 1)

-- the first references lead to the initialised arrays, of which the first has this number; the others are null
abbrev pub reference_at : ℕ → StaticImage → ℕ → TaggedValue
reference_at first image offset = if nat_lt (offset / 2) (length image.arrays) then Ref (first + offset / 2) else Null

-- the value of a field of a type at an offset of the image
abbrev pub value_at : ℕ → StaticImage → ℕ → DeclaredType ClassRef → TaggedValue
value_at first image offset Declared.Boolean = Word (byte_at image offset)
value_at first image offset Declared.Byte = Word (byte_at image offset)
value_at first image offset Declared.Short = Word (short_at image offset)
value_at first image offset (Declared.Reference c) = reference_at first image offset
value_at first image offset Declared.BooleanArray = reference_at first image offset
value_at first image offset Declared.ByteArray = reference_at first image offset
value_at first image offset Declared.ShortArray = reference_at first image offset
value_at first image offset (Declared.ReferenceArray c) = reference_at first image offset

abbrev pub static_value : ℕ → StaticImage → StaticField → StaticValue
static_value first image f = record { offset = f.offset; value = value_at first image f.offset f.type }

-- those that a package declares, in the order of its classes
abbrev pub static_values : ℕ → StaticImage → Shape → List StaticValue
static_values first image shape = map (static_value first image) (static_fields shape)

-- static fields lie within their image, each at an offset of its own
pub record HaveOwnOffsets (image : StaticImage) (fields : List StaticField) : Type 0 where
  pub within : (i : ℕ) (f : StaticField) → slice_get fields i ≡ Some f → f.offset < image.size
  pub own : (i j : ℕ) (f g : StaticField) → slice_get fields i ≡ Some f → slice_get fields j ≡ Some g
      → f.offset ≡ g.offset → i ≡ j

-- ---- a package is loaded

-- the package's shape: it is the last of the world that it was bound to
abbrev pub own_shape : Linked → Option Shape
own_shape l = slice_get l.world (length l.world - 1)

-- its static fields, if its first array gets this number
abbrev pub loaded_statics : ℕ → Linked → List StaticValue
loaded_statics first l = option_map_or (static_values first l.body.kept.statics) (own_shape l) []

-- the number that the next package gets
abbrev pub next_package : World → ℕ
next_package w = suc (length w.bodies)

-- the objects after the load, and the static fields
abbrev pub heap_behind : World → Heap TaggedValue → Linked → Heap TaggedValue
heap_behind w heap l = heap ++ loaded_arrays (next_package w) l.body

abbrev pub statics_behind : Heap TaggedValue → List (List StaticValue) → Linked → List (List StaticValue)
statics_behind heap statics l = statics ++ loaded_statics (next_number heap) l ∷ []

-- there is room for the arrays
abbrev pub has_room_for : {V : Type 0} → Limits → Heap V → Bool
has_room_for limits behind = nat_le (length behind) limits.objects && nat_le (cells_in behind) limits.cells

-- the surroundings of the machine, and what it keeps beside its frames, after the load
abbrev pub around_behind : {C : Type 0} → Surroundings C → Linked → Surroundings C
around_behind s l = record s { world = with_linked s.world l }

abbrev pub machine_behind : {C : Type 0} → Surroundings C → Machine C → Linked → Machine C
machine_behind s m l = record m {
  heap = heap_behind s.world m.heap l;
  statics = statics_behind m.heap m.statics l;
}

-- a linked package may be loaded: its world is accepted without it and with it, what is kept beside frames is typed,
-- the objects after the load take fewer than 65536 cells, and what the runtime keeps fits them
pub record MayLoad {C : Type 0} (s : Surroundings C) (m : Machine C) (l : Linked) : Type 0 where
  pub before : IsAccepted s.world
  pub bound : IsBoundTo s.world l
  pub after : IsAccepted (with_linked s.world l)
  pub beside : IsTypedBeside s m
  pub few : cells_in (heap_behind s.world m.heap l) < 65536
  pub fits : s.natives.fits (with_linked s.world l) (heap_behind s.world m.heap l) m.runtime ≡ true
