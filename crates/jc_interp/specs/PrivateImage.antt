-- Private. The words of a package's static fields, field by field.
use Rattle.std.specs.Prelude.{ℕ, ◌+◌, ◌/◌, List, [], ◌∷◌, length, nat_lt, slice_set, if◌then◌else◌}
use Rattle.jc_base.specs.declared.class_ref.ClassRef.{ClassRef}
use Rattle.jc_base.specs.declared.declared_type.DeclaredType.{DeclaredType}
use Rattle.jc_base.specs.declared.declared_type.DeclaredType.TheVariants as Declared
use Rattle.jc_cap.specs.Statics.{StaticImage}
use Rattle.jc_cap_desc.specs.Shape.{ClassShape, FieldShape}
use Rattle.jc_cap_desc.specs.declared.class_row.FieldPlace.{FieldPlace}
use Rattle.jc_cap_desc.specs.declared.class_row.FieldPlace.TheVariants.{Instance, Static}
use Rattle.jc_safety.specs.Loading.{byte_at, short_at}
use Rattle.jc_words.specs.Shorts.{low_half}

-- ---- a field

-- a reference to an initialised array, or null: the arrays follow so many objects
abbrev pub reference_word : ℕ → StaticImage → ℕ → ℕ
reference_word objects image offset =
    if nat_lt (offset / 2) (length image.arrays) then low_half (objects + (offset / 2 + 1)) else 0

-- the word of a field of a type at an offset of the image
abbrev pub word_at : ℕ → StaticImage → ℕ → DeclaredType ClassRef → ℕ
word_at objects image offset Declared.Boolean = byte_at image offset
word_at objects image offset Declared.Byte = byte_at image offset
word_at objects image offset Declared.Short = short_at image offset
word_at objects image offset (Declared.Reference c) = reference_word objects image offset
word_at objects image offset Declared.BooleanArray = reference_word objects image offset
word_at objects image offset Declared.ByteArray = reference_word objects image offset
word_at objects image offset Declared.ShortArray = reference_word objects image offset
word_at objects image offset (Declared.ReferenceArray c) = reference_word objects image offset

-- ---- words with those of fields

abbrev pub put_at : ℕ → StaticImage → List ℕ → DeclaredType ClassRef → FieldPlace → List ℕ
put_at objects image words type (Static offset) = slice_set words offset (word_at objects image offset type)
put_at objects image words type (Instance class token) = words

abbrev pub with_field : ℕ → StaticImage → List ℕ → FieldShape → List ℕ
with_field objects image words f = put_at objects image words f.type f.place

abbrev pub with_fields : ℕ → StaticImage → List ℕ → List FieldShape → List ℕ
with_fields objects image words [] = words
with_fields objects image words (f ∷ fields) = with_fields objects image (with_field objects image words f) fields

abbrev pub with_classes : ℕ → StaticImage → List ℕ → List ClassShape → List ℕ
with_classes objects image words [] = words
with_classes objects image words (k ∷ classes) =
    with_classes objects image (with_fields objects image words k.fields) classes
