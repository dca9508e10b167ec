-- The StaticField component (Java Card Virtual Machine Specification, CAP file format: StaticField component).
use Rattle.std.specs.Prelude.{ℕ, ◌+◌, ◌*◌, ◌==◌, ◌&&◌, nat_le, Bool, List, length, Result, Ok, Err, if◌then◌else◌}
use Rattle.jc_base.specs.Cursor.{Read, next_u2, next_bytes, field, whole}
use Rattle.jc_base.specs.Results.{◌>>=◌}
use Rattle.jc_base.specs.Rows.{repeat}
use Rattle.jc_base.specs.declared.fault.LoadFault.{LoadFault}
use Rattle.jc_base.specs.declared.fault.LoadFault.TheVariants.{Malformed}
use Rattle.jc_base.specs.Tag.{static_field_tag}
use Rattle.jc_cap.specs.Arrays.{next_static_array}
use Rattle.jc_cap.specs.declared.arrays.StaticArray.{StaticArray}

-- a package's static fields: the size of the image, the number of references at its start, the arrays that the first of
-- these refer to, the number of bytes of value 0 that follow, and the bytes after those
pub record StaticImage : Type 0 where
  pub size : ℕ
  pub references : ℕ
  pub arrays : List StaticArray
  pub defaults : ℕ
  pub values : List ℕ

-- the sizes of the parts add up to the size, and each array has a reference
abbrev pub fits : StaticImage → Bool
fits image =
    image.size == 2 * image.references + image.defaults + length image.values
    && nat_le (length image.arrays) image.references

-- the numbers and rows of the component in their order
unfoldable pub next_static_image : List ℕ → Result (Read StaticImage) LoadFault
next_static_image info = do
  size ← field static_field_tag (next_u2 info)
  references ← field static_field_tag (next_u2 size.rest)
  count ← field static_field_tag (next_u2 references.rest)
  arrays ← repeat next_static_array count.value count.rest
  defaults ← field static_field_tag (next_u2 arrays.rest)
  given ← field static_field_tag (next_u2 defaults.rest)
  values ← field static_field_tag (next_bytes given.value given.rest)
  Ok (record {
    value = record {
      size = size.value;
      references = references.value;
      arrays = arrays.value;
      defaults = defaults.value;
      values = values.value;
    };
    rest = values.rest;
  })

-- an image that fits
abbrev pub fitting : StaticImage → Result StaticImage LoadFault
fitting image = if fits image then Ok image else Err (Malformed static_field_tag)

-- an info as static fields: nothing follows them, and the image fits
abbrev pub static_fields_of : List ℕ → Result StaticImage LoadFault
static_fields_of info = whole (Malformed static_field_tag) (next_static_image info) >>= fitting
