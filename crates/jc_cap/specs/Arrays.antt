-- The initialised arrays of the StaticField component (Java Card Virtual Machine Specification, CAP file format:
-- StaticField component, array_init_info).
use Rattle.std.specs.Prelude.{ℕ, ◌%◌, ◌==◌, ◌&&◌, nat_le, List, length, Option, Some, None, Result, Ok, if◌then◌else◌}
use Rattle.jc_base.specs.Cursor.{Read, next_u1, next_u2, next_bytes, field}
use Rattle.jc_base.specs.Results.{◌>>=◌}
use Rattle.jc_base.specs.declared.fault.LoadFault.{LoadFault}
use Rattle.jc_base.specs.Tag.{static_field_tag}
use Rattle.jc_base.specs.Numbers.{s1s, s2s}
use Rattle.jc_cap.specs.declared.arrays.StaticArray.{StaticArray}
use Rattle.jc_cap.specs.declared.arrays.StaticArray.TheVariants.{Boolean, Byte, Short}

-- the type codes of arrays
abbrev pub of_booleans : ℕ
of_booleans = 2

abbrev pub of_bytes : ℕ
of_bytes = 3

abbrev pub of_shorts : ℕ
of_shorts = 4

-- the greatest number of components of an array
abbrev pub most_components : ℕ
most_components = 32_767

-- the array with a type code and these bytes; an array of shorts has an even number of bytes, so never too many
-- components
abbrev pub array_of : ℕ → List ℕ → Option StaticArray
array_of kind bytes =
    if kind == of_booleans && nat_le (length bytes) most_components then Some (Boolean (s1s bytes))
    else (if kind == of_bytes && nat_le (length bytes) most_components then Some (Byte (s1s bytes))
    else (if kind == of_shorts && length bytes % 2 == 0 then Some (Short (s2s bytes)) else None))

-- a type code, a number of bytes, and the bytes
unfoldable pub next_static_array : List ℕ → Result (Read StaticArray) LoadFault
next_static_array bytes = do
  kind ← field static_field_tag (next_u1 bytes)
  size ← field static_field_tag (next_u2 kind.rest)
  values ← field static_field_tag (next_bytes size.value size.rest)
  array ← field static_field_tag (array_of kind.value values.value)
  Ok (record { value = array; rest = values.rest })
