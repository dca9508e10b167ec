-- Types as nibbles (Java Card Virtual Machine Specification, Descriptor component: type_descriptor_info).
use Rattle.std.specs.Prelude.{ℕ, ◌+◌, ◌*◌, ◌==◌, List, Option, Some, None, Result, Ok, Err, if◌then◌else◌}
use Rattle.jc_base.specs.Cursor.{Read, field}
use Rattle.jc_base.specs.Results.{◌>>=◌}
use Rattle.jc_base.specs.Tag.{descriptor_tag}
use Rattle.jc_base.specs.declared.fault.LoadFault.{LoadFault}
use Rattle.jc_base.specs.declared.fault.LoadFault.TheVariants.{Malformed}
use Rattle.jc_base.specs.ClassRef.{class_ref_of}
use Rattle.jc_base.specs.declared.class_ref.ClassRef.{ClassRef}
use Rattle.jc_cap.specs.Nibbles.{next_nibble}
use Rattle.jc_base.specs.declared.declared_type.DeclaredType.{DeclaredType}
use Rattle.jc_base.specs.declared.declared_type.DeclaredType.TheVariants.{Boolean, Byte, Short, Reference, BooleanArray}
use Rattle.jc_base.specs.declared.declared_type.DeclaredType.TheVariants.{ByteArray, ShortArray, ReferenceArray}
use Rattle.jc_base.specs.declared.declared_type.ReturnType.{ReturnType}
use Rattle.jc_base.specs.declared.declared_type.ReturnType.TheVariants.{Void, Value}

-- the first nibbles of types, and of void
abbrev pub void_code : ℕ
void_code = 1

abbrev pub boolean_code : ℕ
boolean_code = 2

abbrev pub byte_code : ℕ
byte_code = 3

abbrev pub short_code : ℕ
short_code = 4

abbrev pub reference_code : ℕ
reference_code = 6

abbrev pub boolean_array_code : ℕ
boolean_array_code = 0xA

abbrev pub byte_array_code : ℕ
byte_array_code = 0xB

abbrev pub short_array_code : ℕ
short_array_code = 0xC

abbrev pub reference_array_code : ℕ
reference_array_code = 0xE

-- a class, in four nibbles
unfoldable pub next_class : List ℕ → Result (Read ClassRef) LoadFault
next_class nibbles = do
  a ← field descriptor_tag (next_nibble nibbles)
  b ← field descriptor_tag (next_nibble a.rest)
  c ← field descriptor_tag (next_nibble b.rest)
  d ← field descriptor_tag (next_nibble c.rest)
  Ok (record { value = class_ref_of (16 * (16 * (16 * a.value + b.value) + c.value) + d.value); rest = d.rest })

-- a type without more nibbles
abbrev pub no_more : DeclaredType ClassRef → List ℕ → Result (Read (DeclaredType ClassRef)) LoadFault
no_more type nibbles = Ok (record { value = type; rest = nibbles })

-- a type with a class after it
abbrev pub of_class : (ClassRef → DeclaredType ClassRef) → List ℕ → Result (Read (DeclaredType ClassRef)) LoadFault
of_class type nibbles = do
  class ← next_class nibbles
  Ok (record { value = type class.value; rest = class.rest })

-- a type after its first nibble
unfoldable pub next_coded_type : ℕ → List ℕ → Result (Read (DeclaredType ClassRef)) LoadFault
next_coded_type code nibbles =
    if code == boolean_code then no_more Boolean nibbles
    else (if code == byte_code then no_more Byte nibbles
    else (if code == short_code then no_more Short nibbles
    else (if code == reference_code then of_class Reference nibbles
    else (if code == boolean_array_code then no_more BooleanArray nibbles
    else (if code == byte_array_code then no_more ByteArray nibbles
    else (if code == short_array_code then no_more ShortArray nibbles
    else (if code == reference_array_code then of_class ReferenceArray nibbles
    else Err (Malformed descriptor_tag))))))))

-- a type
unfoldable pub next_type : List ℕ → Result (Read (DeclaredType ClassRef)) LoadFault
next_type nibbles = do
  code ← field descriptor_tag (next_nibble nibbles)
  next_coded_type code.value code.rest

-- the result of a method, after its first nibble: void or a type
unfoldable pub next_coded_return : ℕ → List ℕ → Result (Read (ReturnType ClassRef)) LoadFault
next_coded_return code nibbles =
    if code == void_code then Ok (record { value = Void; rest = nibbles })
    else (next_coded_type code nibbles >>= λ type. Ok (record { value = Value type.value; rest = type.rest }))

-- the result of a method
unfoldable pub next_return : List ℕ → Result (Read (ReturnType ClassRef)) LoadFault
next_return nibbles = do
  code ← field descriptor_tag (next_nibble nibbles)
  next_coded_return code.value code.rest

-- the type of a result, unless it is void
abbrev pub type_given : ReturnType ClassRef → Option (DeclaredType ClassRef)
type_given Void = None
type_given (Value type) = Some type
