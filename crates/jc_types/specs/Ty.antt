-- Verification types, their order, their joins and their heights (Java Card Virtual Machine Specification, verification
-- types: the types of local variables and of the operand stack).
use Rattle.std.specs.Prelude.{ℕ, ◌+◌, Bool, true, false, ◌||◌, if◌then◌else◌, Option, Some, None}
use Rattle.std.specs.Option.{option_map_or}
use Rattle.jc_base.specs.declared.declared_type.DeclaredType.{DeclaredType}
use Rattle.jc_base.specs.declared.declared_type.DeclaredType.TheVariants as Declared
use Rattle.jc_api.specs.declared.class.ApiClass.TheVariants.{Object}
use Rattle.jc_names.specs.declared.name.ClassName.{ClassName}
use Rattle.jc_names.specs.declared.name.ClassName.TheVariants.{Api}
use Rattle.jc_types.specs.declared.ty.Ty.{Ty}
use Rattle.jc_types.specs.declared.ty.Ty.TheVariants.{Top, Word, Null, Class, BooleanArray, ByteArray, ShortArray}
use Rattle.jc_types.specs.declared.ty.Ty.TheVariants.{ReferenceArray}

-- the verification type of a declared type: boolean, byte and short are words
abbrev pub type_of_declared : DeclaredType ClassName → Ty
type_of_declared Declared.Boolean = Word
type_of_declared Declared.Byte = Word
type_of_declared Declared.Short = Word
type_of_declared (Declared.Reference c) = Class c
type_of_declared Declared.BooleanArray = BooleanArray
type_of_declared Declared.ByteArray = ByteArray
type_of_declared Declared.ShortArray = ShortArray
type_of_declared (Declared.ReferenceArray c) = ReferenceArray c

-- the class of the objects of a type: for arrays it is Object
abbrev pub class_of_objects : Ty → Option ClassName
class_of_objects Top = None
class_of_objects Word = None
class_of_objects Null = None
class_of_objects (Class c) = Some c
class_of_objects BooleanArray = Some (Api Object)
class_of_objects ByteArray = Some (Api Object)
class_of_objects ShortArray = Some (Api Object)
class_of_objects (ReferenceArray c) = Some (Api Object)

-- the class of the components of an array of references
abbrev pub class_of_components : Ty → Option ClassName
class_of_components Top = None
class_of_components Word = None
class_of_components Null = None
class_of_components (Class c) = None
class_of_components BooleanArray = None
class_of_components ByteArray = None
class_of_components ShortArray = None
class_of_components (ReferenceArray c) = Some c

-- the type of words
abbrev pub is_word : Ty → Bool
is_word Top = false
is_word Word = true
is_word Null = false
is_word (Class c) = false
is_word BooleanArray = false
is_word ByteArray = false
is_word ShortArray = false
is_word (ReferenceArray c) = false

-- the type of the null reference
abbrev pub is_null : Ty → Bool
is_null Top = false
is_null Word = false
is_null Null = true
is_null (Class c) = false
is_null BooleanArray = false
is_null ByteArray = false
is_null ShortArray = false
is_null (ReferenceArray c) = false

-- the type of arrays of booleans
abbrev pub is_boolean_array : Ty → Bool
is_boolean_array Top = false
is_boolean_array Word = false
is_boolean_array Null = false
is_boolean_array (Class c) = false
is_boolean_array BooleanArray = true
is_boolean_array ByteArray = false
is_boolean_array ShortArray = false
is_boolean_array (ReferenceArray c) = false

-- the type of arrays of bytes
abbrev pub is_byte_array : Ty → Bool
is_byte_array Top = false
is_byte_array Word = false
is_byte_array Null = false
is_byte_array (Class c) = false
is_byte_array BooleanArray = false
is_byte_array ByteArray = true
is_byte_array ShortArray = false
is_byte_array (ReferenceArray c) = false

-- the type of arrays of shorts
abbrev pub is_short_array : Ty → Bool
is_short_array Top = false
is_short_array Word = false
is_short_array Null = false
is_short_array (Class c) = false
is_short_array BooleanArray = false
is_short_array ByteArray = false
is_short_array ShortArray = true
is_short_array (ReferenceArray c) = false

-- the order of types, for an order of classes. Top is above all, Word is below Top alone, Null is below each type of
-- references; an array is below what Object is below, and arrays of references are ordered as their components
abbrev pub is_below : (ClassName → ClassName → Bool) → Ty → Ty → Bool
is_below below t Top = true
is_below below t Word = is_word t
is_below below t Null = is_null t
is_below below t (Class d) = is_null t || option_map_or (λ c. below c d) (class_of_objects t) false
is_below below t BooleanArray = is_null t || is_boolean_array t
is_below below t ByteArray = is_null t || is_byte_array t
is_below below t ShortArray = is_null t || is_short_array t
is_below below t (ReferenceArray d) = is_null t || option_map_or (λ c. below c d) (class_of_components t) false

-- the types of references
abbrev pub is_reference : Ty → Bool
is_reference Top = false
is_reference Word = false
is_reference Null = true
is_reference (Class c) = true
is_reference BooleanArray = true
is_reference ByteArray = true
is_reference ShortArray = true
is_reference (ReferenceArray c) = true

-- the least type above Word and another one
abbrev pub join_of_word : Ty → Ty
join_of_word u = if is_word u then Word else Top

-- the least type above Null and another one
abbrev pub join_of_null : Ty → Ty
join_of_null u = if is_reference u then u else Top

-- the least type above a class and another type, for the least class above two
abbrev pub join_of_class : (ClassName → ClassName → ClassName) → ClassName → Ty → Ty
join_of_class common c Top = Top
join_of_class common c Word = Top
join_of_class common c Null = Class c
join_of_class common c (Class d) = Class (common c d)
join_of_class common c BooleanArray = Class (Api Object)
join_of_class common c ByteArray = Class (Api Object)
join_of_class common c ShortArray = Class (Api Object)
join_of_class common c (ReferenceArray d) = Class (Api Object)

-- the least type above arrays of booleans and another type
abbrev pub join_of_boolean_array : Ty → Ty
join_of_boolean_array Top = Top
join_of_boolean_array Word = Top
join_of_boolean_array Null = BooleanArray
join_of_boolean_array (Class d) = Class (Api Object)
join_of_boolean_array BooleanArray = BooleanArray
join_of_boolean_array ByteArray = Class (Api Object)
join_of_boolean_array ShortArray = Class (Api Object)
join_of_boolean_array (ReferenceArray d) = Class (Api Object)

-- the least type above arrays of bytes and another type
abbrev pub join_of_byte_array : Ty → Ty
join_of_byte_array Top = Top
join_of_byte_array Word = Top
join_of_byte_array Null = ByteArray
join_of_byte_array (Class d) = Class (Api Object)
join_of_byte_array BooleanArray = Class (Api Object)
join_of_byte_array ByteArray = ByteArray
join_of_byte_array ShortArray = Class (Api Object)
join_of_byte_array (ReferenceArray d) = Class (Api Object)

-- the least type above arrays of shorts and another type
abbrev pub join_of_short_array : Ty → Ty
join_of_short_array Top = Top
join_of_short_array Word = Top
join_of_short_array Null = ShortArray
join_of_short_array (Class d) = Class (Api Object)
join_of_short_array BooleanArray = Class (Api Object)
join_of_short_array ByteArray = Class (Api Object)
join_of_short_array ShortArray = ShortArray
join_of_short_array (ReferenceArray d) = Class (Api Object)

-- the least type above arrays of references and another type, for the least class above two
abbrev pub join_of_reference_array : (ClassName → ClassName → ClassName) → ClassName → Ty → Ty
join_of_reference_array common c Top = Top
join_of_reference_array common c Word = Top
join_of_reference_array common c Null = ReferenceArray c
join_of_reference_array common c (Class d) = Class (Api Object)
join_of_reference_array common c BooleanArray = Class (Api Object)
join_of_reference_array common c ByteArray = Class (Api Object)
join_of_reference_array common c ShortArray = Class (Api Object)
join_of_reference_array common c (ReferenceArray d) = ReferenceArray (common c d)

-- the least type above two, for the least class above two
abbrev pub join_of : (ClassName → ClassName → ClassName) → Ty → Ty → Ty
join_of common Top u = Top
join_of common Word u = join_of_word u
join_of common Null u = join_of_null u
join_of common (Class c) u = join_of_class common c u
join_of common BooleanArray u = join_of_boolean_array u
join_of common ByteArray u = join_of_byte_array u
join_of common ShortArray u = join_of_short_array u
join_of common (ReferenceArray c) u = join_of_reference_array common c u

-- the height of a type: a bound on the steps upward from it, from the number of classes above each class, and the
-- greatest such number
abbrev pub height_of : (ClassName → ℕ) → ℕ → Ty → ℕ
height_of above most Top = 0
height_of above most Word = 1
height_of above most Null = 3 + most
height_of above most (Class c) = 1 + above c
height_of above most BooleanArray = 2 + above (Api Object)
height_of above most ByteArray = 2 + above (Api Object)
height_of above most ShortArray = 2 + above (Api Object)
height_of above most (ReferenceArray c) = 2 + above c
