-- The runtime's own objects, which it creates for a new card and keeps (Java Card Runtime Environment Specification,
-- JCRE Entry Point Objects, Global Arrays; Java Card API Specification, AID, APDU, Applet.install).
use Rattle.std.specs.Prelude.{◌≡◌, ℕ, List, ◌∷◌, length, map, replicate, Some, None}
use Rattle.std.specs.List.{AllByRecursion, range_with_len}
use Rattle.jc_api.specs.declared.class.ApiClass.{ApiClass}
use Rattle.jc_api.specs.declared.class.ApiClass.TheVariants.{ArithmeticException, ArrayStoreException}
use Rattle.jc_api.specs.declared.class.ApiClass.TheVariants.{ClassCastException, ArrayIndexOutOfBoundsException}
use Rattle.jc_api.specs.declared.class.ApiClass.TheVariants.{NegativeArraySizeException, NullPointerException}
use Rattle.jc_api.specs.declared.class.ApiClass.TheVariants.{SecurityException, IsoException, SystemException}
use Rattle.jc_api.specs.declared.class.ApiClass.TheVariants.{ApduException, Aid, Apdu}
use Rattle.jc_names.specs.declared.name.ClassName.TheVariants as classes
use Rattle.jc_firewall.specs.Verdict as firewall
use Rattle.jc_store.specs.Heap.{Heap, Object, object_at}
use Rattle.jc_store.specs.declared.kind.Mark.{Mark}
use Rattle.jc_store.specs.declared.kind.Mark.TheVariants.{GlobalArray, PermanentEntryPoint, TemporaryEntryPoint}
use Rattle.jc_store.specs.declared.kind.ObjectType.{ObjectType}
use Rattle.jc_store.specs.declared.kind.ObjectType.TheVariants.{ByteArray, Instance}
use Rattle.jc_words.specs.Values.{TaggedValue, Word}

-- ---- their numbers

abbrev pub arithmetic_exception : ℕ
arithmetic_exception = 1

abbrev pub array_store_exception : ℕ
array_store_exception = 2

abbrev pub class_cast_exception : ℕ
class_cast_exception = 3

abbrev pub array_index_exception : ℕ
array_index_exception = 4

abbrev pub negative_size_exception : ℕ
negative_size_exception = 5

abbrev pub null_pointer_exception : ℕ
null_pointer_exception = 6

abbrev pub security_exception : ℕ
security_exception = 7

abbrev pub iso_exception : ℕ
iso_exception = 8

abbrev pub system_exception : ℕ
system_exception = 9

abbrev pub apdu_exception : ℕ
apdu_exception = 10

-- the APDU object, the APDU buffer, and the array that an install method gets
abbrev pub apdu_object : ℕ
apdu_object = 11

abbrev pub apdu_buffer : ℕ
apdu_buffer = 12

abbrev pub install_array : ℕ
install_array = 13

-- the AID objects of applet instances: the number of the first, and how many there are
abbrev pub first_aid_object : ℕ
first_aid_object = 14

abbrev pub most_instances : ℕ
most_instances = 32

-- ---- the objects

-- an object of the runtime: its number, type and mark, and how many components it has
pub record RuntimeObject : Type 0 where
  pub number : ℕ
  pub type : ObjectType
  pub mark : Mark
  pub size : ℕ

-- an instance of a class; a reference to it may not be stored
abbrev pub temporary : ℕ → ApiClass → ℕ → RuntimeObject
temporary number class size =
    record { number = number; type = Instance (classes.Api class); mark = TemporaryEntryPoint; size = size }

-- a global array of bytes, which all contexts may access
abbrev pub global_bytes : ℕ → ℕ → RuntimeObject
global_bytes number size = record { number = number; type = ByteArray; mark = GlobalArray; size = size }

-- an AID: its length, and 16 bytes
abbrev pub aid_object : ℕ → RuntimeObject
aid_object number = record { number = number; type = Instance (classes.Api Aid); mark = PermanentEntryPoint; size = 17 }

abbrev pub runtime_objects : List RuntimeObject
runtime_objects =
    temporary arithmetic_exception ArithmeticException 0 ∷ temporary array_store_exception ArrayStoreException 0
    ∷ temporary class_cast_exception ClassCastException 0
    ∷ temporary array_index_exception ArrayIndexOutOfBoundsException 0
    ∷ temporary negative_size_exception NegativeArraySizeException 0
    ∷ temporary null_pointer_exception NullPointerException 0 ∷ temporary security_exception SecurityException 0
    ∷ temporary iso_exception IsoException 1 ∷ temporary system_exception SystemException 1
    ∷ temporary apdu_exception ApduException 1 ∷ temporary apdu_object Apdu 0
    ∷ global_bytes apdu_buffer 261 ∷ global_bytes install_array 127
    ∷ map aid_object (range_with_len first_aid_object most_instances)

-- a new object of the runtime: it belongs to the runtime, and all its components are 0
abbrev pub made : RuntimeObject → Object TaggedValue
made wanted = record {
  kind = record { object_type = wanted.type; mark = wanted.mark; clears = None };
  owner = firewall.runtime;
  cells = replicate wanted.size (Word 0);
}

-- the objects of a new card: only these
abbrev pub new_heap : Heap TaggedValue
new_heap = map made runtime_objects

-- ---- presence of the runtime's objects

-- such an object exists, belongs to the runtime, and no event clears it
pub record HasRuntimeObject (heap : Heap TaggedValue) (wanted : RuntimeObject) : Type 0 where
  pub object : Object TaggedValue
  pub found : object_at heap wanted.number ≡ Some object
  pub type : object.kind.object_type ≡ wanted.type
  pub mark : object.kind.mark ≡ wanted.mark
  pub clears : object.kind.clears ≡ None
  pub owner : object.owner ≡ firewall.runtime
  pub size : length object.cells ≡ wanted.size

-- all of them exist
abbrev pub HasRuntimeObjects : Heap TaggedValue → Type 0
HasRuntimeObjects heap = AllByRecursion (HasRuntimeObject heap) runtime_objects
