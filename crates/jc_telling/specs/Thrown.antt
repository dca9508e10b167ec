-- The words for an object that nothing caught.
use Rattle.std.specs.Prelude.{ℕ, ◌/◌, ◌%◌, ◌==◌, if◌then◌else◌, List, [], ◌∷◌, ◌++◌, codes, Option, Some, None}
use Rattle.std.specs.Fmt.{decimal}
use Rattle.hex.specs.Hex.{encode_upper}
use Rattle.jc_api.specs.declared.class.ApiClass.{ApiClass}
use Rattle.jc_api.specs.declared.class.ApiClass.TheVariants.{Object, Throwable, Exception, RuntimeException}
use Rattle.jc_api.specs.declared.class.ApiClass.TheVariants.{ArithmeticException, ArrayStoreException}
use Rattle.jc_api.specs.declared.class.ApiClass.TheVariants.{ClassCastException, IndexOutOfBoundsException}
use Rattle.jc_api.specs.declared.class.ApiClass.TheVariants.{ArrayIndexOutOfBoundsException, NegativeArraySizeException}
use Rattle.jc_api.specs.declared.class.ApiClass.TheVariants.{NullPointerException, SecurityException, Shareable}
use Rattle.jc_api.specs.declared.class.ApiClass.TheVariants.{CardRuntimeException, IsoException, SystemException}
use Rattle.jc_api.specs.declared.class.ApiClass.TheVariants.{ApduException, Aid, Apdu, Applet, JcSystem, Util}
use Rattle.jc_names.specs.declared.name.ClassName.{ClassName}
use Rattle.jc_names.specs.declared.name.ClassName.TheVariants.{Api, Loaded}
use Rattle.jc_store.specs.declared.kind.ObjectType.{ObjectType}
use Rattle.jc_store.specs.declared.kind.ObjectType.TheVariants.{Instance, BooleanArray, ByteArray, ShortArray}
use Rattle.jc_store.specs.declared.kind.ObjectType.TheVariants.{ReferenceArray}

-- the name of a class of the API
abbrev pub class_name : ApiClass → List ℕ
class_name Object = codes "Object"
class_name Throwable = codes "Throwable"
class_name Exception = codes "Exception"
class_name RuntimeException = codes "RuntimeException"
class_name ArithmeticException = codes "ArithmeticException"
class_name ArrayStoreException = codes "ArrayStoreException"
class_name ClassCastException = codes "ClassCastException"
class_name IndexOutOfBoundsException = codes "IndexOutOfBoundsException"
class_name ArrayIndexOutOfBoundsException = codes "ArrayIndexOutOfBoundsException"
class_name NegativeArraySizeException = codes "NegativeArraySizeException"
class_name NullPointerException = codes "NullPointerException"
class_name SecurityException = codes "SecurityException"
class_name Shareable = codes "Shareable"
class_name CardRuntimeException = codes "CardRuntimeException"
class_name IsoException = codes "ISOException"
class_name SystemException = codes "SystemException"
class_name ApduException = codes "APDUException"
class_name Aid = codes "AID"
class_name Apdu = codes "APDU"
class_name Applet = codes "Applet"
class_name JcSystem = codes "JCSystem"
class_name Util = codes "Util"

-- the name of a SystemException's reason (Java Card API Specification, SystemException)
abbrev pub system_constant : ℕ → Option (List ℕ)
system_constant reason =
    if reason == 1 then Some (codes "ILLEGAL_VALUE")
    else (if reason == 2 then Some (codes "NO_TRANSIENT_SPACE")
    else (if reason == 3 then Some (codes "ILLEGAL_TRANSIENT")
    else (if reason == 4 then Some (codes "ILLEGAL_AID")
    else (if reason == 5 then Some (codes "NO_RESOURCE")
    else (if reason == 6 then Some (codes "ILLEGAL_USE")
    else None)))))

-- the name of an APDUException's reason (Java Card API Specification, APDUException)
abbrev pub apdu_constant : ℕ → Option (List ℕ)
apdu_constant reason =
    if reason == 1 then Some (codes "ILLEGAL_USE")
    else (if reason == 2 then Some (codes "BUFFER_BOUNDS")
    else (if reason == 3 then Some (codes "BAD_LENGTH")
    else (if reason == 4 then Some (codes "IO_ERROR")
    else None)))

-- a number in decimal, behind its name if it has one
abbrev pub number_text : Option (List ℕ) → ℕ → List ℕ
number_text None number = decimal number
number_text (Some name) number = name ++ codes " (" ++ decimal number ++ codes ")"

-- a status word as four digits
abbrev pub status_text : ℕ → List ℕ
status_text status = encode_upper (status / 256 ∷ status % 256 ∷ [])

-- the reason of an instance of a class of the API: CardRuntimeException and its subclasses have one
abbrev pub reason_text : ApiClass → ℕ → List ℕ
reason_text CardRuntimeException reason = codes " reason " ++ decimal reason
reason_text IsoException reason = codes " reason " ++ status_text reason
reason_text SystemException reason = codes " reason " ++ number_text (system_constant reason) reason
reason_text ApduException reason = codes " reason " ++ number_text (apdu_constant reason) reason
reason_text Object reason = []
reason_text Throwable reason = []
reason_text Exception reason = []
reason_text RuntimeException reason = []
reason_text ArithmeticException reason = []
reason_text ArrayStoreException reason = []
reason_text ClassCastException reason = []
reason_text IndexOutOfBoundsException reason = []
reason_text ArrayIndexOutOfBoundsException reason = []
reason_text NegativeArraySizeException reason = []
reason_text NullPointerException reason = []
reason_text SecurityException reason = []
reason_text Shareable reason = []
reason_text Aid reason = []
reason_text Apdu reason = []
reason_text Applet reason = []
reason_text JcSystem reason = []
reason_text Util reason = []

-- an instance of a class; for a class of a loaded package the reason is its first field
abbrev pub class_text : ClassName → ℕ → List ℕ
class_text (Api class) reason = class_name class ++ reason_text class reason
class_text (Loaded number offset) reason =
    codes "exception of class " ++ decimal offset ++ codes " of package " ++ decimal number
    ++ codes ", reason " ++ decimal reason

-- an object that nothing caught
abbrev pub object_text : ObjectType → ℕ → List ℕ
object_text (Instance class) reason = class_text class reason
object_text BooleanArray reason = codes "an array"
object_text ByteArray reason = codes "an array"
object_text ShortArray reason = codes "an array"
object_text (ReferenceArray class) reason = codes "an array"
