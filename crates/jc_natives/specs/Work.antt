-- The work of a native member after its tests have passed, and the ends of refused works.
use Rattle.std.specs.Prelude.{ℕ, Bool, List, [], ◌∷◌, if◌then◌else◌}
use Rattle.jc_api.specs.declared.class.ApiClass.TheVariants.{Object}
use Rattle.jc_machine.specs.Machine.{ByCode, ByRuntime}
use Rattle.jc_machine.specs.Runtime.{apdu_exception, system_exception}
use Rattle.jc_names.specs.declared.name.ClassName.TheVariants.{Api}
use Rattle.jc_natives.specs.Cells.{Write}
use Rattle.jc_natives.specs.Kept.{Kept}
use Rattle.jc_natives.specs.declared.ended.Question.{Question}
use Rattle.jc_natives.specs.declared.native.Elements.{Elements}
use Rattle.jc_natives.specs.declared.native.Elements.TheVariants.{Booleans, Bytes, References, Shorts}
use Rattle.jc_store.specs.declared.kind.ClearingEvent.{ClearingEvent}
use Rattle.jc_store.specs.declared.kind.ObjectType.{ObjectType}
use Rattle.jc_store.specs.declared.kind.ObjectType.TheVariants.{BooleanArray, ByteArray, ReferenceArray, ShortArray}

-- its end: no result, a word, a reference, which is 0 for null, or an object that is thrown
pub data Ending : Type 0 where
  NoResult : Ending
  GivesWord : (word : ℕ) → Ending
  GivesReference : (number : ℕ) → Ending
  Throws : (object : ℕ) → Ending

-- a transient array: the type of its components, the event that clears it, and how many components it has
pub record NewArray : Type 0 where
  pub elements : Elements
  pub event : ClearingEvent
  pub size : ℕ

abbrev pub array_type : Elements → ObjectType
array_type Booleans = BooleanArray
array_type Bytes = ByteArray
array_type Shorts = ShortArray
array_type References = ReferenceArray (Api Object)

-- it writes, leaves the runtime's state, and ends; or it makes an array, and returns it; or it asks an applet for a
-- shareable object, with the number of an AID or 0, and a word
pub data Work : Type 0 where
  Does : (writes : List Write) (runtime : Kept) (ending : Ending) → Work
  Makes : (array : NewArray) → Work
  Asks : (question : Question) → Work

-- it changes no object
abbrev pub gives : Kept → Ending → Work
gives k ending = Does [] k ending

abbrev pub throws : Kept → ℕ → Work
throws k object = Does [] k (Throws object)

-- the caller writes words to an object
abbrev pub writes_to : Kept → ℕ → ℕ → List ℕ → Ending → Work
writes_to k object from words ending =
    Does (record { by = ByCode; object = object; from = from; words = words } ∷ []) k ending

-- the runtime writes words to an object of its own
abbrev pub writes_own : Kept → ℕ → ℕ → List ℕ → Ending → Work
writes_own k object from words ending =
    Does (record { by = ByRuntime; object = object; from = from; words = words } ∷ []) k ending

-- the runtime sets the reason of one of its exceptions, and throws it
abbrev pub throws_with : Kept → ℕ → ℕ → Work
throws_with k object reason = writes_own k object 0 (reason ∷ []) (Throws object)

-- ---- reasons (Java Card API Specification, SystemException, APDUException)

abbrev pub illegal_value : ℕ
illegal_value = 1

abbrev pub no_transient_space : ℕ
no_transient_space = 2

abbrev pub illegal_transient : ℕ
illegal_transient = 3

abbrev pub illegal_aid : ℕ
illegal_aid = 4

abbrev pub illegal_use : ℕ
illegal_use = 1

abbrev pub buffer_bounds : ℕ
buffer_bounds = 2

abbrev pub bad_length : ℕ
bad_length = 3

abbrev pub throws_system : Kept → ℕ → Work
throws_system k reason = throws_with k system_exception reason

abbrev pub throws_apdu : Kept → ℕ → Work
throws_apdu k reason = throws_with k apdu_exception reason

-- the work if a test passes; otherwise an exception
abbrev pub unless_system : Kept → ℕ → Bool → Work → Work
unless_system k reason passes work = if passes then work else throws_system k reason
