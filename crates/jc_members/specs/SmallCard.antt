-- A small card, on which the examples of members are computed: its objects, its instances, and the calls.
use Rattle.std.specs.Prelude.{ℕ, false, true, List, [], ◌∷◌, ◌++◌, map, replicate, Some, None}
use Rattle.jc_api.specs.declared.class.ApiClass.{ApiClass}
use Rattle.jc_api.specs.declared.class.ApiClass.TheVariants.{Aid, Apdu, ApduException, Applet, ArithmeticException}
use Rattle.jc_api.specs.declared.class.ApiClass.TheVariants.{ArrayIndexOutOfBoundsException, ArrayStoreException}
use Rattle.jc_api.specs.declared.class.ApiClass.TheVariants.{CardRuntimeException, ClassCastException, IsoException}
use Rattle.jc_api.specs.declared.class.ApiClass.TheVariants.{NegativeArraySizeException, NullPointerException}
use Rattle.jc_api.specs.declared.class.ApiClass.TheVariants.{SecurityException, SystemException}
use Rattle.jc_machine.specs.Machine.{NativeCall}
use Rattle.jc_names.specs.declared.name.ClassName.TheVariants.{Api}
use Rattle.jc_names.specs.declared.owner.Owner.{Owner}
use Rattle.jc_natives.specs.Kept.{Kept}
use Rattle.jc_natives.specs.declared.kept.ApduState.{ApduState}
use Rattle.jc_natives.specs.declared.kept.ApduState.TheVariants.{Closed, LengthSet}
use Rattle.jc_natives.specs.declared.kept.Instance.{Instance as Registered}
use Rattle.jc_store.specs.Heap.{Heap, Object}
use Rattle.jc_store.specs.declared.kind.ClearingEvent.{ClearingEvent}
use Rattle.jc_store.specs.declared.kind.Mark.{Mark}
use Rattle.jc_store.specs.declared.kind.Mark.TheVariants.{GlobalArray, PermanentEntryPoint, Plain, TemporaryEntryPoint}
use Rattle.jc_store.specs.declared.kind.ObjectType.{ObjectType}
use Rattle.jc_store.specs.declared.kind.ObjectType.TheVariants.{ByteArray, Instance}
use Rattle.jc_words.specs.Values.{TaggedValue, Word}

-- ---- objects

-- an instance in a context; the runtime is instance 0 in context 0
abbrev pub owner : ℕ → ℕ → Owner
owner context instance = record { context = context; instance = instance }

-- an object whose components are words
abbrev pub object : ObjectType → Mark → Owner → List ℕ → Object TaggedValue
object type mark owner words =
    record { kind = record { object_type = type; mark = mark; clears = None }; owner = owner; cells = map Word words }

-- objects of the runtime: temporary ones of a class, global arrays, and AIDs
abbrev pub temporary : ApiClass → List ℕ → Object TaggedValue
temporary class words = object (Instance (Api class)) TemporaryEntryPoint (owner 0 0) words

abbrev pub global : List ℕ → Object TaggedValue
global bytes = object ByteArray GlobalArray (owner 0 0) bytes

abbrev pub permanent_aid : List ℕ → Object TaggedValue
permanent_aid words = object (Instance (Api Aid)) PermanentEntryPoint (owner 0 0) words

-- objects of applets: of a class, and arrays of bytes
abbrev pub plain : ApiClass → Owner → List ℕ → Object TaggedValue
plain class owner words = object (Instance (Api class)) Plain owner words

abbrev pub bytes_of : Owner → List ℕ → Object TaggedValue
bytes_of owner bytes = object ByteArray Plain owner bytes

-- a transient array that instance 1 has made
abbrev pub new_array : ObjectType → ClearingEvent → List TaggedValue → Object TaggedValue
new_array type event cells = record {
  kind = record { object_type = type; mark = Plain; clears = Some event };
  owner = owner 1 1;
  cells = cells;
}

-- objects by their numbers. An AID has the number of its bytes, and then the bytes. The runtime's AIDs are those of
-- instances 1 to 3; the third one is blank
abbrev pub runtimes : Heap TaggedValue
runtimes =
    temporary ArithmeticException []  -- 1
    ∷ temporary ArrayStoreException []  -- 2
    ∷ temporary ClassCastException []  -- 3
    ∷ temporary ArrayIndexOutOfBoundsException []  -- 4
    ∷ temporary NegativeArraySizeException []  -- 5
    ∷ temporary NullPointerException []  -- 6
    ∷ temporary SecurityException []  -- 7
    ∷ temporary IsoException (0 ∷ [])  -- 8
    ∷ temporary SystemException (0 ∷ [])  -- 9
    ∷ temporary ApduException (0 ∷ [])  -- 10
    ∷ temporary Apdu []  -- 11
    ∷ global (128 ∷ 16 ∷ 1 ∷ 2 ∷ 3 ∷ 0 ∷ 0 ∷ 0 ∷ [])  -- 12: the APDU buffer
    ∷ global (0 ∷ 0 ∷ [])  -- 13: the array of an install
    ∷ permanent_aid (5 ∷ 160 ∷ 1 ∷ 2 ∷ 3 ∷ 4 ∷ 0 ∷ [])  -- 14
    ∷ permanent_aid (5 ∷ 160 ∷ 1 ∷ 2 ∷ 3 ∷ 5 ∷ 0 ∷ [])  -- 15
    ∷ permanent_aid (0 ∷ 0 ∷ 0 ∷ 0 ∷ 0 ∷ 0 ∷ 0 ∷ []) ∷ []  -- 16

-- applets' own: of instance 1 in context 1, if no other is named
abbrev pub applets : Heap TaggedValue
applets =
    plain Applet (owner 1 1) []  -- 17: the applet of instance 1
    ∷ plain Applet (owner 2 2) []  -- 18: that of instance 2
    ∷ plain Applet (owner 1 3) []  -- 19: that of instance 3
    ∷ plain CardRuntimeException (owner 1 1) (4660 ∷ [])  -- 20
    ∷ plain Aid (owner 1 1) (5 ∷ 160 ∷ 1 ∷ 2 ∷ 3 ∷ 4 ∷ 0 ∷ [])  -- 21
    ∷ plain Aid (owner 1 1) (6 ∷ 160 ∷ 1 ∷ 2 ∷ 3 ∷ 4 ∷ 5 ∷ replicate 10 0)  -- 22
    ∷ plain Aid (owner 2 2) (5 ∷ 160 ∷ 1 ∷ 2 ∷ 3 ∷ 4 ∷ 0 ∷ [])  -- 23: of context 2
    ∷ bytes_of (owner 1 1) (1 ∷ 255 ∷ 128 ∷ 127 ∷ [])  -- 24
    ∷ bytes_of (owner 1 1) (160 ∷ 1 ∷ 2 ∷ 3 ∷ 4 ∷ 160 ∷ 1 ∷ 2 ∷ 3 ∷ 5 ∷ 160 ∷ 1 ∷ 2 ∷ 3 ∷ 6 ∷ replicate 3 7)  -- 25
    ∷ bytes_of (owner 2 2) (9 ∷ 9 ∷ 9 ∷ 9 ∷ 9 ∷ []) ∷ []  -- 26: of context 2

-- ---- instances

-- instances 1 and 2 have registered
abbrev pub first : Registered
first = record { aid = 160 ∷ 1 ∷ 2 ∷ 3 ∷ 4 ∷ []; object = 17; owner = owner 1 1 }

abbrev pub second : Registered
second = record { aid = 160 ∷ 1 ∷ 2 ∷ 3 ∷ 5 ∷ []; object = 18; owner = owner 2 2 }

-- no applet has a command
abbrev pub closed : Kept
closed = record {
  instances = first ∷ second ∷ [];
  installing = None;
  numbers = 3;
  state = Closed;
  incoming = [];
  expected = 0;
  announced = 0;
  sent = [];
  selecting = false;
}

-- instance 3 is being installed: its applet has this AID; and it has registered already
abbrev pub waiting : List ℕ → Kept
waiting aid = record closed { installing = Some (record { owner = owner 1 3; aid = aid; registered = false }) }

abbrev pub registered : Kept
registered = record closed {
  installing = Some (record { owner = owner 1 3; aid = 160 ∷ 1 ∷ 2 ∷ 3 ∷ 6 ∷ []; registered = true });
}

-- a command with three bytes and without Le, in a state
abbrev pub in_state : ApduState → Kept
in_state state = record closed { state = state; incoming = 7 ∷ 8 ∷ 255 ∷ [] }

-- an answer of three bytes was announced, and these have been sent
abbrev pub sending : List ℕ → Kept
sending sent = record closed { state = LengthSet; announced = 3; sent = sent }

-- ---- calls

-- a call of the member with a number: by instance 1, which was called by instance 2; an applet of context 1 is selected
abbrev pub call : Kept → ℕ → List TaggedValue → NativeCall Kept
call k number arguments = record {
  member = number;
  arguments = arguments;
  active = owner 1 1;
  previous = Some (owner 2 2);
  heap = runtimes ++ applets;
  runtime = k;
  selected = Some 1;
  limits = record { objects = 27; cells = 130; frames = 9; frame_words = 99 };
}

-- ---- members

-- the constructors without a reason, those with one, and the members that are called on an object, apart from the
-- abstract one
abbrev pub bare_constructors : List ℕ
bare_constructors = 1 ∷ 3 ∷ 4 ∷ 5 ∷ 6 ∷ 7 ∷ 8 ∷ 9 ∷ 10 ∷ 11 ∷ 12 ∷ 13 ∷ 33 ∷ []

abbrev pub reason_constructors : List ℕ
reason_constructors = 14 ∷ 17 ∷ 19 ∷ 21 ∷ []

abbrev pub virtual_members : List ℕ
virtual_members =
    2 ∷ 15 ∷ 16 ∷ 24 ∷ 25 ∷ 26 ∷ 27 ∷ 28 ∷ 29 ∷ 30 ∷ 31 ∷ 32 ∷ 34 ∷ 35 ∷ 36 ∷ 37 ∷ 39 ∷ 40 ∷ []

-- the members that make an array: of booleans, bytes, shorts, references
abbrev pub array_makers : List ℕ
array_makers = 45 ∷ 46 ∷ 47 ∷ 48 ∷ []
