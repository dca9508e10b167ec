-- The native members: their numbers, their tests and their works (Java Card API Specification).
use Rattle.std.specs.Prelude.{ℕ, ◌+◌, ◌==◌, ◌&&◌, Bool, true, false, not, List, [], ◌∷◌, ◌++◌, length, replicate}
use Rattle.std.specs.Prelude.{Option, Some, None, bytes_eq, is_some, nat_le, if◌then◌else◌}
use Rattle.std.specs.Option.{option_and_then, option_map_or}
use Rattle.jc_machine.specs.Runtime.{apdu_buffer, apdu_exception, iso_exception, negative_size_exception}
use Rattle.jc_machine.specs.Runtime.{system_exception}
use Rattle.jc_names.specs.declared.owner.Owner.{Owner}
use Rattle.jc_natives.specs.Cells.{bit, extended, high, is_count, is_within, low, order_of, word, word_of_bytes}
use Rattle.jc_natives.specs.Kept.{Kept, aid_object, expected_of, has_aid_length, instance_of, instance_with, is_fresh}
use Rattle.jc_natives.specs.Kept.{is_incoming, is_length_set, is_outgoing, is_same_owner, most_sent, with_announced}
use Rattle.jc_natives.specs.Kept.{with_instance, with_sent, with_state}
use Rattle.jc_natives.specs.Checks.{CallsOtherAid, Check, HasRange, Uses, UsesUnlessNull, are_aids}
use Rattle.jc_natives.specs.Taking.{Called, on_aid, on_bytes, on_component, on_object, on_range, on_reference, on_word}
use Rattle.jc_natives.specs.Taking.{on_words, ◌>>=◌, ◌>>◌}
use Rattle.jc_natives.specs.Work.{Asks, Ending, GivesReference, GivesWord, Makes, NoResult, Work, bad_length}
use Rattle.jc_natives.specs.Work.{buffer_bounds, gives, illegal_aid, illegal_transient, illegal_use, illegal_value}
use Rattle.jc_natives.specs.Work.{throws, throws_apdu, throws_system, throws_with, unless_system, writes_own, writes_to}
use Rattle.jc_natives.specs.declared.kept.ApduState.TheVariants.{LengthSet, Outgoing, Received}
use Rattle.jc_natives.specs.declared.kept.Installing.{Installing}
use Rattle.jc_natives.specs.declared.kept.Instance.{Instance}
use Rattle.jc_natives.specs.declared.native.AidNative.{AidNative}
use Rattle.jc_natives.specs.declared.native.AidNative.TheVariants as aids
use Rattle.jc_natives.specs.declared.native.ApduNative.{ApduNative}
use Rattle.jc_natives.specs.declared.native.ApduNative.TheVariants as apdus
use Rattle.jc_natives.specs.declared.native.AppletNative.{AppletNative}
use Rattle.jc_natives.specs.declared.native.AppletNative.TheVariants as applets
use Rattle.jc_natives.specs.declared.native.Elements.{Elements}
use Rattle.jc_natives.specs.declared.native.Elements.TheVariants.{Booleans, Bytes, References, Shorts}
use Rattle.jc_natives.specs.declared.native.Native.{Native}
use Rattle.jc_natives.specs.declared.native.Native.TheVariants.{OfAid, OfApdu, OfApplet, OfObject, OfSystem, OfUtility}
use Rattle.jc_natives.specs.declared.native.ObjectNative.{ObjectNative}
use Rattle.jc_natives.specs.declared.native.ObjectNative.TheVariants as objects
use Rattle.jc_natives.specs.declared.native.SystemNative.{SystemNative}
use Rattle.jc_natives.specs.declared.native.SystemNative.TheVariants as system
use Rattle.jc_natives.specs.declared.native.UtilityNative.{UtilityNative}
use Rattle.jc_natives.specs.declared.native.UtilityNative.TheVariants as utilities
use Rattle.jc_natives.specs.declared.row.Length.TheVariants.{ByteAt, Fixed, OfAid as AsAid, ShortAt}
use Rattle.jc_natives.specs.declared.row.Use.TheVariants.{Calls, Fields, Loads, Stores}
use Rattle.jc_store.specs.declared.kind.ClearingEvent.{ClearingEvent}
use Rattle.jc_store.specs.declared.kind.ClearingEvent.TheVariants.{Deselect, Reset}

-- ---- the members by their numbers

abbrev pub natives : List Native
natives =
    OfObject objects.Construct  -- 1 Object
    ∷ OfObject objects.Equals  -- 2 equals
    ∷ OfObject objects.Construct  -- 3 Throwable
    ∷ OfObject objects.Construct  -- 4 Exception
    ∷ OfObject objects.Construct  -- 5 RuntimeException
    ∷ OfObject objects.Construct  -- 6 ArithmeticException
    ∷ OfObject objects.Construct  -- 7 ArrayStoreException
    ∷ OfObject objects.Construct  -- 8 ClassCastException
    ∷ OfObject objects.Construct  -- 9 IndexOutOfBoundsException
    ∷ OfObject objects.Construct  -- 10 ArrayIndexOutOfBoundsException
    ∷ OfObject objects.Construct  -- 11 NegativeArraySizeException
    ∷ OfObject objects.Construct  -- 12 NullPointerException
    ∷ OfObject objects.Construct  -- 13 SecurityException
    ∷ OfObject objects.ConstructWithReason  -- 14 CardRuntimeException
    ∷ OfObject objects.GetReason  -- 15 getReason
    ∷ OfObject objects.SetReason  -- 16 setReason
    ∷ OfObject objects.ConstructWithReason  -- 17 ISOException
    ∷ OfObject (objects.ThrowIt iso_exception)  -- 18 throwIt
    ∷ OfObject objects.ConstructWithReason  -- 19 SystemException
    ∷ OfObject (objects.ThrowIt system_exception)  -- 20 throwIt
    ∷ OfObject objects.ConstructWithReason  -- 21 APDUException
    ∷ OfObject (objects.ThrowIt apdu_exception)  -- 22 throwIt
    ∷ OfAid aids.Construct  -- 23 AID
    ∷ OfAid aids.Equals  -- 24 equals
    ∷ OfAid aids.GetBytes  -- 25 getBytes
    ∷ OfApdu apdus.GetBuffer  -- 26 getBuffer
    ∷ OfApdu apdus.SetIncomingAndReceive  -- 27 setIncomingAndReceive
    ∷ OfApdu apdus.SetOutgoing  -- 28 setOutgoing
    ∷ OfApdu apdus.SetOutgoingLength  -- 29 setOutgoingLength
    ∷ OfApdu apdus.SendBytes  -- 30 sendBytes
    ∷ OfApdu apdus.SendBytesLong  -- 31 sendBytesLong
    ∷ OfApdu apdus.SetOutgoingAndSend  -- 32 setOutgoingAndSend
    ∷ OfObject objects.Construct  -- 33 Applet
    ∷ OfApplet applets.Register  -- 34 register
    ∷ OfApplet applets.RegisterBytes  -- 35 register
    ∷ OfApplet applets.Select  -- 36 select
    ∷ OfApplet applets.Deselect  -- 37 deselect
    ∷ OfApplet applets.Process  -- 38 process
    ∷ OfApplet applets.SelectingApplet  -- 39 selectingApplet
    ∷ OfApplet applets.GetShareable  -- 40 getShareableInterfaceObject
    ∷ OfSystem system.GetAid  -- 41 getAID
    ∷ OfSystem system.LookupAid  -- 42 lookupAID
    ∷ OfSystem system.GetPreviousAid  -- 43 getPreviousContextAID
    ∷ OfSystem system.AskForShareable  -- 44 getAppletShareableInterfaceObject
    ∷ OfSystem system.MakeBooleans  -- 45 makeTransientBooleanArray
    ∷ OfSystem system.MakeBytes  -- 46 makeTransientByteArray
    ∷ OfSystem system.MakeShorts  -- 47 makeTransientShortArray
    ∷ OfSystem system.MakeReferences  -- 48 makeTransientObjectArray
    ∷ OfUtility utilities.ArrayCopy  -- 49 arrayCopy
    ∷ OfUtility utilities.ArrayCopy  -- 50 arrayCopyNonAtomic
    ∷ OfUtility utilities.ArrayFill  -- 51 arrayFillNonAtomic
    ∷ OfUtility utilities.ArrayCompare  -- 52 arrayCompare
    ∷ OfUtility utilities.GetShort  -- 53 getShort
    ∷ OfUtility utilities.SetShort  -- 54 setShort
    ∷ OfUtility utilities.MakeShort ∷ []  -- 55 makeShort

-- ---- a member

-- its tests, one after the other, and then its work; without a work it is stuck
pub record Member : Type 0 where
  pub tests : List Check
  pub does : Called → Option Work

-- ---- ends of members

abbrev pub kept_of : Called → Kept
kept_of h = h.call.runtime

-- it ends with a result, and nothing changes
abbrev pub ends_with : Called → Ending → Option Work
ends_with h ending = Some (gives (kept_of h) ending)

-- it writes words to an object, in the caller's name
abbrev pub writes_words : Called → ℕ → ℕ → List ℕ → Ending → Option Work
writes_words h object from words ending = Some (writes_to (kept_of h) object from words ending)

-- if a test passes, it goes on; otherwise the runtime throws, with a reason
abbrev pub require_system : Called → ℕ → Bool → Option Work → Option Work
require_system h reason passes go = if passes then go else Some (throws_system (kept_of h) reason)

abbrev pub require_apdu : Called → ℕ → Bool → Option Work → Option Work
require_apdu h reason passes go = if passes then go else Some (throws_apdu (kept_of h) reason)

-- ---- Object and the exceptions (Object, Throwable and its subclasses, CardRuntimeException, ISOException,
-- SystemException, APDUException)

abbrev pub have_same_bytes : Called → ℕ → ℕ → Option Work
have_same_bytes h one other = do
  bytes ← on_aid h one
  others ← on_aid h other
  ends_with h (GivesWord (bit (bytes_eq bytes others)))

-- the same object, or two AIDs with the same bytes
abbrev pub equals : Called → Option Work
equals h = do
  one ← on_reference h 0
  other ← on_reference h 1
  if one == other then ends_with h (GivesWord 1)
      else option_and_then (λ aids. if aids then have_same_bytes h one other else ends_with h (GivesWord 0))
      (are_aids h)

-- the reason of an exception is its first component
abbrev pub sets_reason : Called → Option Work
sets_reason h = do
  object ← on_reference h 0
  reason ← on_word h 1
  writes_words h object 0 (word reason ∷ []) NoResult

abbrev pub object_member : ObjectNative → Member
object_member objects.Construct = record { tests = Uses 0 Fields ∷ []; does = λ h. ends_with h NoResult }
object_member objects.Equals = record { tests = Uses 0 Calls ∷ CallsOtherAid ∷ []; does = equals }
object_member objects.ConstructWithReason = record { tests = Uses 0 Fields ∷ []; does = sets_reason }
object_member objects.GetReason = record {
  tests = Uses 0 Calls ∷ [];
  does = λ h. do
    object ← on_reference h 0
    reason ← on_component h object 0
    ends_with h (GivesWord (word reason));
}
object_member objects.SetReason = record { tests = Uses 0 Calls ∷ []; does = sets_reason }
-- throwIt sets the reason of the runtime's exception, and throws it
object_member (objects.ThrowIt object) = record {
  tests = [];
  does = λ h. do
    reason ← on_word h 0
    Some (throws_with (kept_of h) object (word reason));
}

-- ---- AID

-- an AID has 5 to 16 bytes, and is stored after their count
abbrev pub keeps_aid : Called → ℕ → List ℕ → Option Work
keeps_aid h aid bytes = do
  require_system h illegal_value (has_aid_length (length bytes))
  writes_words h aid 0 (length bytes ∷ bytes) NoResult

abbrev pub is_range : Called → ℕ → Option Work
is_range h aid = do
  own ← on_aid h aid
  bytes ← on_range h 1 2 (ByteAt 3)
  ends_with h (GivesWord (bit (bytes_eq own bytes)))

-- the constructor stores the bytes of a range; equals compares them; getBytes writes them, and returns their number
abbrev pub aid_member : AidNative → Member
aid_member aids.Construct = record {
  tests = Uses 0 Fields ∷ Uses 1 Loads ∷ HasRange 1 2 (ByteAt 3) ∷ [];
  does = λ h. do
    aid ← on_reference h 0
    bytes ← on_range h 1 2 (ByteAt 3)
    keeps_aid h aid bytes;
}
aid_member aids.Equals = record {
  tests = Uses 0 Calls ∷ UsesUnlessNull 1 Loads ∷ HasRange 1 2 (ByteAt 3) ∷ [];
  does = λ h. do
    aid ← on_reference h 0
    array ← on_reference h 1
    if array == 0 then ends_with h (GivesWord 0) else is_range h aid;
}
aid_member aids.GetBytes = record {
  tests = Uses 0 Calls ∷ Uses 1 Stores ∷ HasRange 1 2 (AsAid 0) ∷ [];
  does = λ h. do
    aid ← on_reference h 0
    array ← on_reference h 1
    offset ← on_word h 2
    bytes ← on_aid h aid
    writes_words h array offset bytes (GivesWord (length bytes));
}

-- ---- APDU. The card has one state, whatever the object on which a member is called

-- the offset of a command's data after its header in the buffer
abbrev pub data_offset : ℕ
data_offset = 5

-- a member in a wrong state is an illegal use
abbrev pub in_state : Called → Bool → Option Work → Option Work
in_state h fits go = require_apdu h illegal_use fits go

-- `count` bytes of the buffer from an offset on
abbrev pub in_buffer : Called → ℕ → ℕ → (List ℕ → Option Work) → Option Work
in_buffer h offset count go = do
  buffer ← on_object h apdu_buffer
  require_apdu h buffer_bounds (is_within (length buffer.cells) offset count)
  on_bytes h apdu_buffer offset count go

-- sends more bytes, if that doesn't exceed the announced length
abbrev pub sends : Called → List ℕ → Option Work
sends h bytes = do
  require_apdu h illegal_use (nat_le (length (kept_of h).sent + length bytes) (kept_of h).announced)
  Some (gives (with_sent (kept_of h) ((kept_of h).sent ++ bytes)) NoResult)

-- sends these bytes as the whole answer
abbrev pub sends_at_once : Called → ℕ → List ℕ → Option Work
sends_at_once h count bytes = Some (gives (with_sent (with_announced (kept_of h) LengthSet count) bytes) NoResult)

abbrev pub apdu_member : ApduNative → Member
apdu_member apdus.GetBuffer = record {
  tests = Uses 0 Calls ∷ [];
  does = λ h. ends_with h (GivesReference apdu_buffer);
}
apdu_member apdus.SetIncomingAndReceive = record {
  tests = Uses 0 Calls ∷ [];
  does = λ h. do
    in_state h (is_fresh (kept_of h).state)
    Some (writes_own (with_state (kept_of h) Received) apdu_buffer data_offset (kept_of h).incoming
        (GivesWord (length (kept_of h).incoming)));
}
apdu_member apdus.SetOutgoing = record {
  tests = Uses 0 Calls ∷ [];
  does = λ h. do
    in_state h (is_incoming (kept_of h).state)
    Some (gives (with_state (kept_of h) Outgoing) (GivesWord (expected_of (kept_of h))));
}
apdu_member apdus.SetOutgoingLength = record {
  tests = Uses 0 Calls ∷ [];
  does = λ h. do
    count ← on_word h 1
    in_state h (is_outgoing (kept_of h).state)
    require_apdu h bad_length (nat_le count most_sent)
    Some (gives (with_announced (kept_of h) LengthSet count) NoResult);
}
apdu_member apdus.SendBytes = record {
  tests = Uses 0 Calls ∷ [];
  does = λ h. do
    offset ← on_word h 1
    count ← on_word h 2
    in_state h (is_length_set (kept_of h).state)
    in_buffer h offset count (sends h);
}
apdu_member apdus.SendBytesLong = record {
  tests = Uses 0 Calls ∷ Uses 1 Loads ∷ HasRange 1 2 (ShortAt 3) ∷ [];
  does = λ h. do
    in_state h (is_length_set (kept_of h).state)
    on_range h 1 2 (ShortAt 3) (sends h);
}
apdu_member apdus.SetOutgoingAndSend = record {
  tests = Uses 0 Calls ∷ [];
  does = λ h. do
    offset ← on_word h 1
    count ← on_word h 2
    in_state h (is_incoming (kept_of h).state)
    require_apdu h bad_length (nat_le count most_sent)
    in_buffer h offset count (sends_at_once h count);
}

-- ---- Applet, except its constructor

-- an object of this owner may register: the owner is the instance being installed, which hasn't registered
abbrev pub may_register : Owner → Installing → Bool
may_register owner i = not i.registered && is_same_owner owner i.owner

-- the instance being installed, if an object may register for it: not outside an install, not a second time, and not
-- for another instance
abbrev pub allowed : Owner → Option Installing → Option Installing
allowed owner None = None
allowed owner (Some i) = if may_register owner i then Some i else None

-- an instance registers with an AID that no registered instance has, and its AID object gets the bytes
abbrev pub registers : Kept → ℕ → ℕ → Owner → List ℕ → Work
registers k number object owner aid =
    unless_system k illegal_aid (not (is_some (instance_with k.instances aid)))
    (writes_own (with_instance k (record { aid = aid; object = object; owner = owner })) (aid_object number) 0
    (length aid ∷ aid) NoResult)

abbrev pub on_installing : Called → Option Installing → (Installing → Option Work) → Option Work
on_installing h None go = Some (throws_system (kept_of h) illegal_aid)
on_installing h (Some i) go = go i

-- the applet, and the instance for which it registers
abbrev pub on_allowed : Called → (ℕ → Owner → Installing → Option Work) → Option Work
on_allowed h go = do
  applet ← on_reference h 0
  object ← on_object h applet
  on_installing h (allowed object.owner (kept_of h).installing) (go applet object.owner)

abbrev pub registers_under : Called → ℕ → Owner → Installing → List ℕ → Option Work
registers_under h applet owner i aid = do
  require_system h illegal_value (has_aid_length (length aid))
  Some (registers (kept_of h) i.owner.instance applet owner aid)

-- register takes the AID of the applet, or the bytes of a range; members that applets override return 1, nothing, and
-- null
abbrev pub applet_member : AppletNative → Member
applet_member applets.Register = record {
  tests = Uses 0 Calls ∷ [];
  does = λ h. on_allowed h (λ applet owner i. Some (registers (kept_of h) i.owner.instance applet owner i.aid));
}
applet_member applets.RegisterBytes = record {
  tests = Uses 0 Calls ∷ Uses 1 Loads ∷ HasRange 1 2 (ByteAt 3) ∷ [];
  does = λ h. on_allowed h (λ applet owner i. on_range h 1 2 (ByteAt 3) (registers_under h applet owner i));
}
applet_member applets.Select = record { tests = Uses 0 Calls ∷ []; does = λ h. ends_with h (GivesWord 1) }
applet_member applets.Deselect = record { tests = Uses 0 Calls ∷ []; does = λ h. ends_with h NoResult }
-- no package can call it: it is abstract, and has no code
applet_member applets.Process = record { tests = Uses 0 Calls ∷ []; does = λ h. ends_with h NoResult }
applet_member applets.SelectingApplet = record {
  tests = Uses 0 Calls ∷ [];
  does = λ h. ends_with h (GivesWord (bit (kept_of h).selecting));
}
applet_member applets.GetShareable = record {
  tests = Uses 0 Calls ∷ [];
  does = λ h. ends_with h (GivesReference 0);
}

-- ---- JCSystem

-- the AID object of a registered instance; 0, which is null, if there is none
abbrev pub aid_of : Option Instance → ℕ
aid_of None = 0
aid_of (Some i) = aid_object i.owner.instance

abbrev pub aid_of_owner : Kept → Option Owner → ℕ
aid_of_owner k owner = aid_of (option_and_then (instance_of k.instances) owner)

-- an instance is asked for a shareable object, with the AID of the asking owner, and a byte; null if there is no
-- instance
abbrev pub asks : Kept → Owner → ℕ → Option Instance → Work
asks k active byte None = gives k (GivesReference 0)
asks k active byte (Some i) =
    Asks (record { object = i.object; aid = aid_of_owner k (Some active); word = extended byte })

-- the event with a number: CLEAR_ON_RESET, CLEAR_ON_DESELECT
abbrev pub event_of : ℕ → Option ClearingEvent
event_of number = if number == 1 then Some Reset else if number == 2 then Some Deselect else None

-- an array that is cleared on deselect may be made only if an applet of the active context is selected
abbrev pub may_make : ℕ → Option ℕ → ClearingEvent → Bool
may_make active selected Reset = true
may_make active selected Deselect = option_map_or (λ context. context == active) selected false

abbrev pub makes : Kept → ℕ → Option ℕ → Elements → ℕ → Option ClearingEvent → Work
makes k active selected elements size None = throws_system k illegal_value
makes k active selected elements size (Some event) =
    unless_system k illegal_transient (may_make active selected event)
    (if is_count size then Makes (record { elements = elements; event = event; size = size })
    else throws k negative_size_exception)

abbrev pub makes_array : Elements → Called → Option Work
makes_array elements h = do
  size ← on_word h 0
  event ← on_word h 1
  Some (makes (kept_of h) h.call.active.context h.call.selected elements size (event_of (extended event)))

abbrev pub system_member : SystemNative → Member
system_member system.GetAid = record {
  tests = [];
  does = λ h. ends_with h (GivesReference (aid_of_owner (kept_of h) (Some h.call.active)));
}
system_member system.LookupAid = record {
  tests = Uses 0 Loads ∷ HasRange 0 1 (ByteAt 2) ∷ [];
  does = λ h. do
    bytes ← on_range h 0 1 (ByteAt 2)
    ends_with h (GivesReference (aid_of (instance_with (kept_of h).instances bytes)));
}
system_member system.GetPreviousAid = record {
  tests = [];
  does = λ h. ends_with h (GivesReference (aid_of_owner (kept_of h) h.call.previous));
}
system_member system.AskForShareable = record {
  tests = Uses 0 Calls ∷ [];
  does = λ h. do
    aid ← on_reference h 0
    byte ← on_word h 1
    bytes ← on_aid h aid
    Some (asks (kept_of h) h.call.active byte (instance_with (kept_of h).instances bytes));
}
system_member system.MakeBooleans = record { tests = []; does = makes_array Booleans }
system_member system.MakeBytes = record { tests = []; does = makes_array Bytes }
system_member system.MakeShorts = record { tests = []; does = makes_array Shorts }
system_member system.MakeReferences = record { tests = []; does = makes_array References }

-- ---- Util

-- A copy works as if the source was copied first, and writes its components unchanged. Members that write return the
-- offset after the written components.
abbrev pub utility_member : UtilityNative → Member
utility_member utilities.ArrayCopy = record {
  tests = Uses 0 Loads ∷ Uses 2 Stores ∷ HasRange 0 1 (ShortAt 4) ∷ HasRange 2 3 (ShortAt 4) ∷ [];
  does = λ h. do
    source ← on_reference h 0
    from ← on_word h 1
    target ← on_reference h 2
    to ← on_word h 3
    count ← on_word h 4
    words ← on_words h source from count
    writes_words h target to words (GivesWord (word (to + count)));
}
utility_member utilities.ArrayFill = record {
  tests = Uses 0 Stores ∷ HasRange 0 1 (ShortAt 2) ∷ [];
  does = λ h. do
    array ← on_reference h 0
    from ← on_word h 1
    count ← on_word h 2
    byte ← on_word h 3
    writes_words h array from (replicate count (low byte)) (GivesWord (word (from + count)));
}
utility_member utilities.ArrayCompare = record {
  tests = Uses 0 Loads ∷ Uses 2 Loads ∷ HasRange 0 1 (ShortAt 4) ∷ HasRange 2 3 (ShortAt 4) ∷ [];
  does = λ h. do
    bytes ← on_range h 0 1 (ShortAt 4)
    others ← on_range h 2 3 (ShortAt 4)
    ends_with h (GivesWord (order_of bytes others));
}
utility_member utilities.GetShort = record {
  tests = Uses 0 Loads ∷ HasRange 0 1 (Fixed 2) ∷ [];
  does = λ h. do
    array ← on_reference h 0
    from ← on_word h 1
    one ← on_component h array from
    other ← on_component h array (from + 1)
    ends_with h (GivesWord (word_of_bytes (low one) (low other)));
}
utility_member utilities.SetShort = record {
  tests = Uses 0 Stores ∷ HasRange 0 1 (Fixed 2) ∷ [];
  does = λ h. do
    array ← on_reference h 0
    from ← on_word h 1
    short ← on_word h 2
    writes_words h array from (high short ∷ low short ∷ []) (GivesWord (word (from + 2)));
}
utility_member utilities.MakeShort = record {
  tests = [];
  does = λ h. do
    one ← on_word h 0
    other ← on_word h 1
    ends_with h (GivesWord (word_of_bytes (low one) (low other)));
}

-- ---- all members

abbrev pub member_of_native : Native → Member
member_of_native (OfObject native) = object_member native
member_of_native (OfAid native) = aid_member native
member_of_native (OfApdu native) = apdu_member native
member_of_native (OfApplet native) = applet_member native
member_of_native (OfSystem native) = system_member native
member_of_native (OfUtility native) = utility_member native
