-- The meaning of the native members: each tests its arguments, and then does its work.
use Rattle.std.specs.Prelude.{ℕ, ◌==◌, ◌&&◌, Bool, false, true, List, [], ◌∷◌, ◌++◌, length, Option, Some, None, nat_le}
use Rattle.std.specs.Prelude.{nat_lt, replicate, if◌then◌else◌}
use Rattle.std.specs.List.{list_all}
use Rattle.std.specs.Option.{option_map, option_map_or}
use Rattle.jc_api.specs.Numbered.{numbered}
use Rattle.jc_api.specs.declared.class.ApiClass.TheVariants.{Applet}
use Rattle.jc_cap_desc.specs.Shape.{Shape}
use Rattle.jc_firewall.specs.declared.access.Access.{Access}
use Rattle.jc_firewall.specs.declared.access.Access.TheVariants.{PutField, StoreComponent}
use Rattle.jc_link.specs.Linked.{World}
use Rattle.jc_machine.specs.Calls.{native_may_begin}
use Rattle.jc_machine.specs.Lookup.{is_array, is_of_class}
use Rattle.jc_machine.specs.Going.{runtime_touch}
use Rattle.jc_machine.specs.Machine.{By, ByCode, ByRuntime, Calls, Gives, IsStuck, NativeAnswer, NativeCall, NativeEnd}
use Rattle.jc_machine.specs.Machine.{Natives, ThrowsObject, Touch}
use Rattle.jc_machine.specs.Natives.{shareable_member}
use Rattle.jc_names.specs.declared.name.ClassName.TheVariants.{Api}
use Rattle.jc_names.specs.declared.owner.Owner.{Owner}
use Rattle.jc_natives.specs.Cells.{Write, has_room, written}
use Rattle.jc_natives.specs.Kept.{Kept, aid_object, are_bytes, has_numbers, is_aid, is_instance_number, is_same_owner}
use Rattle.jc_natives.specs.Checks.{Passed, Refused, TestEnd, Unfit, tested}
use Rattle.jc_natives.specs.Members.{Member, member_of_native, natives}
use Rattle.jc_natives.specs.Taking.{Called, called}
use Rattle.jc_natives.specs.Work.{Asks, Does, Ending, GivesReference, GivesWord, Makes, NewArray, NoResult, Throws}
use Rattle.jc_natives.specs.Work.{Work, array_type, no_transient_space, throws_system}
use Rattle.jc_natives.specs.declared.ended.Question.{Question}
use Rattle.jc_natives.specs.declared.kept.Installing.{Installing}
use Rattle.jc_natives.specs.declared.kept.Instance.{Instance}
use Rattle.jc_natives.specs.declared.native.Elements.{Elements}
use Rattle.jc_natives.specs.declared.native.Elements.TheVariants.{Booleans, Bytes, References, Shorts}
use Rattle.jc_natives.specs.declared.native.Native.{Native}
use Rattle.jc_store.specs.Heap.{Heap, Object, next_number, object_at, with_new}
use Rattle.jc_store.specs.declared.kind.Mark.TheVariants.{Plain}
use Rattle.jc_words.specs.Values.{Null, Ref, TaggedValue, Word}

-- ---- values

abbrev pub reference : ℕ → TaggedValue
reference number = if number == 0 then Null else Ref number

abbrev pub end_of : Ending → NativeEnd
end_of NoResult = Gives None
end_of (GivesWord word) = Gives (Some (Word word))
end_of (GivesReference number) = Gives (Some (reference number))
end_of (Throws object) = ThrowsObject object

-- the blank component of a new array
abbrev pub blank_of : Elements → TaggedValue
blank_of Booleans = Word 0
blank_of Bytes = Word 0
blank_of Shorts = Word 0
blank_of References = Null

-- a transient array, of the active owner
abbrev pub new_array : Owner → NewArray → Object TaggedValue
new_array owner array = record {
  kind = record { object_type = array_type array.elements; mark = Plain; clears = Some array.event };
  owner = owner;
  cells = replicate array.size (blank_of array.elements);
}

-- ---- the runtime's own accesses

-- the access by which components are written
abbrev pub write_access : Object TaggedValue → Access
write_access object = if is_array object.kind.object_type then StoreComponent else PutField

abbrev pub own_touch : ℕ → Object TaggedValue → Touch
own_touch number object = runtime_touch (write_access object) number

-- the caller writes only what was tested; a write without words is no access
abbrev pub touch_by : By → Heap TaggedValue → ℕ → List Touch
touch_by ByCode heap number = []
touch_by ByRuntime heap number = option_map_or (λ object. own_touch number object ∷ []) (object_at heap number) []

abbrev pub has_words : List ℕ → Bool
has_words [] = false
has_words (word ∷ words) = true

abbrev pub own_touch_of : Heap TaggedValue → Write → List Touch
own_touch_of heap w = if has_words w.words then touch_by w.by heap w.object else []

abbrev pub own_touches : Heap TaggedValue → List Write → List Touch
own_touches heap [] = []
own_touches heap (w ∷ writes) = own_touch_of heap w ++ own_touches heap writes

-- ---- answers

-- the member is stuck, or throws, and nothing changes
abbrev pub unchanged : NativeCall Kept → List Touch → NativeEnd → NativeAnswer Kept
unchanged call touches ends = record { touches = touches; heap = call.heap; runtime = call.runtime; ends = ends }

abbrev pub did : NativeCall Kept → List Touch → List Write → Kept → Ending → NativeAnswer Kept
did call touches writes k ending = record {
  touches = touches ++ own_touches call.heap writes;
  heap = written Word call.heap writes;
  runtime = k;
  ends = end_of ending;
}

abbrev pub made : NativeCall Kept → List Touch → NewArray → NativeAnswer Kept
made call touches array = record {
  touches = touches;
  heap = with_new call.heap (new_array call.active array);
  runtime = call.runtime;
  ends = Gives (Some (Ref (next_number call.heap)));
}

-- applets answer such a question with getShareableInterfaceObject
abbrev pub asked : NativeCall Kept → List Touch → Question → NativeAnswer Kept
asked call touches q =
    unchanged call touches
    (Calls (record { member = shareable_member; object = q.object; arguments = reference q.aid ∷ Word q.word ∷ [] }))

-- an array is made if there is room for it
abbrev pub array_or_refusal : Bool → NewArray → Kept → Work
array_or_refusal true array k = Makes array
array_or_refusal false array k = throws_system k no_transient_space

-- without room for an array the work is to throw
abbrev pub with_room : {V : Type 0} → ℕ → ℕ → Heap V → Kept → Work → Work
with_room objects cells heap k (Does writes runtime ending) = Does writes runtime ending
with_room objects cells heap k (Makes array) = array_or_refusal (has_room objects cells heap array.size) array k
with_room objects cells heap k (Asks question) = Asks question

abbrev pub done : NativeCall Kept → List Touch → Work → NativeAnswer Kept
done call touches (Does writes k ending) = did call touches writes k ending
done call touches (Makes array) = made call touches array
done call touches (Asks question) = asked call touches question

-- a member without a work is stuck
abbrev pub worked : NativeCall Kept → List Touch → Option Work → NativeAnswer Kept
worked call touches None = unchanged call touches IsStuck
worked call touches (Some work) =
    done call touches (with_room call.limits.objects call.limits.cells call.heap call.runtime work)

-- if a test fails, that is the end; otherwise the work is done
abbrev pub ended : NativeCall Kept → List Touch → TestEnd → Option Work → NativeAnswer Kept
ended call touches Passed work = worked call touches work
ended call touches (Refused object) work = unchanged call touches (ThrowsObject object)
ended call touches Unfit work = unchanged call touches IsStuck

abbrev pub answer_by : Called → Member → NativeAnswer Kept
answer_by h m = let t = tested h m.tests in ended h.call t.touches t.ends (m.does h)

abbrev pub begun : World → NativeCall Kept → Option Native → NativeAnswer Kept
begun w call None = unchanged call [] IsStuck
begun w call (Some native) = answer_by (called w call) (member_of_native native)

-- a call of a member is stuck only if there is no such member, or it is abstract, or its arguments don't have their
-- types, or something else that it reads doesn't fit
abbrev pub answer_of : World → NativeCall Kept → NativeAnswer Kept
answer_of w call =
    if native_may_begin w.shapes call.heap call.member call.arguments
    then begun w call (numbered natives call.member) else unchanged call [] IsStuck

-- ---- the runtime's state fits the objects

-- a registered instance has an AID and a number, and its object exists: of class Applet or below it, and its own
abbrev pub has_applet : List Shape → Instance → Object TaggedValue → Bool
has_applet shapes i object =
    is_of_class shapes (Api Applet) object.kind.object_type && is_same_owner object.owner i.owner

abbrev pub fits_instance : List Shape → Heap TaggedValue → Instance → Bool
fits_instance shapes heap i =
    is_aid i.aid && is_instance_number i.owner.instance
    && option_map_or (has_applet shapes i) (object_at heap i.object) false

abbrev pub fits_installing : Installing → Bool
fits_installing i = is_aid i.aid && is_instance_number i.owner.instance

-- the data of a command are at most 255 bytes, and its Le is a byte
abbrev pub fits_command : Kept → Bool
fits_command k = are_bytes k.incoming && nat_le (length k.incoming) 255 && nat_lt k.expected 256

abbrev pub fits_kept : World → Heap TaggedValue → Kept → Bool
fits_kept w heap k =
    list_all (fits_instance w.shapes heap) k.instances && option_map_or fits_installing k.installing true
    && (fits_command k && has_numbers k)

-- the AID object that is written when the instance that is being installed registers
abbrev pub registering : Kept → Option ℕ
registering k = option_map (λ (i : Installing). aid_object i.owner.instance) k.installing

-- ---- the members

abbrev pub meaning : Natives Kept
meaning = record { answer = answer_of; fits = fits_kept; registers = registering }
