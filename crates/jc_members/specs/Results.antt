-- The result of a call of a native member.
use Rattle.std.specs.Prelude.{ℕ, List, [], map, Option, Some, None}
use Rattle.std.specs.Option.{option_map, option_map_or}
use Rattle.jc_machine.specs.Examples.{world_with}
use Rattle.jc_machine.specs.Machine.{Calls as CallsBack, Gives as GivesValue, IsStuck as NativeIsStuck}
use Rattle.jc_machine.specs.Machine.{NativeAnswer, NativeCall, NativeEnd, ThrowsObject}
use Rattle.jc_members.specs.SmallCard.{call}
use Rattle.jc_natives.specs.Examples.{member_at}
use Rattle.jc_natives.specs.Kept.{Kept}
use Rattle.jc_natives.specs.Meaning.{answer_by, answer_of}
use Rattle.jc_store.specs.Heap.{Heap, Object, object_at}
use Rattle.jc_words.specs.Values.{TaggedValue}

-- it gives nothing, or a value; it throws an object, whose components are now these; it calls a member of an object; or
-- it is stuck
pub data Result : Type 0 where
  GivesNothing : Result
  Gives : (value : TaggedValue) → Result
  Throws : (object : ℕ) (components : List TaggedValue) → Result
  Asks : (member object : ℕ) (arguments : List TaggedValue) → Result
  IsStuck : Result

-- the components of the object with a number
abbrev pub components : Heap TaggedValue → ℕ → List TaggedValue
components heap number = option_map_or (λ (o : Object TaggedValue). o.cells) (object_at heap number) []

abbrev pub result_of : Heap TaggedValue → NativeEnd → Result
result_of heap (GivesValue None) = GivesNothing
result_of heap (GivesValue (Some value)) = Gives value
result_of heap (ThrowsObject object) = Throws object (components heap object)
result_of heap (CallsBack callback) = Asks callback.member callback.object callback.arguments
result_of heap NativeIsStuck = IsStuck

abbrev pub result_in : NativeAnswer Kept → Result
result_in a = result_of a.heap a.ends

-- the answer of the member with the call's number, whatever the API declares. No package is loaded
abbrev pub answer : NativeCall Kept → Option (NativeAnswer Kept)
answer call = option_map (answer_by (record { shapes = []; call = call })) (member_at call.member)

abbrev pub ends : NativeCall Kept → Result
ends call = option_map_or result_in (answer call) IsStuck

-- behind a call: the objects, the one with a number and its components, and what the runtime keeps
abbrev pub heap_after : NativeCall Kept → Heap TaggedValue
heap_after call = option_map_or (λ (a : NativeAnswer Kept). a.heap) (answer call) call.heap

abbrev pub object_after : NativeCall Kept → ℕ → Option (Object TaggedValue)
object_after call number = object_at (heap_after call) number

abbrev pub cells_after : NativeCall Kept → ℕ → List TaggedValue
cells_after call number = components (heap_after call) number

abbrev pub kept_after : NativeCall Kept → Kept
kept_after call = option_map_or (λ (a : NativeAnswer Kept). a.runtime) (answer call) call.runtime

-- the same of a call that has to fit what the API declares. No package but the API's own is loaded
abbrev pub ends_as_declared : NativeCall Kept → Result
ends_as_declared call = result_in (answer_of (world_with []) call)

-- ---- several members, one by one, on the same arguments

abbrev pub all_end : Kept → List ℕ → List TaggedValue → List Result
all_end k numbers arguments = map (λ number. ends (call k number arguments)) numbers

abbrev pub all_leave : Kept → List ℕ → List TaggedValue → ℕ → List (List TaggedValue)
all_leave k numbers arguments object = map (λ number. cells_after (call k number arguments) object) numbers
