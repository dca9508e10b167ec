-- The parts of commands: calls of the runtime, writes in its own name, and clearing of transient arrays (Java Card
-- Runtime Environment Specification, Applet Lifetime, Transient Objects).
use Rattle.std.specs.Prelude.{ℕ, suc, List, [], ◌∷◌, ◌++◌, Option, Some, None, map, if◌then◌else◌}
use Rattle.std.specs.Option.{option_and_then, option_map, option_map_or}
use Rattle.jc_machine.specs.Machine.{Machine, Touch}
use Rattle.jc_machine.specs.Runtime.{apdu_object}
use Rattle.jc_machine.specs.Step.{Called, CallEnd, Gave, RanOut, Start, Threw, WasStuck, runtime_call}
use Rattle.jc_machine.specs.declared.stop.Budget.{Budget}
use Rattle.jc_machine.specs.declared.stop.CodePoint.{CodePoint}
use Rattle.jc_machine.specs.declared.stop.DeniedAccess.{DeniedAccess}
use Rattle.jc_names.specs.declared.name.MethodName.{MethodName}
use Rattle.jc_names.specs.declared.owner.Owner.{Owner}
use Rattle.jc_natives.specs.Cells.{put_all}
use Rattle.jc_natives.specs.Kept.{Kept}
use Rattle.jc_natives.specs.Meaning.{own_touch}
use Rattle.jc_natives.specs.declared.kept.Instance.{Instance}
use Rattle.jc_safety.specs.Starting.{method_for}
use Rattle.jc_safety.specs.Zeroing.{zeroed_where}
use Rattle.jc_store.specs.Heap.{Heap, Object, is_cleared_by, object_at}
use Rattle.jc_store.specs.declared.kind.ClearingEvent.{ClearingEvent}
use Rattle.jc_words.specs.Values.{Ref, TaggedValue, Word}
use Rattle.jc_card.specs.Card.{CardState, around, left_by, selected_instance, with_heap}
use Rattle.jc_card.specs.declared.calls.AppletCall.{AppletCall}
use Rattle.jc_card.specs.declared.calls.AppletCall.TheVariants.{Select, Deselect, Process}

-- ---- one part after the other

-- the accesses of a part and the contexts in which its steps ran, both in order; the card after it; and its result
pub record Left (A : Type 0) : Type 0 where
  pub touches : List Touch
  pub ran : List ℕ
  pub card : CardState
  pub value : A

-- a part without accesses
abbrev pub gives : {A : Type 0} → CardState → A → Option (Left A)
gives c value = Some (record { touches = []; ran = []; card = c; value = value })

-- a part after the accesses and the steps of another one
abbrev pub behind : {A : Type 0} → List Touch → List ℕ → Left A → Left A
behind touches ran l =
    record { touches = touches ++ l.touches; ran = ran ++ l.ran; card = l.card; value = l.value }

-- a part, and then the next; if a call is stuck there is no result
abbrev pub and_then : {A B : Type 0} → Option (Left A) → (CardState → A → Option (Left B)) → Option (Left B)
and_then None next = None
and_then (Some l) next = option_map (behind l.touches l.ran) (next l.card l.value)

-- ---- calls

-- the end of a call of the runtime: what nothing caught, where it was thrown, and the last access of that step or
-- member, if it was denied; what is spent, and where a frame stood
pub data Ended : Type 0 where
  Normally : (value : Option TaggedValue) → Ended
  Uncaught : (object : ℕ) (at : Option CodePoint) (denied : Option DeniedAccess) → Ended
  OutOfBudget : (spent : Budget) (at : Option CodePoint) → Ended

abbrev pub left_so : CardState → Called Kept → Machine Kept → Ended → Option (Left Ended)
left_so c called m value =
    Some (record { touches = called.touches; ran = called.ran; card = left_by c m; value = value })

abbrev pub ended_call : CardState → Called Kept → CallEnd Kept → Option (Left Ended)
ended_call c called (Gave m value) = left_so c called m (Normally value)
ended_call c called (Threw m object at denied) = left_so c called m (Uncaught object at denied)
ended_call c called (RanOut m spent at) = left_so c called m (OutOfBudget spent at)
ended_call c called WasStuck = None

abbrev pub ended : CardState → Called Kept → Option (Left Ended)
ended c called = ended_call c called called.ends

-- the start of a call of a method on a card
abbrev pub start_on : CardState → Owner → MethodName → List TaggedValue → Start Kept
start_on c owner method arguments = record {
  heap = c.heap;
  statics = c.statics;
  runtime = c.kept;
  owner = owner;
  method = method;
  arguments = arguments;
}

-- calls a method as an instance, with no previous owner, while a context counts as the selected one
abbrev pub call_method : CardState → ℕ → Owner → MethodName → List TaggedValue → Option (Left Ended)
call_method c selected owner method arguments =
    ended c (runtime_call (around c (Some selected)) c.steps (start_on c owner method arguments))

-- the members of Applet that the runtime calls, by their numbers, and their arguments
abbrev pub member_called : AppletCall → ℕ
member_called Select = 36
member_called Deselect = 37
member_called Process = 38

abbrev pub arguments_of : AppletCall → List TaggedValue
arguments_of Select = []
arguments_of Deselect = []
arguments_of Process = Ref apdu_object ∷ []

-- calls as the instance the method that its object's class has for such a member
abbrev pub call_on : CardState → Instance → AppletCall → Object TaggedValue → Option (Left Ended)
call_on c i call object =
    option_and_then (λ method. call_method c i.owner.context i.owner method (Ref i.object ∷ arguments_of call))
    (method_for c.world.shapes object (member_called call))

abbrev pub call_applet : CardState → Instance → AppletCall → Option (Left Ended)
call_applet c i call = option_and_then (call_on c i call) (object_at c.heap i.object)

-- calls that of the selected applet; without one it calls nothing
abbrev pub call_selected : CardState → AppletCall → Option (Left Ended)
call_selected c call =
    option_map_or (λ i. call_applet c i call) (selected_instance c) (gives c (Normally None))

-- ---- writes of the runtime

-- its access to an object; none if there is no object
abbrev pub runtime_touch : Heap TaggedValue → ℕ → List Touch
runtime_touch heap number = option_map_or (λ object. own_touch number object ∷ []) (object_at heap number) []

-- writes words to the components of an object, from the first on
abbrev pub write : ℕ → List ℕ → CardState → Option (Left (Unit {0}))
write number words c = Some (record {
  touches = runtime_touch c.heap number;
  ran = [];
  card = with_heap c (put_all c.heap number 0 (map Word words));
  value = tt;
})

-- ---- clearing

-- the accesses to the objects that an event clears; the first object has this number
abbrev pub clearing_touches : ClearingEvent → Option ℕ → ℕ → Heap TaggedValue → List Touch
clearing_touches event context number [] = []
clearing_touches event context number (object ∷ heap) =
    (if is_cleared_by event context object then own_touch number object ∷ [] else [])
    ++ clearing_touches event context (suc number) heap

-- clears the arrays of an event, to zero or null: those of a context, or all
abbrev pub clear : ClearingEvent → Option ℕ → CardState → Option (Left (Unit {0}))
clear event context c = Some (record {
  touches = clearing_touches event context 1 c.heap;
  ran = [];
  card = with_heap c (zeroed_where (is_cleared_by event context) c.heap);
  value = tt;
})
