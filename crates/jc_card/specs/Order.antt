-- The parts of a command: the methods that it calls, and as whom, the arrays that it clears, and the instance that it
-- selects (Java Card Runtime Environment Specification, Applet Lifetime, Selection, Transient Objects, Card Reset
-- Behavior).
use Rattle.std.specs.Prelude.{◌≡◌, ℕ, suc, Bool, true, false, List, [], ◌∷◌, ◌++◌, Option, Some, None, is_some}
use Rattle.std.specs.Prelude.{if◌then◌else◌}
use Rattle.std.specs.List.{AllByRecursion}
use Rattle.std.specs.Option.{option_map, option_map_or}
use Rattle.jc_cap.specs.declared.method_header.MethodHeader.{MethodHeader}
use Rattle.jc_classes.specs.Members.{DeclaredMethod}
use Rattle.jc_firewall.specs.Verdict.{runtime_context, verdict_of}
use Rattle.jc_link.specs.Linked.{World}
use Rattle.jc_machine.specs.Calls.{frame_of, native_call}
use Rattle.jc_machine.specs.Going.{facts_for}
use Rattle.jc_machine.specs.Guarded.{ChangesAccessed, are_allowed, asked_by}
use Rattle.jc_machine.specs.Lookup.{declared_at}
use Rattle.jc_machine.specs.Machine.{ByRuntime, Ends, Frame, Machine, MethodPlace, NativeAnswer, NativeCall}
use Rattle.jc_machine.specs.Machine.{Next, Outcome, Stuck, Surroundings, Throws, Touch, UsedUp}
use Rattle.jc_machine.specs.Natives.{KeepsObjects}
use Rattle.jc_machine.specs.Runtime.{apdu_buffer, install_array}
use Rattle.jc_machine.specs.Step.{defensive_step}
use Rattle.jc_names.specs.declared.name.MethodName.{MethodName}
use Rattle.jc_names.specs.declared.name.MethodName.TheVariants.{Api, Loaded}
use Rattle.jc_names.specs.declared.owner.Owner.{Owner}
use Rattle.jc_natives.specs.Kept.{Kept, after_install, with_command, with_install, without_command}
use Rattle.jc_natives.specs.Meaning.{meaning}
use Rattle.jc_natives.specs.declared.kept.Instance.{Instance}
use Rattle.jc_natives.specs.declared.kept.Installing.{Installing}
use Rattle.jc_safety.specs.Starting.{method_for}
use Rattle.jc_safety.specs.Zeroing.{zeroed}
use Rattle.jc_store.specs.Heap.{Heap, Object, is_cleared_by, object_at}
use Rattle.jc_store.specs.declared.kind.ClearingEvent.{ClearingEvent}
use Rattle.jc_store.specs.declared.kind.ClearingEvent.TheVariants as events
use Rattle.jc_words.specs.Values.{Ref, TaggedValue, Word}
use Rattle.jc_card.specs.Card.{CardState, around, beside, left_by, selected_instance, with_heap, with_kept}
use Rattle.jc_card.specs.Card.{with_selected}
use Rattle.jc_card.specs.Command.{Command, command_of}
use Rattle.jc_card.specs.Commands.{selected_by}
use Rattle.jc_card.specs.Install.{applet_of, next_owner}
use Rattle.jc_card.specs.Parts.{arguments_of, member_called, runtime_touch}
use Rattle.jc_card.specs.declared.calls.AppletCall.{AppletCall}
use Rattle.jc_card.specs.declared.calls.AppletCall.TheVariants as calls
use Rattle.jc_card.specs.declared.places.AppletPlace.{AppletPlace}

-- ---- orders

-- a command of a reader, and the owner of the registered instance that it selects, if it selects one; the installation
-- of the applet with an AID, at a place, as an owner; a reset; or an order that is refused at once
pub data Order : Type 0 where
  Performs : (command : Command) (selects : Option Owner) → Order
  Installs : (applet : List ℕ) (place : AppletPlace) (owner : Owner) → Order
  Resets : Order
  Refuses : Order

abbrev pub apdu_order : CardState → List ℕ → Order
apdu_order c bytes =
    option_map_or (λ (k : Command). Performs k (option_map (λ (i : Instance). i.owner) (selected_by c k)))
    (command_of bytes) Refuses

abbrev pub install_order : CardState → List ℕ → Order
install_order c applet =
    option_map_or (λ place. Installs applet place (next_owner c place)) (applet_of c applet) Refuses

-- ---- claims of the parts of a command

-- a claim of each step in its surroundings; of each native member that the runtime itself calls, and its answer; and of
-- each object that the runtime writes
pub record Claims : Type 1 where
  pub step : Surroundings Kept → Machine Kept → Type 0
  pub native : World → NativeCall Kept → NativeAnswer Kept → Type 0
  pub write : Heap TaggedValue → ℕ → Type 0

-- ---- the methods that are called

-- a command calls process; one that selects an instance calls deselect and select, too; an installation calls deselect;
-- and a reset calls no method
abbrev pub calls_member : Order → AppletCall → Bool
calls_member (Performs command selects) calls.Select = is_some selects
calls_member (Performs command selects) calls.Deselect = is_some selects
calls_member (Performs command selects) calls.Process = true
calls_member (Installs applet place owner) calls.Select = false
calls_member (Installs applet place owner) calls.Deselect = true
calls_member (Installs applet place owner) calls.Process = false
calls_member Resets call = false
calls_member Refuses call = false

-- a call as an owner: of a member of Applet, on the object of the selected instance; or of the applet's install method,
-- as the instance that is being installed
pub data IsCallOf (c : CardState) : Order → Owner → MethodName → List TaggedValue → Type 0 where
  of_selected : (order : Order) (call : AppletCall) (i : Instance) (object : Object TaggedValue) (method : MethodName)
      → calls_member order call ≡ true → selected_instance c ≡ Some i → c.selected ≡ Some i.owner
      → object_at c.heap i.object ≡ Some object
      → method_for c.world.shapes object (member_called call) ≡ Some method
      → IsCallOf c order i.owner method (Ref i.object ∷ arguments_of call)
  of_installed : (applet : List ℕ) (place : AppletPlace) (owner : Owner) (size : ℕ)
      → option_map (λ (i : Installing). i.owner) c.kept.installing ≡ Some owner
      → IsCallOf c (Installs applet place owner) owner (Loaded place.number place.install)
      (Ref install_array ∷ Word 0 ∷ Word size ∷ [])

-- ---- a call of the runtime

-- the machine after a step that ends its call
abbrev pub machine_at_end : Outcome Kept → Option (Machine Kept)
machine_at_end (Next m) = None
machine_at_end (Throws m object) = Some m
machine_at_end (Ends m value) = Some m
machine_at_end (UsedUp m) = Some m
machine_at_end Stuck = None

-- at most n steps, with the claim of each, and each from the machine that the one before it left: the accesses, and the
-- machine after the last
pub data Steps (claims : Claims) (s : Surroundings Kept) : ℕ → Machine Kept → List Touch → Machine Kept → Type 0 where
  spent : (m : Machine Kept) → Steps claims s 0 m [] m
  last : (n : ℕ) (m after : Machine Kept) → claims.step s m → machine_at_end (defensive_step s m).outcome ≡ Some after
      → Steps claims s (suc n) m (defensive_step s m).touches after
  onward : (n : ℕ) (m next after : Machine Kept) (more : List Touch) → claims.step s m
      → (defensive_step s m).outcome ≡ Next next → Steps claims s n next more after
      → Steps claims s (suc n) m ((defensive_step s m).touches ++ more) after

-- a machine on a card, with its first frame
abbrev pub machine_with : CardState → Frame → Machine Kept
machine_with c f = record { heap = c.heap; statics = c.statics; runtime = c.kept; top = f; waiting = [] }

-- the call of a native member as an owner, with no previous owner
abbrev pub call_as : CardState → Owner → ℕ → List TaggedValue → NativeCall Kept
call_as c owner member arguments =
    native_call (around c (Some owner.context)) (beside c owner) owner None member arguments

-- a call of a method as an owner, whose context counts as the selected one: the steps of a package's method, from the
-- frame at its start; no step, if there is no room for that frame or no step is left; or a native member
pub data RunsAs (claims : Claims) (c : CardState) (owner : Owner) (arguments : List TaggedValue)
    : MethodName → List Touch → Machine Kept → Type 0 where
  by_method : (place : MethodPlace) (declared : DeclaredMethod) (header : MethodHeader) (touches : List Touch)
      (after : Machine Kept)
      → declared_at c.world place ≡ Some declared → declared.method.header ≡ Some header
      → Steps claims (around c (Some owner.context)) c.steps
      (machine_with c (frame_of place header arguments owner None)) touches after
      → RunsAs claims c owner arguments (Loaded place.number place.offset) touches after
  by_none : (method : MethodName) (f : Frame) → f.active ≡ owner
      → RunsAs claims c owner arguments method [] (machine_with c f)
  by_native : (member : ℕ) (f : Frame) → f.active ≡ owner
      → claims.native c.world (call_as c owner member arguments)
      (meaning.answer c.world (call_as c owner member arguments))
      → RunsAs claims c owner arguments (Api member)
      (meaning.answer c.world (call_as c owner member arguments)).touches (record {
        heap = (meaning.answer c.world (call_as c owner member arguments)).heap;
        statics = c.statics;
        runtime = (meaning.answer c.world (call_as c owner member arguments)).runtime;
        top = f;
        waiting = [];
      })

-- ---- the runtime's work in its own name

-- an access of the runtime to an object. The verdict is the firewall's, whatever applet is selected
pub record IsOwnAccess (w : World) (heap : Heap TaggedValue) (touch : Touch) : Type 0 where
  pub by : touch.by ≡ ByRuntime
  pub active : touch.active ≡ runtime_context
  pub object : Object TaggedValue
  pub found : object_at heap touch.object ≡ Some object
  pub verdict : (selected : Option ℕ)
      → touch.verdict ≡ verdict_of touch.access touch.active (facts_for w.shapes selected heap (asked_by touch) object)

-- such accesses, all of them allowed, change objects: each object stays, and changes only if it was accessed
pub record IsOwnWork (w : World) (before : Heap TaggedValue) (touches : List Touch) (after : Heap TaggedValue)
    : Type 0 where
  pub judged : AllByRecursion (IsOwnAccess w before) touches
  pub allowed : are_allowed touches ≡ true
  pub kept : KeepsObjects before after
  pub changes : ChangesAccessed runtime_context touches before after

-- each other object is unchanged
abbrev pub LeavesOthers : ℕ → Heap TaggedValue → Heap TaggedValue → Type 0
LeavesOthers number before after = (other : ℕ) → (other ≡ number → ⊥) → object_at after other ≡ object_at before other

-- the runtime writes to an object, and to no other
pub record IsOwnWrite (claims : Claims) (c : CardState) (number : ℕ) (after : Heap TaggedValue) : Type 0 where
  pub work : IsOwnWork c.world c.heap (runtime_touch c.heap number) after
  pub others : LeavesOthers number c.heap after
  pub claimed : claims.write c.heap number

-- the transient arrays of an event, of a context or of all, are zero or null, and each other object is unchanged
abbrev pub Clears : ClearingEvent → Option ℕ → Heap TaggedValue → Heap TaggedValue → Type 0
Clears event context before after = (number : ℕ) (o : Object TaggedValue) → object_at before number ≡ Some o
    → object_at after number ≡ Some (if is_cleared_by event context o then zeroed o else o)

-- the runtime clears exactly the arrays that an event and a context name
pub record IsClearing (c : CardState) (event : ClearingEvent) (context : Option ℕ) (touches : List Touch)
    (after : Heap TaggedValue) : Type 0 where
  pub work : IsOwnWork c.world c.heap touches after
  pub clears : Clears event context c.heap after

-- ---- one part after the other

-- an order, a card, the accesses that it makes, and the card after it. It does nothing, or one part after the other.
-- Any order that calls methods may do so (IsCallOf). An order that may call deselect may unselect the instance, after
-- clearing those arrays of its context that are cleared on deselect. A command writes words to the APDU buffer, opens
-- and closes the exchange, and selects the instance that it names, if none is selected. An installation begins if none
-- is selected, in the context of the applet's package and with the next number; it writes words to the array of an
-- install; and it settles after clearing the arrays of its own context that are cleared on deselect. A reset clears all
-- transient arrays, and unselects. An order that is refused at once has no part
pub data Leads (claims : Claims) : Order → CardState → List Touch → CardState → Type 0 where
  nowhere : (order : Order) (c : CardState) → Leads claims order c [] c
  onward : (order : Order) (c between after : CardState) (touches more : List Touch)
      → Leads claims order c touches between → Leads claims order between more after
      → Leads claims order c (touches ++ more) after
  by_call : (order : Order) (c : CardState) (owner : Owner) (method : MethodName) (arguments : List TaggedValue)
      (touches : List Touch) (after : Machine Kept) → IsCallOf c order owner method arguments
      → RunsAs claims c owner arguments method touches after → Leads claims order c touches (left_by c after)
  by_buffer : (k : Command) (selects : Option Owner) (c : CardState) (heap : Heap TaggedValue)
      → IsOwnWrite claims c apdu_buffer heap
      → Leads claims (Performs k selects) c (runtime_touch c.heap apdu_buffer) (with_heap c heap)
  by_opening : (k : Command) (selects : Option Owner) (c : CardState) (selecting : Bool)
      → Leads claims (Performs k selects) c []
      (with_kept c (with_command c.kept k.incoming k.expected selecting))
  by_closing : (k : Command) (selects : Option Owner) (c : CardState)
      → Leads claims (Performs k selects) c [] (with_kept c (without_command c.kept))
  by_selecting : (k : Command) (owner : Owner) (c : CardState) → c.selected ≡ None
      → Leads claims (Performs k (Some owner)) c [] (with_selected c (Some owner))
  by_unselecting : (order : Order) (c : CardState) (owner : Owner) (touches : List Touch) (heap : Heap TaggedValue)
      → calls_member order calls.Deselect ≡ true → c.selected ≡ Some owner
      → IsClearing c events.Deselect (Some owner.context) touches heap
      → Leads claims order c touches (with_heap (with_selected c None) heap)
  by_beginning : (applet : List ℕ) (place : AppletPlace) (owner : Owner) (c : CardState) → c.selected ≡ None
      → owner.context ≡ place.number → owner.instance ≡ suc c.kept.numbers
      → Leads claims (Installs applet place owner) c []
      (with_kept c (with_install c.kept owner applet))
  by_parameters : (applet : List ℕ) (place : AppletPlace) (owner : Owner) (c : CardState) (heap : Heap TaggedValue)
      → IsOwnWrite claims c install_array heap → Leads claims (Installs applet place owner) c
      (runtime_touch c.heap install_array) (with_heap c heap)
  by_settling : (applet : List ℕ) (place : AppletPlace) (owner : Owner) (c : CardState) (succeeds : Bool)
      (touches : List Touch) (heap : Heap TaggedValue)
      → IsClearing c events.Deselect (Some owner.context) touches heap
      → Leads claims (Installs applet place owner) c touches
      (with_heap (with_kept c (after_install c.kept succeeds)) heap)
  by_reset : (c : CardState) (between heap : Heap TaggedValue) (touches more : List Touch)
      → IsClearing c events.Reset None touches between
      → IsClearing (with_heap c between) events.Deselect None more heap
      → Leads claims Resets c (touches ++ more) (with_heap (with_selected c None) heap)
