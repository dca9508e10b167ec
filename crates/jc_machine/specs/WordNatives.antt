-- When native members on words conform to their meaning on tagged values: the contract by which an interpreter calls
-- them.
use Rattle.std.specs.Prelude.{⊤, ◌≡◌, ℕ, true, List, Option, Some, None}
use Rattle.jc_link.specs.Linked.{World}
use Rattle.jc_store.specs.Heap.{Object, object_at}
use Rattle.jc_store.specs.Store.{Store, class_number_at}
use Rattle.jc_machine.specs.Accepted.{IsAccepted}
use Rattle.jc_machine.specs.Lookup.{is_array}
use Rattle.jc_machine.specs.Machine.{Callback, NativeAnswer, NativeCall, Natives}
use Rattle.jc_machine.specs.Machine.{Calls, Gives, IsStuck, NativeEnd, ThrowsObject, last_denied}
use Rattle.jc_machine.specs.Natives.{IsFitCall}
use Rattle.jc_machine.specs.Reading.{HeapReads, Pointwise, Reads, ReadsResult}
use Rattle.jc_machine.specs.Runtime.{security_exception}
use Rattle.jc_machine.specs.declared.natives.AtOnce.{AtOnce}
use Rattle.jc_machine.specs.declared.natives.AtOnce.TheVariants as at_once
use Rattle.jc_machine.specs.declared.natives.WordCall.{WordCall}
use Rattle.jc_machine.specs.declared.natives.WordCallback.{WordCallback}
use Rattle.jc_machine.specs.declared.natives.WordOutcome.{WordOutcome}
use Rattle.jc_machine.specs.declared.natives.WordOutcome.TheVariants.{AccessDenied, CallsBack, Returned, Thrown}
use Rattle.jc_machine.specs.declared.stop.DeniedAccess.{DeniedAccess}

-- the state before and after native members on words: the objects, and what the runtime keeps
pub record WordState (C : Type 0) : Type 0 where
  pub store : Store
  pub runtime : C

-- a call on words is the tagged call without its tags, and the state's objects and what the runtime keeps are those of
-- the call
pub record CallAgrees {C : Type 0} (state : WordState C) (word : WordCall) (call : NativeCall C) : Type 0 where
  pub member : word.member ≡ call.member
  pub arguments : Pointwise Reads word.arguments.now call.arguments
  pub active : word.active ≡ call.active
  pub previous : word.previous ≡ call.previous
  pub selected : word.selected ≡ call.selected
  pub heap : HeapReads state.store.objects call.heap
  pub runtime : state.runtime ≡ call.runtime
  pub most_objects : state.store.most_objects ≡ call.limits.objects
  pub most_cells : state.store.most_cells ≡ call.limits.cells

-- a callback on words is the tagged callback without its tags
pub record ReadsCallback (word : WordCallback) (callback : Callback) : Type 0 where
  pub member : word.member ≡ callback.member
  pub object : word.object ≡ callback.object
  pub arguments : Pointwise Reads word.arguments.items callback.arguments

-- an outcome on words is the tagged end without its tags. No outcome matches a stuck end
abbrev pub ReadsEnd : WordOutcome → NativeEnd → Type 0
ReadsEnd (Returned word) (Gives value) = ReadsResult word value
ReadsEnd (Returned word) (ThrowsObject object) = ⊥
ReadsEnd (Returned word) (Calls callback) = ⊥
ReadsEnd (Returned word) IsStuck = ⊥
ReadsEnd (Thrown number) (ThrowsObject object) = number ≡ object
ReadsEnd (Thrown number) (Gives value) = ⊥
ReadsEnd (Thrown number) (Calls callback) = ⊥
ReadsEnd (Thrown number) IsStuck = ⊥
ReadsEnd (AccessDenied denied) (ThrowsObject object) = object ≡ security_exception
ReadsEnd (AccessDenied denied) (Gives value) = ⊥
ReadsEnd (AccessDenied denied) (Calls callback) = ⊥
ReadsEnd (AccessDenied denied) IsStuck = ⊥
ReadsEnd (CallsBack word) (Calls callback) = ReadsCallback word callback
ReadsEnd (CallsBack word) (Gives value) = ⊥
ReadsEnd (CallsBack word) (ThrowsObject object) = ⊥
ReadsEnd (CallsBack word) IsStuck = ⊥

-- the access that was denied, if the outcome tells one
abbrev pub denied_of : WordOutcome → Option DeniedAccess
denied_of (Returned word) = None
denied_of (Thrown number) = None
denied_of (AccessDenied denied) = Some denied
denied_of (CallsBack word) = None

-- the objects, what the runtime keeps and the outcome are those of the tagged answer. Of its accesses the outcome tells
-- the last one, if it was denied
pub record AnswerAgrees {C : Type 0} (state : WordState C) (outcome : WordOutcome) (a : NativeAnswer C) : Type 0 where
  pub heap : HeapReads state.store.objects a.heap
  pub runtime : state.runtime ≡ a.runtime
  pub ends : ReadsEnd outcome a.ends
  pub denied : denied_of outcome ≡ last_denied a.touches

-- the effect on words conforms to the members' meaning, for each valid call that the words represent, in an accepted
-- world
abbrev pub Answers : {C : Type 0} → Natives C → World → WordCall → WordState C → WordState C → WordOutcome → Type 0
Answers {C} natives w word before after outcome =
    (call : NativeCall C) → CallAgrees before word call → IsAccepted w → IsFitCall natives w call
    → AnswerAgrees after outcome (natives.answer w call)

-- a property of the result, a word or nothing, if a member was done at once
abbrev pub IfDone : AtOnce → (Option ℕ → Type 0) → Type 0
IfDone (at_once.Gives word) holds = holds (Some word)
IfDone at_once.GivesNothing holds = holds None
IfDone at_once.NotAtOnce holds = ⊤

-- if a member was done at once, it did what it means, for each call of it with these arguments in this context
abbrev pub AnswersAtOnce :
    {C : Type 0} → Natives C → ℕ → List ℕ → ℕ → WordState C → WordState C → AtOnce → Type 0
AnswersAtOnce {C} natives member arguments context before after given =
    (word : WordCall) → word.member ≡ member → word.arguments.now ≡ arguments → word.active.context ≡ context
    → IfDone given (λ value. Answers natives word.world.now word before after (Returned value))

-- the class number of arrays: Object is the first of a world's classes
abbrev pub number_of_object : ℕ
number_of_object = 0

-- an object is an array, and its class number is that of Object
pub record IsNumberedArray (store : Store) (number : ℕ) (object : Object ℕ) : Type 0 where
  pub array : is_array object.kind.object_type ≡ true
  pub numbered : class_number_at store.classes number ≡ Some number_of_object

-- objects keep their class numbers, and new objects are arrays with the class number of Object
pub record NumbersArrays (before after : Store) : Type 0 where
  pub kept : (number class : ℕ) → class_number_at before.classes number ≡ Some class
      → class_number_at after.classes number ≡ Some class
  pub made : (number : ℕ) (object : Object ℕ) → object_at before.objects number ≡ None
      → object_at after.objects number ≡ Some object → IsNumberedArray after number object

-- a store's limits for objects and cells don't change
pub record KeepsLimits (before after : Store) : Type 0 where
  pub objects : after.most_objects ≡ before.most_objects
  pub cells : after.most_cells ≡ before.most_cells
