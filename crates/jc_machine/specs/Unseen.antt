-- What a step doesn't see: two machines that differ only in the components of plain objects of one context make the
-- same accesses and have the same outcome, except for these components, as long as no step runs in that context (Java
-- Card Runtime Environment Specification, Applet Isolation and Object Sharing).
use Rattle.std.specs.Prelude.{◌≡◌, ◌≢◌, ℕ, ◌==◌, ◌&&◌, Bool, true, false, not, List, length, Option, Some}
use Rattle.std.specs.List.{list_all}
use Rattle.jc_store.specs.Heap.{Heap, Object, object_at}
use Rattle.jc_store.specs.declared.kind.Mark.{Mark}
use Rattle.jc_store.specs.declared.kind.Mark.TheVariants.{Plain, PermanentEntryPoint, TemporaryEntryPoint, GlobalArray}
use Rattle.jc_link.specs.Linked.{World}
use Rattle.jc_machine.specs.Apart.{is_applets}
use Rattle.jc_machine.specs.Going.{with_heap}
use Rattle.jc_machine.specs.Machine.{Ends, Machine, NativeAnswer, NativeCall, Natives, Next, Outcome, Stepped, Stuck}
use Rattle.jc_machine.specs.Machine.{Throws, ThrowsObject, UsedUp}
use Rattle.jc_machine.specs.Natives.{shareable_member}
use Rattle.jc_machine.specs.Reading.{Pointwise}
use Rattle.jc_machine.specs.Runtime.{HasRuntimeObjects}
use Rattle.jc_machine.specs.Step.{CallEnd, Called, Gave, RanOut, Start, Threw, WasStuck}
use Rattle.jc_machine.specs.declared.stop.Budget.{Budget}
use Rattle.jc_machine.specs.declared.stop.CodePoint.{CodePoint}
use Rattle.jc_machine.specs.declared.stop.DeniedAccess.{DeniedAccess}
use Rattle.jc_words.specs.Values.{TaggedValue}

-- ---- objects

abbrev pub is_plain : Mark → Bool
is_plain Plain = true
is_plain PermanentEntryPoint = false
is_plain TemporaryEntryPoint = false
is_plain GlobalArray = false

-- a plain object of a context: its components are hidden from all other contexts
abbrev pub is_hidden : ℕ → Object TaggedValue → Bool
is_hidden context o = o.owner.context == context && is_plain o.kind.mark

-- objects that are the same, except for the components of a hidden object
pub record IsAlike (context : ℕ) (o p : Object TaggedValue) : Type 0 where
  pub kind : o.kind ≡ p.kind
  pub owner : o.owner ≡ p.owner
  pub size : length o.cells ≡ length p.cells
  pub seen : is_hidden context o ≡ false → o.cells ≡ p.cells

abbrev pub AreAlike : ℕ → Heap TaggedValue → Heap TaggedValue → Type 0
AreAlike context os ps = Pointwise (IsAlike context) os ps

-- the object with a number isn't hidden
abbrev pub IsSeen : ℕ → Heap TaggedValue → ℕ → Type 0
IsSeen context heap number = (o : Object TaggedValue) → object_at heap number ≡ Some o → is_hidden context o ≡ false

-- ---- the outcome of a step

-- the same outcome, except for hidden components. A thrown object isn't hidden: the runtime reads its reason
pub data ComesAlike {C : Type 0} (context : ℕ) : Outcome C → Outcome C → Type 0 where
  next : (m : Machine C) (heap : Heap TaggedValue) → AreAlike context m.heap heap
      → ComesAlike context (Next m) (Next (with_heap m heap))
  throws : (m : Machine C) (heap : Heap TaggedValue) (object : ℕ) → AreAlike context m.heap heap
      → IsSeen context m.heap object → ComesAlike context (Throws m object) (Throws (with_heap m heap) object)
  ends : (m : Machine C) (heap : Heap TaggedValue) (value : Option TaggedValue) → AreAlike context m.heap heap
      → ComesAlike context (Ends m value) (Ends (with_heap m heap) value)
  used_up : (m : Machine C) (heap : Heap TaggedValue) → AreAlike context m.heap heap
      → ComesAlike context (UsedUp m) (UsedUp (with_heap m heap))
  stuck_both : ComesAlike context Stuck Stuck

-- the same accesses and outcome, except for hidden components
pub record StepsAlike {C : Type 0} (context : ℕ) (s t : Stepped C) : Type 0 where
  pub touches : s.touches ≡ t.touches
  pub outcome : ComesAlike context s.outcome t.outcome

-- ---- native members

-- the same accesses and end, and objects that differ only in hidden components; a thrown object isn't hidden
pub record IsBlindAnswer {C : Type 0} (context : ℕ) (a b : NativeAnswer C) : Type 0 where
  pub touches : a.touches ≡ b.touches
  pub heap : AreAlike context a.heap b.heap
  pub runtime : a.runtime ≡ b.runtime
  pub ends : a.ends ≡ b.ends
  pub thrown : (number : ℕ) → a.ends ≡ ThrowsObject number → IsSeen context a.heap number

-- a call with other objects
abbrev pub with_objects : {C : Type 0} → NativeCall C → Heap TaggedValue → NativeCall C
with_objects call heap = record call { heap = heap }

-- hidden components don't affect the answers to calls by applets of other contexts, nor those of the one member that
-- native members call back (getShareableInterfaceObject), whoever calls it
pub record AreNativesBlind {C : Type 0} (natives : Natives C) : Type 0 where
  pub members : (context : ℕ) (w : World) (call : NativeCall C) (heap : Heap TaggedValue)
      → HasRuntimeObjects call.heap → is_applets call.active ≡ true → call.active.context ≢ context
      → AreAlike context call.heap heap
      → IsBlindAnswer context (natives.answer w call) (natives.answer w (with_objects call heap))
  pub modest : (context : ℕ) (w : World) (call : NativeCall C) (heap : Heap TaggedValue)
      → HasRuntimeObjects call.heap → call.member ≡ shareable_member → AreAlike context call.heap heap
      → IsBlindAnswer context (natives.answer w call) (natives.answer w (with_objects call heap))

-- ---- a call

-- a call that begins with other objects
abbrev pub from_objects : {C : Type 0} → Start C → Heap TaggedValue → Start C
from_objects start heap = record start { heap = heap }

-- whether this context isn't among those that ran
abbrev pub stays_out : ℕ → List ℕ → Bool
stays_out context ran = list_all (λ n. not (n == context)) ran

-- the same end, except for hidden components
pub data EndsAlike {C : Type 0} (context : ℕ) : CallEnd C → CallEnd C → Type 0 where
  gave : (m : Machine C) (heap : Heap TaggedValue) (value : Option TaggedValue) → AreAlike context m.heap heap
      → EndsAlike context (Gave m value) (Gave (with_heap m heap) value)
  threw : (m : Machine C) (heap : Heap TaggedValue) (object : ℕ) (at : Option CodePoint) (denied : Option DeniedAccess)
      → AreAlike context m.heap heap → IsSeen context m.heap object
      → EndsAlike context (Threw m object at denied) (Threw (with_heap m heap) object at denied)
  ran_out : (m : Machine C) (heap : Heap TaggedValue) (spent : Budget) (at : Option CodePoint)
      → AreAlike context m.heap heap → EndsAlike context (RanOut m spent at) (RanOut (with_heap m heap) spent at)
  were_stuck : EndsAlike context WasStuck WasStuck

-- the same accesses, the same contexts in the same order, and the same end, except for hidden components
pub record CallsAlike {C : Type 0} (context : ℕ) (c d : Called C) : Type 0 where
  pub touches : c.touches ≡ d.touches
  pub ran : c.ran ≡ d.ran
  pub ends : EndsAlike context c.ends d.ends
