-- What a command doesn't see: the plain objects of a context, as long as none of its steps runs in that context (Java
-- Card Runtime Environment Specification, Applet Isolation and Object Sharing).
use Rattle.std.specs.Prelude.{◌≡◌, ℕ, true, List, Option, Some, None, Result}
use Rattle.jc_base.specs.declared.fault.LoadFault.{LoadFault}
use Rattle.jc_machine.specs.Unseen.{AreAlike, is_hidden, stays_out}
use Rattle.jc_store.specs.Heap.{Heap, Object, object_at}
use Rattle.jc_words.specs.Values.{TaggedValue}
use Rattle.jc_card.specs.Card.{CardState, with_heap}
use Rattle.jc_card.specs.Load.{IsLoad}
use Rattle.jc_card.specs.Parts.{Left}

-- the result of a command, with other objects
abbrev pub with_objects : {A : Type 0} → Left A → Heap TaggedValue → Left A
with_objects l heap = record { touches = l.touches; ran = l.ran; card = with_heap l.card heap; value = l.value }

-- another command makes the same accesses, runs in the same contexts and has the same result; the card after it differs
-- only in components of the context's plain objects
pub record IsDoneAlike {A : Type 0} (context : ℕ) (l : Left A) (other : Option (Left A)) : Type 0 where
  pub heap : Heap TaggedValue
  pub alike : AreAlike context l.card.heap heap
  pub is : other ≡ Some (with_objects l heap)

-- a command on a card that differs only there does so, for every context in which it doesn't run
abbrev pub SeesNothing : {A : Type 0} → CardState → (CardState → Option (Left A)) → Type 0
SeesNothing {A} c command = (context : ℕ) (l : Left A) → command c ≡ Some l → stays_out context l.ran ≡ true
    → (heap : Heap TaggedValue) → AreAlike context c.heap heap → IsDoneAlike context l (command (with_heap c heap))

-- a load has the same result, and the card after it differs only there
pub record IsLoadedAlike (context : ℕ) (c : CardState) (image certificate : List ℕ) (result : Result ℕ LoadFault)
    (after : CardState) (heap : Heap TaggedValue) : Type 0 where
  pub heap_behind : Heap TaggedValue
  pub alike : AreAlike context after.heap heap_behind
  pub load : IsLoad (with_heap c heap) image certificate result (with_heap after heap_behind)

-- ---- what stays

-- each plain object of a context that no event clears has the components that it had
abbrev pub KeepsContents : ℕ → Heap TaggedValue → Heap TaggedValue → Type 0
KeepsContents context before after = (number : ℕ) (o p : Object TaggedValue) → object_at before number ≡ Some o
    → object_at after number ≡ Some p → is_hidden context o ≡ true → o.kind.clears ≡ None → p.cells ≡ o.cells

-- the same after a command, for every context in which none of its steps runs
abbrev pub KeepsOut : {A : Type 0} → CardState → Left A → Type 0
KeepsOut c l = (context : ℕ) → stays_out context l.ran ≡ true → KeepsContents context c.heap l.card.heap
