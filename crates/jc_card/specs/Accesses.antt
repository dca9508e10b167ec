-- The law of accesses of a command: the firewall judges each access; a denied access throws, and changes nothing; and a
-- plain object changes only in its own context, or by clearing (Java Card Runtime Environment Specification, Applet
-- Isolation and Object Sharing: Class and Object Access Behavior; Transient Objects).
use Rattle.std.specs.Prelude.{◌≡◌, ◌≢◌, ◌⊎◌, ⊤, ℕ, true, List, Some, IsSome, slice_get}
use Rattle.jc_firewall.specs.Verdict.{is_allowed, runtime_context}
use Rattle.jc_link.specs.Built.{IsBuilt}
use Rattle.jc_machine.specs.Apart.{IsSetApart}
use Rattle.jc_machine.specs.Guarded.{IsGuarded, KeepsPlain, machine_of, may_change}
use Rattle.jc_machine.specs.Lookup.{class_of}
use Rattle.jc_machine.specs.Machine.{Machine, Surroundings, Throws, Touch}
use Rattle.jc_machine.specs.Natives.{IsGuardedAnswer, KeepsObjects}
use Rattle.jc_machine.specs.Accessing.{AccessesAreOwn}
use Rattle.jc_machine.specs.Catching.{UnwindsTo}
use Rattle.jc_machine.specs.Owning.{StepsOwned}
use Rattle.jc_machine.specs.Step.{defensive_step, settled}
use Rattle.jc_machine.specs.Storable.{FieldsHoldStorable}
use Rattle.jc_natives.specs.Apart.{names_applets}
use Rattle.jc_natives.specs.Kept.{Kept}
use Rattle.jc_natives.specs.Meaning.{meaning}
use Rattle.jc_safety.specs.Zeroing.{zeroed}
use Rattle.jc_store.specs.Heap.{Heap, Object, object_at}
use Rattle.jc_store.specs.declared.kind.Mark.TheVariants.{Plain}
use Rattle.jc_words.specs.Values.{TaggedValue}
use Rattle.jc_card.specs.Card.{CardState}
use Rattle.jc_card.specs.Order.{Claims, Leads, Order}
use Rattle.jc_card.specs.Parts.{Left}

-- ---- a command

-- the list has an allowed access to an object by which it may change; to a plain object in its own context, or in the
-- runtime's
pub record IsAccessed (touches : List Touch) (number : ℕ) (object : Object TaggedValue) : Type 0 where
  pub place : ℕ
  pub touch : Touch
  pub listed : slice_get touches place ≡ Some touch
  pub is : touch.object ≡ number
  pub changes : may_change touch.access ≡ true
  pub allowed : is_allowed touch.verdict ≡ true
  pub own : object.kind.mark ≡ Plain → (touch.active ≡ object.owner.context) ⊎ (touch.active ≡ runtime_context)

-- the objects that were there stay, and only those change that were accessed
pub record ChangesBy (touches : List Touch) (before after : Heap TaggedValue) : Type 0 where
  pub objects : KeepsObjects before after
  pub components : (number : ℕ) (o p : Object TaggedValue) → object_at before number ≡ Some o
      → object_at after number ≡ Some p → (p.cells ≡ o.cells) ⊎ IsAccessed touches number o

-- a step keeps the law of accesses, and makes those of its instruction; it changes frames and their owners only by
-- calls, returns and catches; what is thrown from it is caught by the nearest handler that catches it; and the objects
-- that were there stay
pub record IsLawfulStep (s : Surroundings Kept) (m : Machine Kept) : Type 0 where
  pub guarded : IsGuarded s m
  pub accesses : AccessesAreOwn s m
  pub frames : StepsOwned s m
  pub thrown : (number : ℕ) (o : Object TaggedValue) → object_at m.heap number ≡ Some o
      → UnwindsTo s m number (class_of o.kind.object_type) (settled s (Throws m number))
  pub kept : (after : Machine Kept) → machine_of (defensive_step s m).outcome ≡ Some after
      → KeepsObjects m.heap after.heap

-- each step of a command does, and each native member that the runtime itself calls
abbrev pub law_of_accesses : Claims
law_of_accesses = record {
  step = λ s m. IsLawfulStep s m;
  native = λ w call answer. IsGuardedAnswer meaning w call answer;
  write = λ heap number. ⊤;
}

-- the law of accesses for a command on a card: it consists of such parts, the packages stay, and only its accesses
-- change objects
pub record IsGuardedCommand {A : Type 0} (order : Order) (c : CardState) (l : Left A) : Type 0 where
  pub accesses : Leads law_of_accesses order c l.touches l.card
  pub packages : l.card.world ≡ c.world
  pub changes : ChangesBy l.touches c.heap l.card.heap

-- ---- plain objects

-- a step changes a plain object only if the context of its frame is that of the object's owner; a native member does so
-- only with the context as which it is called; and the runtime writes to no plain object
abbrev pub law_of_plain_objects : Claims
law_of_plain_objects = record {
  step = λ s m. (after : Machine Kept) → machine_of (defensive_step s m).outcome ≡ Some after
      → KeepsPlain m.top.active.context m.heap after.heap;
  native = λ w call answer. KeepsPlain call.active.context call.heap answer.heap;
  write = λ heap number. (o : Object TaggedValue) → object_at heap number ≡ Some o → o.kind.mark ≢ Plain;
}

-- a card on which only the runtime runs as the runtime: its packages are linked, and no instance is in the runtime's
-- context. No field, component or static field of it holds a reference to a temporary entry point or a global array,
-- except static fields to arrays of libraries
pub record IsApartCard (c : CardState) : Type 0 where
  pub packages : IsBuilt c.world.shapes
  pub objects : IsSetApart c.heap
  pub statics : FieldsHoldStorable c.heap c.statics
  pub instances : names_applets c.kept ≡ true

-- after a command the card still is such; and, part by part, plain objects change only in their own contexts, and by
-- clearing
pub record KeepsApart (order : Order) (c : CardState) (touches : List Touch) (after : CardState) : Type 0 where
  pub card : IsApartCard after
  pub plain : Leads law_of_plain_objects order c touches after

-- ---- clearing

-- each transient array is zero or null
abbrev pub AllCleared : Heap TaggedValue → Heap TaggedValue → Type 0
AllCleared before after = (number : ℕ) (o : Object TaggedValue) → object_at before number ≡ Some o
    → IsSome o.kind.clears → object_at after number ≡ Some (zeroed o)

-- ---- a load

-- a load leaves each object unchanged
abbrev pub LeavesObjects : Heap TaggedValue → Heap TaggedValue → Type 0
LeavesObjects before after = (number : ℕ) (o : Object TaggedValue) → object_at before number ≡ Some o
    → object_at after number ≡ Some o
