-- Private. The laws that keep cards typed, as records.
use Rattle.std.specs.Prelude.{◌≡◌, ◌<◌, ◌≤◌, ℕ, suc, Bool, List, Some, None, length, true}
use Rattle.jc_api.specs.Member.{ApiMember, member_of}
use Rattle.jc_api.specs.declared.class.ApiClass.TheVariants.{Object as ObjectClass}
use Rattle.jc_cap_desc.specs.Shape.{Shape}
use Rattle.jc_classes.specs.Limits.{IsSmall}
use Rattle.jc_classes.specs.Subtype.{IsOrder, IsOrderly, is_class_below}
use Rattle.jc_classes.specs.World.{superclass_of}
use Rattle.jc_link.specs.Built.{IsBuilt}
use Rattle.jc_link.specs.Linked.{World}
use Rattle.jc_link.specs.Sound.{IsSound}
use Rattle.jc_machine.specs.Calls.{type_of_member}
use Rattle.jc_machine.specs.Machine.{Machine, Surroundings}
use Rattle.jc_machine.specs.Natives.{IsLawful}
use Rattle.jc_machine.specs.Running.{MayRun}
use Rattle.jc_machine.specs.Step.{Start, no_frame, runtime_call, standing}
use Rattle.jc_machine.specs.Typed.{IsTypedBeside}
use Rattle.jc_names.specs.declared.name.ClassName.TheVariants.{Api}
use Rattle.jc_names.specs.declared.owner.Owner.{Owner}
use Rattle.jc_natives.specs.Counted.{LeavesNumbers}
use Rattle.jc_natives.specs.Kept.{Kept, after_install, are_bytes, is_aid, with_command, with_install, without_command}
use Rattle.jc_natives.specs.Meaning.{meaning}
use Rattle.jc_natives.specs.MemberTypes.{declared_signature}
use Rattle.jc_safety.specs.Safety.{EndsTyped}
use Rattle.jc_safety.specs.Starting.{FindsMethod, IsMemberCall, IsTypedStart}
use Rattle.jc_safety.specs.Zeroing.{with_heap as machine_with_heap, zeroed_where}
use Rattle.jc_store.specs.Heap.{Heap, Object, object_at, with_cell, with_object}
use Rattle.jc_store.specs.declared.kind.ObjectType.TheVariants.{ByteArray}
use Rattle.jc_words.specs.Values.{TaggedValue, Word}

-- ---- calls

-- the laws of each call
pub record CallLaws : Type 0 where
  pub lawful : IsLawful meaning
  pub calls : (s : Surroundings Kept) → MayRun s → (steps : ℕ) (start : Start Kept) → IsTypedStart s start
      → EndsTyped s (runtime_call s steps start).ends

-- the laws of a call of an applet
pub record Laws : Type 0 where
  pub sound : (world : List Shape) → IsSmall world → IsBuilt world → IsSound world
  pub order : (world : List Shape) → IsOrderly world → superclass_of world (Api ObjectClass) ≡ None
      → IsOrder (is_class_below world)
  pub call : CallLaws
  pub declared : (world : List Shape) → IsBuilt world → (number : ℕ) (member : ApiMember)
      → member_of number ≡ Some member → type_of_member world number ≡ Some (declared_signature member)
  pub members : (s : Surroundings Kept) → MayRun s → (start : Start Kept)
      → IsTypedBeside s (standing start (no_frame start.owner)) → (member : ℕ) (object : Object TaggedValue)
      → IsMemberCall s start member object → FindsMethod s start member object

-- ---- writes, clearing and the state of the runtime

-- writing a byte to an array of bytes leaves all typed
abbrev pub KeepsTyped : Type 0
KeepsTyped = (s : Surroundings Kept) → MayRun s → (m : Machine Kept) → IsTypedBeside s m
    → (number index byte : ℕ) (object : Object TaggedValue) → object_at m.heap number ≡ Some object
    → object.kind.object_type ≡ ByteArray → byte < 256
    → IsTypedBeside s (machine_with_heap m (with_object m.heap number (with_cell object index (Word byte))))

-- clearing the objects that pass any test leaves all typed
abbrev pub ZeroedTyped : Type 0
ZeroedTyped = (s : Surroundings Kept) → MayRun s → (m : Machine Kept) → IsTypedBeside s m
    → (test : Object TaggedValue → Bool) → IsTypedBeside s (machine_with_heap m (zeroed_where test m.heap))

-- an instance with the next number is being installed
abbrev pub BeginsFitting : Type 0
BeginsFitting = (w : World) (heap : Heap TaggedValue) (kept : Kept) → meaning.fits w heap kept ≡ true
    → (owner : Owner) (aid : List ℕ) → is_aid aid ≡ true → owner.instance ≡ suc kept.numbers → kept.numbers < 32
    → meaning.fits w heap (with_install kept owner aid) ≡ true

-- a call assigns no instance number
abbrev pub KeepNumbers : Type 0
KeepNumbers = (s : Surroundings Kept) → s.natives ≡ meaning → (steps : ℕ) (start : Start Kept)
    → LeavesNumbers start.runtime.numbers (runtime_call s steps start).ends

-- ---- commands

-- the laws of each command: of calls, of the runtime's work on objects, and of its state
pub record CommandLaws : Type 0 where
  pub applets : Laws
  pub byte : KeepsTyped
  pub zeroed : ZeroedTyped
  pub numbers : KeepNumbers
  pub begun : BeginsFitting
  pub over : (w : World) (heap : Heap TaggedValue) (k : Kept) → meaning.fits w heap k ≡ true → (succeeds : Bool)
      → meaning.fits w heap (after_install k succeeds) ≡ true
  pub opened : (w : World) (heap : Heap TaggedValue) (k : Kept) → meaning.fits w heap k ≡ true
      → (incoming : List ℕ) (expected : ℕ) (selecting : Bool) → are_bytes incoming ≡ true → length incoming ≤ 255
      → expected < 256 → meaning.fits w heap (with_command k incoming expected selecting) ≡ true
  pub closed : (w : World) (heap : Heap TaggedValue) (k : Kept) → meaning.fits w heap k ≡ true
      → meaning.fits w heap (without_command k) ≡ true
