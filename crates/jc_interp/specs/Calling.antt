-- Calls by the runtime on words end as the defensive machine's calls (Java Card Runtime Environment Specification,
-- Applet lifetime).
use Rattle.std.specs.Prelude.{◌≡◌, ◌<◌, ℕ, Option, Some, length}
use Rattle.jc_link.specs.Linked.{World}
use Rattle.jc_program.specs.Called.{called_of}
use Rattle.jc_program.specs.Program.{IsProgramOf}
use Rattle.jc_entries.specs.declared.called.Called.{Called}
use Rattle.jc_program.specs.declared.program.Program.{Program}
use Rattle.jc_machine.specs.Accepted.{IsAccepted}
use Rattle.jc_machine.specs.Machine.{Limits, Natives, Surroundings}
use Rattle.jc_machine.specs.Reading.{HeapReads, Pointwise, Reads}
use Rattle.jc_machine.specs.Step.{Start, no_frame, runtime_call, standing}
use Rattle.jc_names.specs.declared.name.MethodName.{MethodName}
use Rattle.jc_safety.specs.Starting.{IsTypedStart, method_for}
use Rattle.jc_store.specs.Heap.{Heap, Object, object_at}
use Rattle.jc_store.specs.Store.{Store}
use Rattle.jc_words.specs.Values.{TaggedValue}
use Rattle.jc_interp.specs.Agree.{AgreeBeside, AreNumbered}
use Rattle.jc_interp.specs.Following.{EndsAs, WordState}
use Rattle.jc_interp.specs.declared.call.FirstCall.{FirstCall}
use Rattle.jc_interp.specs.declared.ends.RunEnd.{RunEnd}

-- a call on words begins with the same without tags: what is kept besides frames, the method, the owner, and the
-- arguments, which are fewer than 256
pub record ReadsStart {C : Type 0} (s : Surroundings C) (p : Program) (u : WordState C) (call : FirstCall)
    (start : Start C) : Type 0 where
  pub beside : AgreeBeside s p u.machine u.kept (standing start (no_frame start.owner))
  pub called : call.called ≡ called_of p.methods (Some start.method)
  pub owner : call.owner ≡ start.owner
  pub arguments : Pointwise Reads call.arguments.now start.arguments
  pub few : length call.arguments.now < 256

-- the call ends as each call of the defensive machine that the words read and that can begin, in an accepted world,
-- within any limits
abbrev pub IsCall : {C : Type 0} → World → Program → Natives C → Option ℕ → ℕ → FirstCall → WordState C → WordState C
    → RunEnd → Type 0
IsCall {C} w p natives selected steps call before after end = (limits : Limits) (start : Start C) → IsAccepted w
    → IsProgramOf w p
    → ReadsStart (record { world = w; natives = natives; limits = limits; selected = selected }) p before call start
    → IsTypedStart (record { world = w; natives = natives; limits = limits; selected = selected }) start
    → EndsAs (record { world = w; natives = natives; limits = limits; selected = selected }) p after end
    (runtime_call (record { world = w; natives = natives; limits = limits; selected = selected }) steps start).ends

-- a call that may be made on words: the world was accepted, the program is its own, and there is a call of the
-- defensive machine, within some limits, that can begin and that the words read
pub record MayCall {C : Type 0} (w : World) (p : Program) (natives : Natives C) (selected : Option ℕ)
    (call : FirstCall) (u : WordState C) : Type 0 where
  pub limits : Limits
  pub start : Start C
  pub accepted : IsAccepted w
  pub program : IsProgramOf w p
  pub reads : ReadsStart (record { world = w; natives = natives; limits = limits; selected = selected }) p u call start
  pub typed : IsTypedStart (record { world = w; natives = natives; limits = limits; selected = selected }) start

-- ---- virtual members of the API, called on an object

-- what the object's class has in place of the member, for all tagged objects that the words read, in an accepted world
abbrev pub IsMethodFor : Program → Store → ℕ → ℕ → Called → Type 0
IsMethodFor p store member number called = (w : World) (heap : Heap TaggedValue) (object : Object TaggedValue)
    (name : MethodName) → IsAccepted w → IsProgramOf w p → HeapReads store.objects heap → AreNumbered p.classes store
    → object_at heap number ≡ Some object → method_for w.shapes object member ≡ Some name
    → called ≡ called_of p.methods (Some name)
