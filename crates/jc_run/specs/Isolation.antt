-- Isolation. The objects of a context's applets have no influence on a run as long as none of its steps runs in that
-- context: on no access, no answer and no other object. Meanwhile these objects stay unchanged, except transient arrays
-- (Java Card Runtime Environment Specification, Applet Isolation and Object Sharing). A context's code runs only by a
-- call: jc_machine Owning states this for each step, and jc_card Order for each part of a command.
use Rattle.std.specs.Prelude.{◌≡◌, ℕ, true, List, None}
use Rattle.jc_card.specs.Answering.{AreAnswered}
use Rattle.jc_card.specs.Card.{CardState, with_heap}
use Rattle.jc_card.specs.Unseen.{KeepsContents}
use Rattle.jc_link.specs.Linked.{World}
use Rattle.jc_machine.specs.Apart.{is_applets}
use Rattle.jc_machine.specs.Machine.{NativeCall, Touch}
use Rattle.jc_machine.specs.Runtime.{HasRuntimeObjects}
use Rattle.jc_machine.specs.Unseen.{AreAlike, stays_out}
use Rattle.jc_natives.specs.Kept.{Kept}
use Rattle.jc_natives.specs.Meaning.{meaning}
use Rattle.jc_natives.specs.Remembered.{IsRemembered, KeepsAids}
use Rattle.jc_store.specs.Heap.{Heap}
use Rattle.jc_words.specs.Values.{TaggedValue}
use Rattle.jc_run.specs.Answer.{Answered}
use Rattle.jc_run.specs.CardRun.{IsCardRun}
use Rattle.jc_run.specs.Loading.{Loading}
use Rattle.jc_script.specs.Script.{ScriptCommand}

-- on a card with other objects, the same commands have the same answers, accesses and contexts of steps; and the card
-- after them differs only in components of the context's plain objects
pub record RunsAlike (loading : Loading) (context : ℕ) (commands : List ScriptCommand) (c : CardState)
    (heap : Heap TaggedValue) (answers : List Answered) (touches : List Touch) (ran : List ℕ)
    (after : CardState) : Type 0 where
  pub heap_behind : Heap TaggedValue
  pub alike : AreAlike context after.heap heap_behind
  pub run : IsCardRun loading commands (with_heap c heap) answers touches ran (with_heap after heap_behind)

-- for each context, and each run none of whose steps runs in it, from a card that is apart: on each card that differs
-- only in components of the context's plain objects it runs alike; and after it those of these objects that no event
-- clears have the components that they had. Native members change of the runtime's state, and return as AIDs, only what
-- jc_natives Remembered states; and where the runtime's own objects are there, a call by an applet leaves the AID
-- objects unchanged, except with register. An answer has what this command's call of process sent. Only installs that
-- succeed change the registered instances, and between commands none is being installed
pub record AreIsolated (apart : CardState → Type 0) (loading : Loading) : Type 0 where
  pub unseen : (context : ℕ) (commands : List ScriptCommand) (c : CardState) (answers : List Answered)
      (touches : List Touch) (ran : List ℕ) (after : CardState) → apart c
      → IsCardRun loading commands c answers touches ran after → stays_out context ran ≡ true
      → (heap : Heap TaggedValue) → AreAlike context c.heap heap
      → RunsAlike loading context commands c heap answers touches ran after
  pub kept : (context : ℕ) (commands : List ScriptCommand) (c : CardState) (answers : List Answered)
      (touches : List Touch) (ran : List ℕ) (after : CardState) → apart c
      → IsCardRun loading commands c answers touches ran after → stays_out context ran ≡ true
      → KeepsContents context c.heap after.heap
  pub members : (w : World) (call : NativeCall Kept) → IsRemembered call (meaning.answer w call)
  pub aids : (c : CardState) → apart c → (call : NativeCall Kept) → HasRuntimeObjects call.heap
      → is_applets call.active ≡ true → KeepsAids call (meaning.answer c.world call).heap
  pub answers : AreAnswered
  pub between : (commands : List ScriptCommand) (c : CardState) (answers : List Answered) (touches : List Touch)
      (ran : List ℕ) (after : CardState) → c.kept.installing ≡ None
      → IsCardRun loading commands c answers touches ran after → after.kept.installing ≡ None
