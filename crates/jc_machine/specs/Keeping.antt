-- Only native members change what the runtime keeps: a test that they preserve still holds after each call.
use Rattle.std.specs.Prelude.{⊤, ◌≡◌, Bool, true}
use Rattle.jc_link.specs.Linked.{World}
use Rattle.jc_machine.specs.Machine.{NativeCall, Natives}
use Rattle.jc_machine.specs.Step.{CallEnd, Gave, RanOut, Threw, WasStuck}

-- if what the runtime keeps passes a test, it still does after each native member
abbrev pub MembersKeep : {C : Type 0} → (C → Bool) → Natives C → Type 0
MembersKeep {C} keeps natives =
    (w : World) (call : NativeCall C) → keeps call.runtime ≡ true → keeps (natives.answer w call).runtime ≡ true

-- what the runtime keeps after a call passes the test, unless the machine got stuck
abbrev pub LeavesKept : {C : Type 0} → (C → Bool) → CallEnd C → Type 0
LeavesKept keeps (Gave m value) = keeps m.runtime ≡ true
LeavesKept keeps (Threw m object at denied) = keeps m.runtime ≡ true
LeavesKept keeps (RanOut m spent at) = keeps m.runtime ≡ true
LeavesKept keeps WasStuck = ⊤
