-- A test that native members keep holds of what the runtime keeps behind each call.
use Rattle.std.proofs.Common.{◌≡◌, ℕ, zero, suc, Bool, true, cond, ◌∷◌, Option, Some, arith}
use Rattle.jc_cap.specs.declared.method_header.MethodHeader.{MethodHeader}
use Rattle.jc_classes.specs.Members.{DeclaredMethod}
use Rattle.jc_machine.specs.Guarded.{machine_of}
use Rattle.jc_machine.specs.Keeping.{LeavesKept, MembersKeep}
use Rattle.jc_machine.specs.Machine.{Machine, MethodPlace, NativeEnd, Outcome, Surroundings, last_denied}
use Rattle.jc_machine.specs.Natives.{AreNativesGuarded}
use Rattle.jc_machine.specs.Step.{CallEnd, Called, Start, begun, begun_by, continued, defensive_step, native_ended}
use Rattle.jc_machine.specs.Step.{native_started, point_of, room_lacking, runtime_call, started, started_by, steps_of}
use Rattle.jc_machine.specs.declared.stop.Budget.{Budget}
use Rattle.jc_machine.specs.declared.stop.CodePoint.{CodePoint}
use Rattle.jc_machine.specs.declared.stop.DeniedAccess.{DeniedAccess}
use Rattle.jc_names.specs.declared.name.MethodName.{MethodName}
use Rattle.jc_machine.proofs.GuardingSteps.{steps_keep_kept}

module _ {C : Type 0} (keeps : C → Bool) (s : Surroundings C) (natives : AreNativesGuarded s.natives)
    (members : MembersKeep keeps s.natives) where
  -- ---- steps

  continued_keeps : (n : ℕ)
      → ((m : Machine C) → keeps m.runtime ≡ true → LeavesKept keeps (steps_of s n m).ends)
      → (lacking : Budget) (at : Option CodePoint) (denied : Option DeniedAccess) (o : Outcome C)
      → ((after : Machine C) → machine_of o ≡ Some after → keeps after.runtime ≡ true)
      → LeavesKept keeps (continued lacking at denied (steps_of s n) o).ends
  continued_keeps n h1 lacking at denied o h2 = grind arith

  steps_keep : (n : ℕ) (m : Machine C) → keeps m.runtime ≡ true → LeavesKept keeps (steps_of s n m).ends
  unfolding steps_of
  steps_keep zero m now = now
  steps_keep (suc n) m now =
      continued_keeps n (steps_keep n) (room_lacking s (m.top ∷ m.waiting)) (Some (point_of m.top))
      (last_denied (defensive_step s m).touches) (defensive_step s m).outcome (steps_keep_kept keeps s natives members m now)

  -- ---- a call

  module _ (steps : ℕ) (start : Start C) (now : keeps start.runtime ≡ true) where
    either_called : (b : Bool) (c d : Called C) → LeavesKept keeps c.ends → LeavesKept keeps d.ends
        → LeavesKept keeps (cond b c d).ends
    either_called b c d h1 h2 = grind arith

    either_end : (b : Bool) (c d : CallEnd C) → LeavesKept keeps c → LeavesKept keeps d → LeavesKept keeps (cond b c d)
    either_end b c d h1 h2 = grind arith

    begun_keeps : (place : MethodPlace) (header : MethodHeader)
        → LeavesKept keeps (begun s steps start place header).ends
    begun_keeps place header = grind (arith, either_called, steps_keep)

    begun_by_keeps : (place : MethodPlace) (d : DeclaredMethod) (header : Option MethodHeader)
        → LeavesKept keeps (begun_by s steps start place d header).ends
    begun_by_keeps place d header = grind (arith, either_called, begun_keeps)

    started_keeps : (place : MethodPlace) (found : Option DeclaredMethod)
        → LeavesKept keeps (started s steps start place found).ends
    started_keeps place found = grind (arith, begun_by_keeps)

    native_ended_keeps : (m : Machine C) → keeps m.runtime ≡ true → (member : ℕ) (denied : Option DeniedAccess)
        (ends : NativeEnd) → LeavesKept keeps (native_ended s m member denied ends)
    native_ended_keeps m h1 member denied ends = grind (arith, either_end)

    native_started_keeps : (steps member : ℕ) → LeavesKept keeps (native_started s steps start member).ends
    native_started_keeps steps member = grind (arith, either_called, native_ended_keeps)

    started_by_keeps : (method : MethodName) → LeavesKept keeps (started_by s steps start method).ends
    started_by_keeps method = grind (arith, started_keeps, native_started_keeps)

    pub call_keeps : LeavesKept keeps (runtime_call s steps start).ends
    unfolding runtime_call
    call_keeps = started_by_keeps start.method
