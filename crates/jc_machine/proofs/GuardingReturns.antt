-- Returns keep the law of accesses.
use Rattle.std.proofs.Common.{◌≡◌, List, [], ◌∷◌, length, nat_lt, Option, Some, None, ℕ, refl, arith}
use Rattle.jc_machine.specs.Going.{StepContext}
use Rattle.jc_machine.specs.Machine.{Ends, Frame, Machine, Next, Stepped, Surroundings, Touch}
use Rattle.jc_machine.specs.Returns.{pc_behind_call, resumed, returns, returns_to, room_of, with_result}
use Rattle.jc_words.specs.Values.{TaggedValue}
use Rattle.jc_machine.proofs.Guarding.{KeepsLaw, at_check, at_some, stays}
use Rattle.jc_machine.proofs.StayingApart.{LeadsApart, are_applets, is_apart_itself, waiting_are_applets}

at_result : {C : Type 0} {around : Surroundings C} {m : Machine C} {before : List Touch} (h : StepContext C) (room : ℕ)
    (v : Option TaggedValue)
    (operands : List TaggedValue) (go : List TaggedValue → Stepped C)
    → ((operands : List TaggedValue) → KeepsLaw around m before (go operands))
    → KeepsLaw around m before (with_result h room v operands go)
at_result h room None operands go k = k operands
at_result h room (Some v) operands go k = search (arith, at_check, nat_lt, length)

-- the frame that waited is active as an applet
resumed_apart : {C : Type 0} (h : StepContext C) (f : Frame) (waiting : List Frame) (pc : ℕ) (operands : List TaggedValue)
    → h.machine.waiting ≡ f ∷ waiting → LeadsApart h.around h.machine (resumed h.machine f waiting pc operands)
resumed_apart h f waiting pc operands there = grind (arith, are_applets, waiting_are_applets)

returns_still : {C : Type 0} {before : List Touch} (h : StepContext C) (result : Option TaggedValue) (waiting : List Frame)
    → h.machine.waiting ≡ waiting → KeepsLaw h.around h.machine before (returns_to h result waiting)
returns_still h result [] there =
    stays (Ends h.machine result) h.machine refl refl (is_apart_itself h.around h.machine)
returns_still h result (f ∷ waiting) there =
    at_some (pc_behind_call h.around f) _ (λ pc e. at_some (room_of h.around f) _ (λ room d.
    at_result h room result f.operands _ (λ operands.
    stays (Next (resumed h.machine f waiting pc operands)) (resumed h.machine f waiting pc operands) refl refl
    (resumed_apart h f waiting pc operands there))))

pub at_returns : {C : Type 0} {before : List Touch} (h : StepContext C) (value : Option TaggedValue)
    → KeepsLaw h.around h.machine before (returns h value)
at_returns h value = search (arith, at_some, at_check, returns_still)
