-- Operands of a state as the slots hold them.
use Rattle.std.proofs.Common.{◌≡◌, ℕ, ◌-◌, ◌≤◌, List, length, take, drop, reverse, Ok, Err, Bool, false, cond, nat_lt, refl, arith}
use Rattle.std.proofs.lemmas.Bool.{le-ltb}
use Rattle.std.proofs.lemmas.List.{length-reverse, length-take-le, drop-take}
use Rattle.jc_base.specs.declared.reason.Reason.TheVariants.{WrongType}
use Rattle.jc_base.proofs.StackViews.{dropped, topmost}
use Rattle.jc_names.specs.declared.name.ClassName.{ClassName}
use Rattle.jc_types.specs.declared.ty.Ty.{Ty}
use Rattle.jc_types.specs.State.{Types, all_below}
use Rattle.jc_types.specs.Changes.{with_operands, drop_types, take_types}

abbrev pub state_of : List Ty → ℕ → List Ty → Types
state_of locals depth slots = record { locals = locals; operands = reverse (take depth slots) }

deep : (slots : List Ty) (depth count : ℕ) → count ≤ depth → depth ≤ length slots → nat_lt (length (reverse (take depth slots))) count ≡ false
deep slots depth count le within = grind (arith, reverse, length-reverse, length-take-le, le-ltb)

pub drops : (locals slots : List Ty) (depth count : ℕ) → count ≤ depth → depth ≤ length slots → drop_types count (state_of locals depth slots) ≡ Ok (state_of locals (depth - count) slots)
unfolding drop_types
drops locals slots depth count le within = rw (deep slots depth count le within, dropped slots depth count le within) refl

-- the slots that hold the operands of the wanted types
window : (slots : List Ty) (depth count : ℕ) → count ≤ depth → take (depth - (depth - count)) (drop (depth - count) slots) ≡ drop (depth - count) (take depth slots)
window slots depth count le = grind (arith, drop-take)

within_depth : (slots : List Ty) (depth count : ℕ) → count ≤ length (reverse (take depth slots)) → depth ≤ length slots → count ≤ depth
within_depth slots depth count le within = grind (arith, reverse, length-reverse, length-take-le)

-- the operands without the top ones, and the top ones, as the slots hold them
pub shallower : (locals slots : List Ty) (depth count : ℕ) → count ≤ length (reverse (take depth slots)) → depth ≤ length slots
    → state_of locals (depth - count) slots ≡ with_operands (state_of locals depth slots) (drop count (reverse (take depth slots)))
shallower locals slots depth count le within = rw (dropped slots depth count (within_depth slots depth count le within) within) refl

pub on_top : (slots : List Ty) (depth count : ℕ) → count ≤ length (reverse (take depth slots)) → depth ≤ length slots
    → take (depth - (depth - count)) (drop (depth - count) slots) ≡ reverse (take count (reverse (take depth slots)))
on_top slots depth count le within = search (arith, within_depth, window, topmost)

pub takes : (below : ClassName → ClassName → Bool) (locals slots wanted : List Ty) (depth : ℕ) (b : Bool) → length wanted ≤ depth → depth ≤ length slots → b ≡ all_below below (take (depth - (depth - length wanted)) (drop (depth - length wanted) slots)) wanted
    → take_types below wanted (state_of locals depth slots) ≡ cond b (Ok (state_of locals (depth - length wanted) slots)) (Err WrongType)
unfolding take_types
takes below locals slots wanted depth b le within e = grind (arith, reverse, topmost, window, deep, dropped)
