use Rattle.std.proofs.Common.{◌≡◌, ℕ, ◌||◌, drop}
use Rattle.jc_base.specs.NumberSet.{has_number}
use Rattle.jc_check.specs.Checked.{has_code_at}
use Rattle.jc_check.proofs.states.code_offsets.Given as goal

-- an offset is in the set or stands among the methods that are left where it stands among all
abbrev pub invariant-loop-method : goal.invariant-loop-method
invariant-loop-method l = (offset : ℕ) → (has_number l.offsets offset || has_code_at (drop l.method-index l.methods) offset) ≡ has_code_at l.methods offset
