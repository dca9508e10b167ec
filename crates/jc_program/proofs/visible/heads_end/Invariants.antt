use Rattle.std.proofs.Common.{◌≡◌, ℕ, ◌<◌, Some, slice_get}
use Rattle.jc_program.proofs.visible.heads_end.Given as goal

abbrev pub invariant-loop-head : goal.invariant-loop-head
invariant-loop-head l =
    (place n : ℕ) → place < l.head-index → slice_get l.heads place ≡ Some (Some n) → n < l.end
