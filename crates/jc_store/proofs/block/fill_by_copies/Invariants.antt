use Rattle.std.proofs.Common.{◌≡◌, ◌-◌, ◌<◌, ◌≤◌, ◌++◌, drop, length, replicate}
use Rattle.jc_store.proofs.block.fill_by_copies.Given as goal

abbrev pub invariant-loop-filled : goal.invariant-loop-filled
invariant-loop-filled l =
    (l.cells ≡ replicate l.filled l.word ++ drop l.filled l.fn.cells) × (l.filled ≤ length l.fn.cells) × (0 < l.filled)

abbrev pub decreases-loop-filled : goal.decreases-loop-filled
decreases-loop-filled l = length l.fn.cells - l.filled
