use Rattle.std.proofs.Common.{◌≡◌, ◌++◌, length}
use Rattle.jc_link.proofs.body.arrays_of.Given as goal

abbrev pub invariant-loop-array : goal.invariant-loop-array
invariant-loop-array l = l.arrays.items ++ l.left ≡ l.from.arrays

abbrev pub decreases-loop-array : goal.decreases-loop-array
decreases-loop-array l = length l.left
