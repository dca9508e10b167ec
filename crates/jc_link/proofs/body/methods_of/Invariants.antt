use Rattle.std.proofs.Common.{◌≡◌, ◌++◌, length}
use Rattle.jc_link.proofs.body.methods_of.Given as goal

abbrev pub invariant-loop-method : goal.invariant-loop-method
invariant-loop-method l = l.methods.items ++ l.left ≡ l.from.body.methods

abbrev pub decreases-loop-method : goal.decreases-loop-method
decreases-loop-method l = length l.left
