use Rattle.std.proofs.Common.{◌≡◌, ◌++◌, length}
use Rattle.jc_classes.proofs.copying.exports_of.Given as goal

abbrev pub invariant-loop-row : goal.invariant-loop-row
invariant-loop-row l = l.copied.items ++ l.left ≡ l.from.shape.exports

abbrev pub decreases-loop-row : goal.decreases-loop-row
decreases-loop-row l = length l.left
