use Rattle.std.proofs.Common.{◌≡◌, ◌++◌, length}
use Rattle.jc_classes.proofs.copying.classes_of.Given as goal

abbrev pub invariant-loop-class : goal.invariant-loop-class
invariant-loop-class l = l.copied.items ++ l.left ≡ l.from.shape.classes

abbrev pub decreases-loop-class : goal.decreases-loop-class
decreases-loop-class l = length l.left
