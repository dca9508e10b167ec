use Rattle.std.proofs.Common.{◌≡◌, ◌++◌, length}
use Rattle.jc_classes.proofs.copying.fields_of.Given as goal

abbrev pub invariant-loop-field : goal.invariant-loop-field
invariant-loop-field l = l.copied.items ++ l.left ≡ l.class.fields

abbrev pub decreases-loop-field : goal.decreases-loop-field
decreases-loop-field l = length l.left
