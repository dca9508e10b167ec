use Rattle.std.proofs.Common.{◌≡◌, ◌+◌, ◌++◌, length, vec_len, vec_capacity}
use Rattle.jc_classes.proofs.copying.methods_of.Given as goal

-- those that are copied and those that are left are all, and there is room for exactly these
abbrev pub invariant-loop-method : goal.invariant-loop-method
invariant-loop-method l =
    (l.copied.items ++ l.left ≡ l.class.methods)
    × (vec_len l.copied + length l.left ≡ length l.class.methods)
    × (vec_capacity l.copied ≡ length l.class.methods)

abbrev pub decreases-loop-method : goal.decreases-loop-method
decreases-loop-method l = length l.left
