use Rattle.std.proofs.Common.{◌≡◌}
use Rattle.jc_classes.specs.Api.{those_to, class_shape_of}
use Rattle.jc_classes.proofs.api.classes_in.Given as goal

abbrev pub invariant-loop-before : goal.invariant-loop-before
invariant-loop-before l = l.classes.items ≡ those_to l.before (class_shape_of l.binding l.which)
