use Rattle.std.proofs.Common.{◌≡◌}
use Rattle.jc_classes.specs.Api.{those_to, method_of}
use Rattle.jc_classes.proofs.api.methods_in.Given as goal

abbrev pub invariant-loop-before : goal.invariant-loop-before
invariant-loop-before l = l.methods.items ≡ those_to l.before (method_of l.binding l.class)
