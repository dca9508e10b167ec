use Rattle.std.proofs.Common.{◌≡◌, ◌++◌, drop, map}
use Rattle.jc_types.specs.Ty.{type_of_declared}
use Rattle.jc_check.proofs.package_method.put_parameters.Given as goal

abbrev pub invariant-loop-parameter : goal.invariant-loop-parameter
invariant-loop-parameter l = l.arguments.items ++ map type_of_declared (drop l.parameter-index l.parameters) ≡ l.fn.arguments.items ++ map type_of_declared l.parameters
