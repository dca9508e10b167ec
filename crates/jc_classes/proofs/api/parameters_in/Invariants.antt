use Rattle.std.proofs.Common.{◌≡◌, map, take}
use Rattle.jc_base.specs.Signature.{type_map}
use Rattle.jc_classes.specs.Api.{spelled_in}
use Rattle.jc_classes.proofs.api.parameters_in.Given as goal

abbrev pub invariant-loop-at : goal.invariant-loop-at
invariant-loop-at l = l.spelled.items ≡ map (type_map (spelled_in l.binding l.which)) (take l.at l.types)
