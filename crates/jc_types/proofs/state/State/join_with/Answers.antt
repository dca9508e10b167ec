use Rattle.std.proofs.Common.{arith}
use Rattle.jc_types.proofs.Joining.{in_place, operands_in_place}
use Rattle.jc_types.proofs.state.State.join_with.Goals as goal

pub returns-clause-types : goal.returns-clause-types
returns-clause-types c = grind (arith, in_place, operands_in_place)
