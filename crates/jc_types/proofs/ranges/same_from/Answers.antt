use Rattle.std.proofs.Common.{arith}
use Rattle.jc_types.proofs.Ranging.{one_before}
use Rattle.jc_types.proofs.ranges.same_from.Goals as goal

pub loop-behind-preserved : goal.loop-behind-preserved
loop-behind-preserved c = grind (arith, one_before)
