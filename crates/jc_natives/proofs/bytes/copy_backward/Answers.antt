use Rattle.std.proofs.Common.{arith}
use Rattle.jc_natives.proofs.Ranges.{copied_back}
use Rattle.jc_natives.proofs.bytes.copy_backward.Goals as goal

pub loop-done-preserved : goal.loop-done-preserved
loop-done-preserved c = grind (arith, copied_back)
