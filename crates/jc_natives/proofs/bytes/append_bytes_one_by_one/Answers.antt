use Rattle.std.proofs.Common.{arith}
use Rattle.jc_natives.proofs.Ranges.{appended}
use Rattle.jc_natives.proofs.bytes.append_bytes_one_by_one.Goals as goal

pub loop-at-preserved : goal.loop-at-preserved
loop-at-preserved c = grind (arith, appended)
