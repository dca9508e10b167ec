use Rattle.std.proofs.Common.{arith}
use Rattle.jc_natives.proofs.Putting.{put_past}
use Rattle.jc_natives.proofs.cells.put.Goals as goal

pub returns-else-index-from : goal.returns-else-index-from
returns-else-index-from c = grind (arith, put_past)
