use Rattle.std.proofs.Common.{arith}
use Rattle.jc_cap.proofs.Halves.{none-left}
use Rattle.jc_cap.proofs.nibbles.Nibbles.is_empty.Goals as goal

pub returns : goal.returns
returns c = rw (← c.self.view_is) (none-left c.self.inside.at c.self.inside.end c.self.inside.bytes.now (omega arith) (omega arith))
