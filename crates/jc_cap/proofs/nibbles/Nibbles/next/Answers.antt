use Rattle.std.proofs.Common.{arith}
use Rattle.jc_cap.proofs.Halves.{nibble-high, nibble-low, nibble-front}
use Rattle.jc_cap.proofs.nibbles.Nibbles.next.Goals as goal
use Rattle.jc_cap.proofs.nibbles.Nibbles.next.Goals.{then-self-eq0, else-self-eq0}

pub returns-clause-next : goal.returns-clause-next
returns-clause-next c = grind (arith, nibble-front, then-self-eq0, nibble-high, else-self-eq0, nibble-low)
