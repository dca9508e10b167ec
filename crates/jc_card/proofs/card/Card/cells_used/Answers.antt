use Rattle.std.proofs.Common.{arith}
use Rattle.jc_card.proofs.Counting.{as_many_cells}
use Rattle.jc_card.proofs.card.Card.cells_used.Goals as goal

pub returns : goal.returns
returns c card holds = grind (arith, as_many_cells)
