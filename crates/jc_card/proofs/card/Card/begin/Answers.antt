use Rattle.std.proofs.Common.{arith}
use Rattle.jc_card.proofs.card.Card.begin.Goals as goal

pub returns : goal.returns
returns c card h = grind arith
