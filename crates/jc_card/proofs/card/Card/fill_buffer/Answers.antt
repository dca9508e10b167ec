use Rattle.std.proofs.Common.{arith}
use Rattle.jc_card.proofs.card.Card.fill_buffer.Goals as goal

pub returns : goal.returns
returns c card h = grind arith
