use Rattle.std.proofs.Common.{arith}
use Rattle.jc_card.proofs.Ends.{reason_is}
use Rattle.jc_card.proofs.card.Card.reason_of.Goals as goal

pub returns : goal.returns
returns c card thrown holds found = grind (arith, reason_is)
