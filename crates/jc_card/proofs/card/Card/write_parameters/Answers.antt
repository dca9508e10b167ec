use Rattle.jc_card.proofs.Written.{has_parameters}
use Rattle.jc_card.proofs.card.Card.write_parameters.Goals as goal

pub write-requires : goal.write-requires
write-requires c = record { array = λ card h. has_parameters card h.typed _ c.requires.whole }
