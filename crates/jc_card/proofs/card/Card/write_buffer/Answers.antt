use Rattle.jc_card.proofs.Written.{has_buffer}
use Rattle.jc_card.proofs.card.Card.write_buffer.Goals as goal

pub write-requires : goal.write-requires
write-requires c = record { array = λ card h. has_buffer card h.typed _ c.requires.whole }
