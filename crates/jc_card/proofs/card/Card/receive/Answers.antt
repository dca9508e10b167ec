use Rattle.jc_card.specs.Command.{buffer_of}
use Rattle.jc_card.specs.Commands.{perform}
use Rattle.jc_card.specs.Parts.{write}
use Rattle.jc_card.specs.Reads.{GivesNothing, ReadsResponse}
use Rattle.jc_card.proofs.Doing.{then_done}
use Rattle.jc_card.proofs.card.Card.receive.Goals as goal

pub returns : goal.returns
returns c card h =
    let k = c.args.command.now in
    then_done c.fill_buffer.new.self c.perform.new.self GivesNothing (ReadsResponse c.perform.result)
    (write 12 (buffer_of k) card) (λ d u. perform d k) (c.fill_buffer.ensures card h)
    (λ d u i n. c.perform.ensures d i)
