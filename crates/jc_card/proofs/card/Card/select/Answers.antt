use Rattle.jc_card.specs.Commands.{choose, deselect}
use Rattle.jc_card.specs.Reads.{GivesNothing, ReadsResponse}
use Rattle.jc_card.proofs.Doing.{then_done}
use Rattle.jc_card.proofs.card.Card.select.Goals as goal

pub returns : goal.returns
returns c card h =
    then_done c.deselect.new.self c.choose.new.self GivesNothing (ReadsResponse c.choose.result) (deselect card)
    (λ d u. choose d c.args.owner c.args.command.now) (c.deselect.ensures card h) (λ d u i n. c.choose.ensures d i)
