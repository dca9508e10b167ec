use Rattle.jc_card.proofs.card.Card.choose.Goals as goal

pub returns : goal.returns
returns c card h = c.ask.ensures _ (c.set_selected.ensures card h).0
