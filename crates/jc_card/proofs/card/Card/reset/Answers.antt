use Rattle.jc_card.proofs.card.Card.reset.Goals as goal

pub returns-clause-done : goal.returns-clause-done
returns-clause-done c card h = c.clear-2.ensures _ (c.clear.ensures _ (c.set_selected.ensures card h).0).0
