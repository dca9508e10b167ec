use Rattle.jc_card.specs.Card.{with_selected}
use Rattle.jc_card.specs.Parts.{gives}
use Rattle.jc_card.specs.contracts.card.Card.{the_view}
use Rattle.jc_card.specs.Reads.{CardWords, GivesNothing}
use Rattle.jc_card.proofs.Doing.{left_card}
use Rattle.jc_card.proofs.Selecting.{selected_done}
use Rattle.jc_card.proofs.card.Card.set_selected.Goals as goal

pub invariant_of-self : goal.invariant_of-self
invariant_of-self c =
    let i = c.self.inside in
    let k : CardWords = the_view i in
    let card = c.self.invariant.card in
    left_card (record k { selected = c.args.selected }) GivesNothing (gives (with_selected card c.args.selected) tt)
    (selected_done k card c.self.invariant.holds c.args.selected)
