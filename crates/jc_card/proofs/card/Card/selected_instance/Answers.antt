use Rattle.jc_card.specs.contracts.card.Card.{the_view}
use Rattle.jc_card.specs.Reads.{CardWords}
use Rattle.jc_card.proofs.Selecting.{found_fits}
use Rattle.jc_card.proofs.card.Card.selected_instance.Goals as goal

pub returns-clause-fits : goal.returns-clause-fits
returns-clause-fits c =
    let i = c.self.inside in
    let k : CardWords = the_view i in
    found_fits k c.in_ok-self.field-0 c.args.self.now c.self.view_is c.instance_of.result c.instance_of.ensures
