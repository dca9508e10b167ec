use Rattle.jc_card.specs.Card.{with_steps}
use Rattle.jc_card.specs.contracts.card.Card.{the_view}
use Rattle.jc_card.specs.Reads.{CardWords}
use Rattle.jc_card.proofs.Selecting.{steps_held}
use Rattle.jc_card.proofs.card.Card.set_steps.Goals as goal

pub invariant_of-self : goal.invariant_of-self
invariant_of-self c =
    let k : CardWords = the_view c.self.inside in
    record {
      card = with_steps c.self.invariant.card c.args.steps;
      holds = steps_held k c.self.invariant.card c.self.invariant.holds c.args.steps;
    }
