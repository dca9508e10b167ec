use Rattle.std.proofs.Common.{subst, sym, arith}
use Rattle.jc_card.specs.contracts.card.Card.{the_view}
use Rattle.jc_card.specs.Reads.{CardWords, Holds}
use Rattle.jc_card.proofs.Causing.{its_denial, no_denial}
use Rattle.jc_card.proofs.card.Card.denial_in.Goals as goal

pub returns-then-not-is_there : goal.returns-then-not-is_there
returns-then-not-is_there c card holds = grind (arith, no_denial)

pub returns : goal.returns
returns c card holds =
    let k : CardWords = the_view c.self.inside in
    let h = subst (λ (x : CardWords). Holds x card) (sym c.self.view_is) holds in
    its_denial k card h c.args.denied (c.is_there.ensures.yes c.if-not-is_there.false) c.owner_of.result
    c.owner_of.ensures
