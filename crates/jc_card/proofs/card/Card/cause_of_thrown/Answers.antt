use Rattle.std.proofs.Common.{subst, sym}
use Rattle.jc_card.specs.contracts.card.Card.{the_view}
use Rattle.jc_card.specs.Reads.{CardWords, Holds}
use Rattle.jc_card.proofs.Causing.{its_cause, no_cause}
use Rattle.jc_card.proofs.card.Card.cause_of_thrown.Goals as goal

pub returns-then-not-is_there : goal.returns-then-not-is_there
returns-then-not-is_there c card holds =
    let k : CardWords = the_view c.self.inside in
    let h = subst (λ (x : CardWords). Holds x card) (sym c.self.view_is) holds in
    no_cause k card h c.args.object c.args.at c.args.denied (c.is_there.ensures.no c.if-not-is_there.true)

pub returns : goal.returns
returns c card holds =
    let k : CardWords = the_view c.self.inside in
    let h = subst (λ (x : CardWords). Holds x card) (sym c.self.view_is) holds in
    its_cause k card h c.args.object c.args.at c.args.denied
    (c.is_there.ensures.yes c.if-not-is_there.false) c.kind_of.result c.kind_of.ensures c.reason_of.result
    (λ thrown found. c.reason_of.ensures card thrown holds found) c.any_denial.result
    (c.any_denial.ensures card holds)
