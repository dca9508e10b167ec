use Rattle.std.proofs.Common.{subst, sym, arith}
use Rattle.jc_card.specs.contracts.card.Card.{the_view}
use Rattle.jc_card.specs.Reads.{CardWords, Holds}
use Rattle.jc_card.proofs.Ends.{status_of_iso, status_of_none, status_of_other}
use Rattle.jc_card.proofs.card.Card.status_of_thrown.Goals as goal

pub returns-then-not-is_there : goal.returns-then-not-is_there
returns-then-not-is_there c card holds = grind (arith, status_of_none)

pub returns-then-is_iso_exception : goal.returns-then-is_iso_exception
returns-then-is_iso_exception c card holds =
    let k : CardWords = the_view c.self.inside in
    let h = subst (λ (x : CardWords). Holds x card) (sym c.self.view_is) holds in
    status_of_iso k card h c.args.object (c.is_there.ensures.yes c.if-not-is_there.false) c.is_iso_exception.result
    c.if-is_iso_exception.true (λ thrown found. c.is_iso_exception.ensures card thrown holds found)
    c.reason_of.result (λ thrown found. c.reason_of.ensures card thrown holds found)

pub returns-else-is_iso_exception : goal.returns-else-is_iso_exception
returns-else-is_iso_exception c card holds = grind (arith, status_of_other)
