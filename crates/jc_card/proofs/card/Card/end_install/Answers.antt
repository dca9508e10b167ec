use Rattle.std.proofs.Common.{subst, sym, arith}
use Rattle.jc_natives.specs.Kept.{Kept, after_install}
use Rattle.jc_card.specs.Card.{with_kept}
use Rattle.jc_card.specs.Parts.{gives}
use Rattle.jc_card.specs.contracts.card.Card.{the_view}
use Rattle.jc_card.specs.Reads.{CardWords, GivesNothing, IsCard}
use Rattle.jc_card.proofs.Doing.{left_card}
use Rattle.jc_card.proofs.Keeping.{kept_changed}
use Rattle.jc_card.proofs.card.Card.end_install.Goals as goal

pub invariant_of-self : goal.invariant_of-self
invariant_of-self c =
    let k : CardWords = the_view c.self.inside in
    let card = c.self.invariant.card in
    let h = c.self.invariant.holds in
    subst (λ (x : Kept). IsCard (record k { kept = x })) (sym c.end_install.ensures)
    (left_card _ GivesNothing (gives (with_kept card (after_install card.kept c.args.succeeds)) tt)
    (kept_changed k card h (λ x. after_install x c.args.succeeds)
    (c.calls_keep_fitting.ensures.over card.world card.heap card.kept h.typed.beside.fits c.args.succeeds)))

pub returns : goal.returns
returns c card holds = grind (arith, kept_changed)
