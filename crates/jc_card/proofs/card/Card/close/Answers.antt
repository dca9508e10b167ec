use Rattle.std.proofs.Common.{subst, sym, arith}
use Rattle.jc_natives.specs.Kept.{Kept, without_command}
use Rattle.jc_card.specs.Card.{with_kept}
use Rattle.jc_card.specs.Parts.{gives}
use Rattle.jc_card.specs.contracts.card.Card.{the_view}
use Rattle.jc_card.specs.Reads.{CardWords, GivesNothing, IsCard}
use Rattle.jc_card.proofs.Doing.{left_card}
use Rattle.jc_card.proofs.Keeping.{kept_changed}
use Rattle.jc_card.proofs.card.Card.close.Goals as goal

pub invariant_of-self : goal.invariant_of-self
invariant_of-self c =
    let k : CardWords = the_view c.self.inside in
    let card = c.self.invariant.card in
    let h = c.self.invariant.holds in
    subst (λ (x : Kept). IsCard (record k { kept = x })) (sym c.close.ensures)
    (left_card _ GivesNothing (gives (with_kept card (without_command card.kept)) tt)
    (kept_changed k card h (λ x. without_command x)
    (c.calls_keep_fitting.ensures.closed card.world card.heap card.kept h.typed.beside.fits)))

pub returns : goal.returns
returns c card holds = grind (arith, kept_changed)
