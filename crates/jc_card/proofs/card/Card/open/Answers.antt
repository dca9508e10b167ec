use Rattle.std.proofs.Common.{subst, sym, arith}
use Rattle.jc_natives.specs.Kept.{Kept, with_command}
use Rattle.jc_card.specs.Card.{with_kept}
use Rattle.jc_card.specs.Parts.{gives}
use Rattle.jc_card.specs.contracts.card.Card.{the_view}
use Rattle.jc_card.specs.Reads.{CardWords, GivesNothing, Holds, IsCard, IsDone}
use Rattle.jc_card.proofs.Doing.{left_card}
use Rattle.jc_card.proofs.Keeping.{kept_changed}
use Rattle.jc_card.proofs.card.Card.open.Goals as goal

pub invariant_of-self : goal.invariant_of-self
invariant_of-self c =
    let k : CardWords = the_view c.self.inside in
    let card = c.self.invariant.card in
    let h = c.self.invariant.holds in
    let change : Kept → Kept = λ x. with_command x c.args.incoming.now c.args.expected c.args.selecting in
    subst (λ (x : Kept). IsCard (record k { kept = x })) (sym c.open.ensures)
    (left_card _ GivesNothing (gives (with_kept card (change card.kept)) tt)
    (kept_changed k card h change (c.calls_keep_fitting.ensures.opened card.world card.heap card.kept
    h.typed.beside.fits
    c.args.incoming.now c.args.expected c.args.selecting c.bytes_are_low.ensures c.requires.few (omega (
      arith,
      c.ranges.expected,
    )))))

pub returns : goal.returns
returns c card holds =
    let k : CardWords = the_view c.self.inside in
    let h = subst (λ (x : CardWords). Holds x card) (sym c.self.view_is) holds in
    let change : Kept → Kept = λ x. with_command x c.args.incoming.now c.args.expected c.args.selecting in
    subst (λ (x : Kept). IsDone (record k { kept = x }) GivesNothing (gives (with_kept card (change card.kept)) tt))
    (sym c.open.ensures)
    (kept_changed k card h change (c.calls_keep_fitting.ensures.opened card.world card.heap card.kept
    h.typed.beside.fits
    c.args.incoming.now c.args.expected c.args.selecting c.bytes_are_low.ensures c.requires.few (omega (
      arith,
      c.ranges.expected,
    ))))
