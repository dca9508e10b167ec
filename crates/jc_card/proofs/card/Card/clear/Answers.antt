use Rattle.std.proofs.Common.{sym, subst}
use Rattle.jc_card.specs.Parts.{clear}
use Rattle.jc_card.specs.contracts.card.Card.{the_view}
use Rattle.jc_card.specs.Reads.{CardWords, GivesNothing, Holds, IsCard, IsDone}
use Rattle.jc_card.proofs.Clearing.{clear_done}
use Rattle.jc_card.proofs.Doing.{left_card}
use Rattle.jc_store.specs.Store.{Store}
use Rattle.jc_card.proofs.card.Card.clear.Goals as goal

pub invariant_of-self : goal.invariant_of-self
invariant_of-self c =
    let i = c.self.inside in
    let k : CardWords = the_view i in
    let card = c.self.invariant.card in
    let now : Store → CardWords =
    λ x. record k { machine = record { store = x; frames = k.machine.frames; statics = k.machine.statics } } in
    subst (λ (x : Store). IsCard (now x)) (sym c.clear.ensures)
    (left_card _ GivesNothing (clear c.args.event c.args.context card)
    (clear_done c.args.event c.args.context c.law.ensures c.objects_stay_typed.ensures.zeroed k card
    c.self.invariant.holds))

pub returns : goal.returns
returns c card holds =
    let i = c.self.inside in
    let k : CardWords = the_view i in
    let h = subst (λ (x : CardWords). Holds x card) (sym c.self.view_is) holds in
    let now : Store → CardWords =
    λ x. record k { machine = record { store = x; frames = k.machine.frames; statics = k.machine.statics } } in
    subst (λ (x : Store). IsDone (now x) GivesNothing (clear c.args.event c.args.context card)) (sym c.clear.ensures)
    (clear_done c.args.event c.args.context c.law.ensures c.objects_stay_typed.ensures.zeroed k card h)
