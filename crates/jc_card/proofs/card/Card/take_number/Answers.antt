use Rattle.std.proofs.Common.{◌≡◌, ◌<◌, suc, subst, sym, arith}
use Rattle.jc_natives.specs.Kept.{Kept, with_install}
use Rattle.jc_card.specs.Card.{with_kept}
use Rattle.jc_card.specs.Parts.{gives}
use Rattle.jc_card.specs.contracts.card.Card.{the_view}
use Rattle.jc_card.specs.Reads.{CardWords, GivesNothing, IsCard}
use Rattle.jc_card.proofs.Doing.{left_card}
use Rattle.jc_card.proofs.Keeping.{number_taken}
use Rattle.jc_card.proofs.card.Card.take_number.Goals as goal

pub invariant_of-self : goal.invariant_of-self
invariant_of-self c =
    let k : CardWords = the_view c.self.inside in
    let card = c.self.invariant.card in
    let h = c.self.invariant.holds in
    let next = subst (λ (x : CardWords). c.args.owner.instance ≡ suc x.kept.numbers) (sym c.self.view_is)
    c.requires.next in
    let room = subst (λ (x : CardWords). x.kept.numbers < 32) (sym c.self.view_is) c.requires.room in
    subst (λ (x : Kept). IsCard (record k { kept = x })) (sym c.begin_install.ensures)
    (left_card _ GivesNothing
    (gives (with_kept card (with_install card.kept c.args.owner c.args.applet)) tt)
    (number_taken k card h c.calls_keep_fitting.ensures.begun c.args.owner c.args.applet c.aids_are_fit.ensures next
    room))

pub returns : goal.returns
returns c card holds = grind (arith, number_taken)
