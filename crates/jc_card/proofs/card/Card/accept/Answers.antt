use Rattle.std.proofs.Common.{ℕ, ◌<◌, sym, subst}
use Rattle.jc_link.specs.Linked.{World}
use Rattle.jc_card.specs.Commands.{deselect}
use Rattle.jc_card.specs.Install.{begin}
use Rattle.jc_card.specs.PrivateWords.{IsInstallPlace}
use Rattle.jc_card.specs.Reads.{CardWords, GivesNothing, Holds, ReadsInstalled}
use Rattle.jc_card.proofs.Doing.{then_done}
use Rattle.jc_card.proofs.Worlds.{deselect_stays, words_stay}
use Rattle.jc_card.proofs.card.Card.accept.Goals as goal

pub begin-requires : goal.begin-requires
begin-requires c =
    let card = c.self.invariant.card in
    let h = subst (λ (x : CardWords). Holds x card) c.self.view_is c.self.invariant.holds in
    let stays = words_stay c.args.self.now c.deselect.new.self GivesNothing card h (deselect card)
    (c.deselect.ensures card h) (deselect_stays c.calls_keep_numbers.ensures card) in
    record {
      place = subst (λ (w : World). IsInstallPlace w c.args.place) (sym stays.0) c.requires.place;
      few = c.requires.few;
      room = subst (λ (n : ℕ). n < 32) (sym stays.1) c.requires.room;
    }

pub returns : goal.returns
returns c card h =
    let a = c.args in
    then_done c.deselect.new.self c.begin.new.self GivesNothing (ReadsInstalled c.begin.result) (deselect card)
    (λ d u. begin d a.place a.applet.now a.instance.now a.incoming.now) (c.deselect.ensures card h)
    (λ d u i n. c.begin.ensures d i)
