use Rattle.std.proofs.Common.{List, ℕ, length, ap, refl, subst, sym, ◌∙◌}
use Rattle.jc_link.specs.Linked.{World}
use Rattle.jc_natives.specs.Kept.{with_install}
use Rattle.jc_card.specs.Card.{with_kept}
use Rattle.jc_card.specs.Install.{call_install, padded, parameters_of, settle}
use Rattle.jc_card.specs.Parts.{and_then, gives, write}
use Rattle.jc_card.specs.PrivateWords.{IsInstallPlace}
use Rattle.jc_card.specs.Reads.{CardWords, GivesNothing, Holds, IsDone, ReadsEnded, ReadsInstalled}
use Rattle.jc_card.proofs.Doing.{then_done}
use Rattle.jc_card.proofs.Worlds.{world_stays}
use Rattle.jc_card.proofs.card.Card.install_as.Goals as goal

pub returns : goal.returns
returns c card h =
    let a = c.args in
    let words = parameters_of a.instance.now a.incoming.now in
    let taken = (c.take_number.ensures card h).0 in
    let is = c.as_slice-bytes.ensures.value ∙ c.parameters_of-parameters.ensures.parameters in
    let written = c.padded.ensures.padded ∙ ap (padded 127) is in
    let size = ap (λ (xs : List ℕ). length xs) is in
    then_done c.write_parameters.new.self c.settle.new.self GivesNothing (ReadsInstalled c.settle.result)
    (write 13 (padded 127 words) (with_kept card (with_install card.kept a.owner a.applet.now)))
    (λ d u. and_then (call_install d a.place a.owner (length words)) (λ d e. settle d a.owner e))
    (subst (λ (bytes : List ℕ). IsDone c.write_parameters.new.self GivesNothing (write 13 bytes
    (with_kept card (with_install card.kept a.owner a.applet.now))))
    written (c.write_parameters.ensures _ taken))
    (λ d u i n. then_done c.call_install-ended.new.self c.settle.new.self (ReadsEnded c.call_install-ended.result)
    (ReadsInstalled c.settle.result) (call_install d a.place a.owner (length words)) (λ d e. settle d a.owner e)
    (subst (λ (n : ℕ). IsDone c.call_install-ended.new.self (ReadsEnded c.call_install-ended.result) (call_install d
    a.place a.owner n))
    size (c.call_install-ended.ensures d i))
    (λ d e i r. c.settle.ensures d e i r))

pub call_install-ended-requires : goal.call_install-ended-requires
call_install-ended-requires c =
    let a = c.args in
    let card = c.self.invariant.card in
    let h = subst (λ (x : CardWords). Holds x card) c.self.view_is c.self.invariant.holds in
    let taken = c.take_number.ensures card h in
    let next = with_kept card (with_install card.kept a.owner a.applet.now) in
    let first = world_stays c.args.self.now c.take_number.new.self GivesNothing card h
    (gives next tt) taken refl in
    let second = world_stays c.take_number.new.self c.write_parameters.new.self GivesNothing next taken.0
    (write 13 c.padded.result next) (c.write_parameters.ensures next taken.0) refl in
    record { place = subst (λ (w : World). IsInstallPlace w a.place) (sym first ∙ sym second) c.requires.place }
