use Rattle.std.proofs.Common.{ℕ, ◌<◌, List, [], ◌∷◌, length, refl, subst, sym, ◌∙◌, arith}
use Rattle.jc_interp.specs.declared.call.FirstCall.{FirstCall}
use Rattle.jc_link.specs.Linked.{World}
use Rattle.jc_names.specs.declared.name.MethodName.{MethodName}
use Rattle.jc_names.specs.declared.name.MethodName.TheVariants.{Loaded}
use Rattle.jc_words.specs.Values.{Ref, TaggedValue, Word}
use Rattle.jc_card.specs.Install.{call_install}
use Rattle.jc_card.specs.PrivateWords.{IsInstallPlace}
use Rattle.jc_card.specs.contracts.card.Card.{the_view}
use Rattle.jc_card.specs.Reads.{CardWords, Holds, ReadsEnded}
use Rattle.jc_card.proofs.Calling.{may_call, method_called}
use Rattle.jc_card.proofs.Doing.{left_card}
use Rattle.jc_card.proofs.Installing.{can_begin, words_read}
use Rattle.jc_card.specs.PrivateTyped.{CallLaws}
use Rattle.jc_card.proofs.card.Card.call_install.Goals as goal

pub call-requires : goal.call-requires
call-requires c =
    let laws : CallLaws =
    record { lawful = c.law.ensures; calls = c.accepted_packages_are_type_safe.ensures.calls } in
    let a = c.args in
    let k : CardWords = the_view c.self.inside in
    let first : FirstCall =
    record { called = c.called_at-called.result; owner = a.owner; arguments = c.as_slice.result } in
    let words = c.as_slice.ensures.value ∙ c.install_words-words.ensures.words in
    let read = words_read a.size c.as_slice.result.now words in
    let few = subst (λ (ws : List ℕ). length ws < 256) (sym c.as_slice.ensures.value)
    c.install_words-words.ensures.few in
    let name : MethodName = Loaded a.place.number a.place.install in
    let values : List TaggedValue = Ref 13 ∷ Word 0 ∷ Word a.size ∷ [] in
    let card = c.self.invariant.card in
    let h = c.self.invariant.holds in
    let known = subst (λ (w : World). IsInstallPlace w a.place) (subst (λ (x : CardWords). Holds x card)
    c.self.view_is h).world c.requires.place in
    let can = can_begin card h.typed a.place a.owner a.size (omega (arith, c.ranges.size)) known
    c.built_worlds_are_sound.ensures in
    record {
      may_call =
          may_call laws k card h a.owner.context a.owner name values can first c.called_at-called.ensures refl read few;
    }

pub returns : goal.returns
returns c card holds =
    let laws : CallLaws =
    record { lawful = c.law.ensures; calls = c.accepted_packages_are_type_safe.ensures.calls } in
    let a = c.args in
    let k : CardWords = the_view c.self.inside in
    let first : FirstCall =
    record { called = c.called_at-called.result; owner = a.owner; arguments = c.as_slice.result } in
    let words = c.as_slice.ensures.value ∙ c.install_words-words.ensures.words in
    let read = words_read a.size c.as_slice.result.now words in
    let few = subst (λ (ws : List ℕ). length ws < 256) (sym c.as_slice.ensures.value)
    c.install_words-words.ensures.few in
    let name : MethodName = Loaded a.place.number a.place.install in
    let values : List TaggedValue = Ref 13 ∷ Word 0 ∷ Word a.size ∷ [] in
    let h = subst (λ (x : CardWords). Holds x card) (sym c.self.view_is) holds in
    let known = subst (λ (w : World). IsInstallPlace w a.place) holds.world c.requires.place in
    let can = can_begin card h.typed a.place a.owner a.size (omega (arith, c.ranges.size)) known
    c.built_worlds_are_sound.ensures in
    let after : CardWords = record k { machine = c.call.new.self; kept = c.call.new.natives } in
    method_called laws k card h a.owner.context a.owner name values can first c.called_at-called.ensures refl read few
    after c.call.result c.call.ensures.call c.call.ensures.dropped refl refl refl refl refl refl

pub invariant_of-self : goal.invariant_of-self
invariant_of-self c =
    let after : CardWords =
    record (the_view c.self.inside) { machine = c.call.new.self; kept = c.call.new.natives } in
    let card = c.self.invariant.card in
    left_card after (ReadsEnded c.call.result) (call_install card c.args.place c.args.owner c.args.size)
    (returns c card (subst (λ (x : CardWords). Holds x card) c.self.view_is c.self.invariant.holds))
