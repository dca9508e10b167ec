use Rattle.std.proofs.Common.{ℕ, ◌<◌, List, length, refl, subst, sym, ◌∙◌}
use Rattle.jc_interp.specs.Calling.{IsMethodFor}
use Rattle.jc_interp.specs.declared.call.FirstCall.{FirstCall}
use Rattle.jc_card.specs.Parts.{call_applet}
use Rattle.jc_card.specs.contracts.card.Card.{the_view}
use Rattle.jc_card.specs.Reads.{CardWords, Holds, ReadsEnded}
use Rattle.jc_card.proofs.AppletCalls.{applet_called, may_call}
use Rattle.jc_card.proofs.Doing.{left_card}
use Rattle.jc_card.specs.PrivateTyped.{Laws}
use Rattle.jc_card.proofs.card.Card.call_applet.Goals as goal

pub call-requires : goal.call-requires
call-requires c =
    let laws : Laws = record {
      sound = c.built_worlds_are_sound.ensures;
      order = c.superclass_laws.ensures.order;
      call = record { lawful = c.law.ensures; calls = c.accepted_packages_are_type_safe.ensures.calls };
      declared = c.members_are_declared.ensures;
      members = c.accepted_packages_are_type_safe.ensures.members;
    } in
    let i = c.self.inside in
    let k : CardWords = the_view i in
    let first : FirstCall =
    record { called = c.method_for-called.result; owner = c.args.instance.owner; arguments = c.as_slice.result } in
    let called = subst (λ (n : ℕ). IsMethodFor i.program i.machine.store n c.args.instance.object
    c.method_for-called.result) c.member_called.ensures c.method_for-called.ensures in
    let words = c.as_slice.ensures.value ∙ c.call_words-words.ensures.words in
    let few = subst (λ (ws : List ℕ). length ws < 256) (sym c.as_slice.ensures.value) c.call_words-words.ensures.few in
    let card = c.self.invariant.card in
    let h = c.self.invariant.holds in
    let fits = c.requires.fits card (subst (λ (x : CardWords). Holds x card) c.self.view_is h) in
    record { may_call = may_call laws k card h c.args.instance c.args.call fits first called refl words few }

pub invariant_of-self : goal.invariant_of-self
invariant_of-self c =
    let laws : Laws = record {
      sound = c.built_worlds_are_sound.ensures;
      order = c.superclass_laws.ensures.order;
      call = record { lawful = c.law.ensures; calls = c.accepted_packages_are_type_safe.ensures.calls };
      declared = c.members_are_declared.ensures;
      members = c.accepted_packages_are_type_safe.ensures.members;
    } in
    let i = c.self.inside in
    let k : CardWords = the_view i in
    let first : FirstCall =
    record { called = c.method_for-called.result; owner = c.args.instance.owner; arguments = c.as_slice.result } in
    let called = subst (λ (n : ℕ). IsMethodFor i.program i.machine.store n c.args.instance.object
    c.method_for-called.result) c.member_called.ensures c.method_for-called.ensures in
    let words = c.as_slice.ensures.value ∙ c.call_words-words.ensures.words in
    let few = subst (λ (ws : List ℕ). length ws < 256) (sym c.as_slice.ensures.value) c.call_words-words.ensures.few in
    let after : CardWords = record k { machine = c.call.new.self; kept = c.call.new.natives } in
    let card = c.self.invariant.card in
    let h = c.self.invariant.holds in
    let fits = c.requires.fits card (subst (λ (x : CardWords). Holds x card) c.self.view_is h) in
    left_card after (ReadsEnded c.call.result) (call_applet card c.args.instance c.args.call)
    (applet_called laws k card h c.args.instance c.args.call fits first called refl words few after
    c.call.result c.call.ensures.call c.call.ensures.dropped refl refl refl refl refl refl)

pub returns : goal.returns
returns c card holds =
    let laws : Laws = record {
      sound = c.built_worlds_are_sound.ensures;
      order = c.superclass_laws.ensures.order;
      call = record { lawful = c.law.ensures; calls = c.accepted_packages_are_type_safe.ensures.calls };
      declared = c.members_are_declared.ensures;
      members = c.accepted_packages_are_type_safe.ensures.members;
    } in
    let i = c.self.inside in
    let k : CardWords = the_view i in
    let first : FirstCall =
    record { called = c.method_for-called.result; owner = c.args.instance.owner; arguments = c.as_slice.result } in
    let called = subst (λ (n : ℕ). IsMethodFor i.program i.machine.store n c.args.instance.object
    c.method_for-called.result) c.member_called.ensures c.method_for-called.ensures in
    let words = c.as_slice.ensures.value ∙ c.call_words-words.ensures.words in
    let few = subst (λ (ws : List ℕ). length ws < 256) (sym c.as_slice.ensures.value) c.call_words-words.ensures.few in
    let after : CardWords = record k { machine = c.call.new.self; kept = c.call.new.natives } in
    let h = subst (λ (x : CardWords). Holds x card) (sym c.self.view_is) holds in
    let fits = c.requires.fits card holds in
    applet_called laws k card h c.args.instance c.args.call fits first called refl words few after
    c.call.result c.call.ensures.call c.call.ensures.dropped refl refl refl refl refl refl
