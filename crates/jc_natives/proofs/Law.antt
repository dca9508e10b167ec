-- Native members keep the law of native members.
use Rattle.std.proofs.Common.{◌≡◌, Bool, true, false, cond, List, [], ◌∷◌, Option, Some, None, refl, sym, ap, subst}
use Rattle.std.proofs.Common.{◌∙◌}
use Rattle.std.proofs.lemmas.Option.{same_Some}
use Rattle.std.specs.Option.{option_and_then, option_map_or}
use Rattle.jc_api.specs.Numbered.{numbered}
use Rattle.jc_api.specs.Member.{ApiMember, virtual}
use Rattle.jc_api.specs.declared.class.ApiClass.TheVariants as api
use Rattle.jc_base.specs.Signature.{Signature, signature_map}
use Rattle.jc_base.specs.declared.declared_type.DeclaredType.TheVariants as types
use Rattle.jc_base.specs.declared.declared_type.ReturnType.TheVariants.{Value}
use Rattle.jc_cap_desc.specs.Shape.{Shape}
use Rattle.jc_classes.specs.Api.{method_in}
use Rattle.jc_classes.specs.Limits.{IsSmall}
use Rattle.jc_classes.specs.Members.{DeclaredMethod}
use Rattle.jc_link.specs.ApiClasses.{StandsOnApi}
use Rattle.jc_link.specs.Built.{IsBuilt}
use Rattle.jc_link.specs.Linked.{World}
use Rattle.jc_link.specs.MemberType.{declared_type_of}
use Rattle.jc_link.specs.Sound.{IsSound}
use Rattle.jc_machine.specs.Accepted.{IsAccepted}
use Rattle.jc_machine.specs.Calls.{type_of_member}
use Rattle.jc_machine.specs.Lookup.{are_of_instance, are_of_types, may_begin_with}
use Rattle.jc_machine.specs.Machine.{IsStuck, NativeAnswer, NativeCall}
use Rattle.jc_machine.specs.Natives.{IsFitAnswer, IsFitCall, IsLawful}
use Rattle.jc_names.specs.declared.name.ClassName.{ClassName}
use Rattle.jc_names.specs.declared.name.ClassName.TheVariants as classes
use Rattle.jc_natives.specs.MemberTypes.{counted_name}
use Rattle.jc_natives.proofs.Facts.{AreTyped}
use Rattle.jc_natives.proofs.FitWrites.{Known}
use Rattle.jc_natives.proofs.Fits.{begun_fits}
use Rattle.jc_natives.proofs.Answering.{answers_guarded}
use Rattle.jc_natives.proofs.Keeping.{kept_fits_still}
use Rattle.jc_natives.proofs.Simulation.{Begins, begins_of}
use Rattle.jc_natives.proofs.Same.{same_answer}
use Rattle.jc_natives.proofs.Takes.{suits}
use Rattle.jc_natives.specs.Kept.{Kept}
use Rattle.jc_natives.specs.Meaning.{answer_of, meaning, unchanged}
use Rattle.jc_natives.specs.Members.{natives}
use Rattle.jc_natives.specs.PrivateMeaning.{answer_on_words, begun_on_words}
use Rattle.jc_natives.specs.declared.native.Native.{Native}

-- the member that answers questions for shareable objects
abbrev asking : ApiMember
asking = virtual api.Applet (types.Reference api.Aid ∷ types.Byte ∷ []) (Value (types.Reference api.Shareable))

abbrev given_of : ApiMember → Signature ClassName
given_of m = signature_map counted_name m.signature

-- the arguments of a call that begins are of the types of its member
arguments_typed : (w : World) (call : NativeCall Kept) (b : Begins w call) → StandsOnApi w.shapes
    → AreTyped w.shapes call.heap b.member call.arguments
arguments_typed w call b on =
    let d : DeclaredMethod =
    record { class = classes.Api b.member.class; method = method_in on.bound call.member b.member } in
    let found = on.members call.member b.member b.is in
    let same = same_Some b.method d (sym b.found ∙ found) in
    let type : declared_type_of w.shapes d ≡ Some (given_of b.member) =
    sym (ap (option_and_then (declared_type_of w.shapes)) found) ∙ on.types call.member b.member b.is in
    let begins : may_begin_with w.shapes call.heap d call.arguments ≡ true =
    ap (λ x. may_begin_with w.shapes call.heap x call.arguments) (sym same) ∙ b.begins in
    sym (ap (λ o. option_map_or (takes d.method.is_static d.class) o false) type) ∙ begins
  where
    takes : Bool → ClassName → Signature ClassName → Bool
    takes static c s =
        cond static (are_of_types w.shapes call.heap s.parameters call.arguments)
        (are_of_instance w.shapes call.heap c s.parameters call.arguments)

abbrev answers : World → NativeCall Kept → Bool → Option Native → NativeAnswer Kept
answers w call b o = cond b (begun_on_words w call o) (unchanged call [] IsStuck)

module _ (on_api : (world : List Shape) → IsBuilt world → StandsOnApi world)
    (sound : (world : List Shape) → IsSmall world → IsBuilt world → IsSound world) where
  module _ (w : World) (call : NativeCall Kept) (accepted : IsAccepted w) (fit : IsFitCall meaning w call) where
    abbrev b : Begins w call
    b = begins_of w call fit.begins

    abbrev on : StandsOnApi w.shapes
    on = on_api w.shapes accepted.world.built

    abbrev known : Known
    known = record {
      w = w;
      call = call;
      there = on.stands;
      supers = (sound w.shapes accepted.small accepted.world.built).superclasses;
      fit = fit;
      given = given_of b.member;
    }

    -- what it answers is what it answers on words
    pub means_the_same : answer_of w call ≡ answer_on_words w call
    means_the_same = same_answer known b.member b.native b.is b.numbered (arguments_typed w call b on)

    answers_fit : IsFitAnswer meaning w call (answer_of w call)
    answers_fit =
        let done = begun_fits known b.member b.is refl
        (arguments_typed w call b on) asking refl (on.types 40 asking refl) refl refl refl b.native
        (suits call.member b.native b.member b.numbered b.is) in
        let same : answer_of w call ≡ begun_on_words w call (Some b.native) = means_the_same
        ∙ ap (λ x. answers w call x (numbered natives call.member)) fit.begins
        ∙ ap (λ o. answers w call true o) b.numbered in
        subst (IsFitAnswer meaning w call) (sym same) (record {
          heap = done.0;
          fits = (done.1).0;
          given = given_of b.member;
          declared = ap (λ x. cond x (type_of_member w.shapes call.member) None) b.concrete
              ∙ on.types call.member b.member b.is;
          ends = (done.1).1;
        })

  pub lawful : IsLawful meaning
  lawful = record { guarded = answers_guarded; fit = answers_fit; stable = kept_fits_still }
