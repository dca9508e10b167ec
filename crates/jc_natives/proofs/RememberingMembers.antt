-- What native members change of what the runtime keeps, whose AIDs they tell, and which objects they write.
use Rattle.std.proofs.Common.{◌≡◌, ◌≢◌, ◌⊎◌, inl, ℕ, zero, suc, ◌+◌, ◌-◌, ◌==◌, ◌||◌, not, Bool, true, false}
use Rattle.std.proofs.Common.{◌∷◌, nat_le, Option, Some, None, refl, sym, ap, subst, ◌∙◌, slice_get}
use Rattle.std.proofs.Common.{arith, cond, List, [], map, nat_lt}
use Rattle.std.proofs.lemmas.Bool.{eq-eqb, eqb-false, eqb-true, false≢true, le-leb, leb-true, ltb-true}
use Rattle.std.proofs.lemmas.Bool.{ne_eqb}
use Rattle.std.proofs.lemmas.Option.{none-some, same_Some}
use Rattle.std.specs.Option.{option_and_then, option_map_or}
use Rattle.std.specs.Prelude.{⊤}
use Rattle.jc_api.specs.Member.{ApiMember, virtual}
use Rattle.jc_api.specs.Numbered.{numbered}
use Rattle.jc_api.specs.declared.class.ApiClass.TheVariants as api
use Rattle.jc_base.specs.Signature.{Signature}
use Rattle.jc_base.specs.declared.declared_type.DeclaredType.{DeclaredType}
use Rattle.jc_base.specs.declared.declared_type.DeclaredType.TheVariants as types
use Rattle.jc_base.specs.declared.declared_type.ReturnType.TheVariants.{Void}
use Rattle.jc_cap_desc.specs.Shape.{Shape}
use Rattle.jc_classes.specs.Api.{method_in}
use Rattle.jc_classes.specs.Members.{DeclaredMethod, method_at}
use Rattle.jc_classes.specs.Walk.{most_classes}
use Rattle.jc_firewall.specs.Verdict.{is_allowed}
use Rattle.jc_firewall.specs.Verdict.{runtime, runtime_context, verdict_of}
use Rattle.jc_firewall.specs.declared.access.Facts.{Facts}
use Rattle.jc_firewall.specs.declared.access.Rule.TheVariants as rules
use Rattle.jc_firewall.specs.declared.access.Verdict.{Verdict}
use Rattle.jc_firewall.specs.declared.access.Verdict.TheVariants.{Allowed, Denied}
use Rattle.jc_link.specs.ApiClasses.{StandsOnApi}
use Rattle.jc_link.specs.Built.{IsBuilt}
use Rattle.jc_link.specs.Linked.{World}
use Rattle.jc_link.specs.MemberType.{declared_type_of}
use Rattle.jc_link.specs.Named.{is_concrete}
use Rattle.jc_machine.specs.Apart.{is_applets}
use Rattle.jc_machine.specs.Calls.{native_may_begin}
use Rattle.jc_machine.specs.Lookup.{are_of_instance, is_of_class, may_begin_with}
use Rattle.jc_machine.specs.Machine as machine
use Rattle.jc_machine.specs.Machine.{By, Gives, IsStuck, NativeCall, NativeEnd}
use Rattle.jc_machine.specs.Machine.{ThrowsObject}
use Rattle.jc_machine.specs.Runtime.{HasRuntimeObject, HasRuntimeObjects, aid_object as aid_row, null_pointer_exception}
use Rattle.jc_names.specs.declared.name.ClassName.{ClassName}
use Rattle.jc_names.specs.declared.name.ClassName.TheVariants.{Api}
use Rattle.jc_names.specs.declared.name.MethodName.TheVariants as methods
use Rattle.jc_names.specs.declared.owner.Owner.{Owner}
use Rattle.jc_natives.proofs.Bare.{both}
use Rattle.jc_natives.proofs.Facts.{LeadsToClass, object_lead, own_aid}
use Rattle.jc_natives.proofs.Getting.{other_object}
use Rattle.jc_natives.proofs.Guarding.{got_front, same_found}
use Rattle.jc_natives.proofs.Keeping.{both_are}
use Rattle.jc_natives.proofs.Putting.{put_none, put_some}
use Rattle.jc_natives.proofs.Simulation.{passed_some}
use Rattle.jc_natives.proofs.Tables.{above_is}
use Rattle.jc_natives.proofs.UnseenTests.{followed_passed}
use Rattle.jc_natives.specs.Cells.{bits, put, put_all, Write, written}
use Rattle.jc_natives.specs.Checks.{Checked, access_of, by_verdict, judged, refused, test, unfit, uses, uses_value}
use Rattle.jc_natives.specs.Checks.{Check, Passed, Uses, tested}
use Rattle.jc_natives.specs.Kept.{is_instance_number, Kept}
use Rattle.jc_natives.specs.Meaning.{answer_of, begun, reference, unchanged}
use Rattle.jc_natives.specs.Members.{aid_of_owner}
use Rattle.jc_natives.specs.Members.{member_of_native, natives}
use Rattle.jc_natives.specs.Remembered.{KeepsAids, WritesOwnAid, is_aid_object, IsRemembered}
use Rattle.jc_natives.specs.Remembered.{TellsAid, TellsPreviousAid}
use Rattle.jc_natives.specs.Taking.{as_reference, called}
use Rattle.jc_natives.specs.Work.{gives}
use Rattle.jc_natives.specs.declared.native.Native.{Native}
use Rattle.jc_natives.specs.declared.native.Native.TheVariants.{OfSystem}
use Rattle.jc_natives.specs.declared.native.SystemNative.TheVariants as system
use Rattle.jc_natives.specs.declared.row.Use.{Use}
use Rattle.jc_store.specs.Heap.{Heap, Object, object_at, with_new}
use Rattle.jc_store.specs.declared.kind.Mark.TheVariants.{PermanentEntryPoint}
use Rattle.jc_store.specs.declared.kind.ObjectType.TheVariants.{Instance as OfClass}
use Rattle.jc_words.specs.Values.{Null, TaggedValue, Word}
use Rattle.jc_natives.proofs.RememberingKept.{by_one, by_writes, set_reason, tells_aid, tells_previous, is_writing}
use Rattle.jc_natives.proofs.RememberingKept.{SparesOwn, AreTested}
use Rattle.jc_natives.proofs.RememberingKept.{AreSpared, AsksAs, IsWritten, IsGood, answer_good}

-- ---- AID objects

-- an AID object is written where register writes that of the instance that it registers
abbrev SparedAid : NativeCall Kept → By → ℕ → Type 0
SparedAid call by number = is_aid_object number ≡ true → WritesOwnAid call number

aid_row_at : (heap : Heap TaggedValue) → HasRuntimeObjects heap → (n : ℕ) → is_aid_object n ≡ true
    → HasRuntimeObject heap (aid_row n)
aid_row_at heap has n e =
    let b = both (nat_le 14 n) (nat_lt n 46) e in
    let low = leb-true 14 n b.0 in
    let high = ltb-true n 46 b.1 in
    let numbered : is_instance_number (n - 13) ≡ true = both_are (nat_le 1 (n - 13)) (nat_le (n - 13) 32)
    (le-leb 1 (n - 13) (omega (arith, low))) (le-leb (n - 13) 32 (omega (arith, low, high))) in
    let same : 13 + (n - 13) ≡ n = omega (arith, low) in
    subst (λ m. HasRuntimeObject heap (aid_row m)) same (own_aid heap (n - 13) has numbered)

-- objects that aren't written are as they were
one_apart : (heap : Heap TaggedValue) (number index other : ℕ) (value : TaggedValue) → number ≢ other
    → object_at (put heap number index value) other ≡ object_at heap other
one_apart heap number index other value h = grind (arith, put_none, put_some, other_object)

all_apart : (heap : Heap TaggedValue) (number from other : ℕ) (values : List TaggedValue) → number ≢ other
    → object_at (put_all heap number from values) other ≡ object_at heap other
all_apart heap number from other [] h = refl
all_apart heap number from other (v ∷ values) h =
    all_apart (put heap number from v) number (from + 1) other values h ∙ one_apart heap number from other v h

module _ (w : World) (call : NativeCall Kept) where
  written_aid : (heap : Heap TaggedValue) (writes : List Write) (number : ℕ) → is_aid_object number ≡ true
      → AreSpared (called w call) (SparedAid call) writes
      → (object_at (written Word heap writes) number ≡ object_at heap number) ⊎ WritesOwnAid call number
  written_aid heap [] number aid spared = inl refl
  written_aid heap (x ∷ writes) number aid spared =
      by_number (x.object == number) refl
      (written_aid (put_all heap x.object x.from (map Word x.words)) writes number aid spared.1)
    where
      by_number : (b : Bool) → (x.object == number) ≡ b
          → (object_at (written Word heap (x ∷ writes)) number
          ≡ object_at (put_all heap x.object x.from (map Word x.words)) number) ⊎ WritesOwnAid call number
          → (object_at (written Word heap (x ∷ writes)) number ≡ object_at heap number) ⊎ WritesOwnAid call number
      by_number b h1 h2 = grind (arith, eqb-true, all_apart, eqb-false)

  aids_kept : (after : Heap TaggedValue) → IsWritten w call (SparedAid call) after → KeepsAids call after
  aids_kept after (by_writes writes spared e) number o p aid found then_found =
      by_object (written_aid call.heap writes number aid spared)
    where
      by_object : (object_at (written Word call.heap writes) number ≡ object_at call.heap number)
          ⊎ WritesOwnAid call number → (p.cells ≡ o.cells) ⊎ WritesOwnAid call number
      by_object h1 = grind (arith, same_found)
  aids_kept after (by_one object e) number o p aid found then_found =
      inl (ap (λ (x : Object TaggedValue). x.cells)
      (same_found (object_at (with_new call.heap object) number) o p (in_front number found)
      (ap (λ heap. object_at heap number) (sym e) ∙ then_found)))
    where
      in_front : (n : ℕ) → object_at call.heap n ≡ Some o → object_at (with_new call.heap object) n ≡ Some o
      in_front n h1 = grind (arith, none-some, got_front)

  -- ---- what was tested is no AID object, where it may be written

  each_passed : (ts : List Check) (j : ℕ) (t : Check) → (tested (called w call) ts).ends ≡ Passed
      → slice_get ts j ≡ Some t → (test (called w call) t).ends ≡ Passed
  each_passed [] j t e f = absurd (none-some t f)
  each_passed (x ∷ ts) zero t e f =
      subst (λ y. (test (called w call) y).ends ≡ Passed) (same_Some x t f)
      (followed_passed (test (called w call) x) (tested (called w call) ts) e).0
  each_passed (x ∷ ts) (suc j) t e f =
      each_passed ts j t (followed_passed (test (called w call) x) (tested (called w call) ts) e).1 f

  module _ (own : HasRuntimeObjects call.heap) (applet : call.active.context ≡ runtime_context → ⊥) where
    passed_allowed : (way : Use) (n : ℕ) (v : Verdict) → (by_verdict (called w call) way n v).ends ≡ Passed
        → is_allowed v ≡ true
    passed_allowed way n v h1 = grind arith

    no_field : (by_runtime own : Bool) → by_runtime ≡ false → own ≡ false
        → is_allowed (cond by_runtime Allowed (cond own Allowed (Denied rules.Fields))) ≡ true → ⊥
    no_field by_runtime own e f g = grind arith

    no_component : (by_runtime out own global : Bool) → by_runtime ≡ false → own ≡ false → global ≡ false
        → is_allowed (cond by_runtime Allowed (cond out (Denied rules.Selection)
        (cond (own || global) Allowed (Denied rules.Components)))) ≡ true → ⊥
    no_component by_runtime out own global e f g h = grind arith

    no_write : (way : Use) → is_writing way ≡ true → (f : Facts) → f.owner ≡ runtime → f.mark ≡ PermanentEntryPoint
        → is_allowed (verdict_of (access_of way) call.active.context f) ≡ true → ⊥
    no_write way e f whose mark g = by_way way e g
      where
        other : (call.active.context == runtime_context) ≡ false
        other = ne_eqb call.active.context runtime_context applet

        not_own : (f.owner.context == call.active.context) ≡ false
        not_own = grind (arith, ne_eqb)

        by_way : (way : Use) → is_writing way ≡ true
            → is_allowed (verdict_of (access_of way) call.active.context f) ≡ true → ⊥
        by_way way h1 h2 = grind (arith, no_field, other, not_own, no_component)

    no_aid : (way : Use) → is_writing way ≡ true → (n : ℕ) (o : Object TaggedValue) → object_at call.heap n ≡ Some o
        → is_aid_object n ≡ true → (judged (called w call) way n o).ends ≡ Passed → ⊥
    no_aid way e n o found aid f = grind (arith, aid_row_at, same_found, no_write, passed_allowed)

    used_is_no_aid : (place : ℕ) (way : Use) (null : Checked) → is_writing way ≡ true
        → (uses (called w call) place way null).ends ≡ Passed → (n : ℕ)
        → option_and_then as_reference (slice_get call.arguments place) ≡ Some n → is_aid_object n ≡ true → ⊥
    used_is_no_aid place way null e f n is aid = by_argument (slice_get call.arguments place) f is
      where
        by_object : (m : ℕ) (x : Option (Object TaggedValue)) → object_at call.heap m ≡ x → is_aid_object m ≡ true
            → (option_map_or (judged (called w call) way m) x unfit).ends ≡ Passed → ⊥
        by_object m x h1 h2 h3 = grind (arith, no_aid)

        by_argument : (a : Option TaggedValue)
            → (option_map_or (uses_value (called w call) way null) a unfit).ends ≡ Passed
            → option_and_then as_reference a ≡ Some n → ⊥
        by_argument a h1 h2 = grind (arith, by_object, same_Some)

    are_tested : (native : Native) → (tested (called w call) (member_of_native native).tests).ends ≡ Passed
        → AreTested (called w call) (SparedAid call) (member_of_native native).tests
    are_tested native e j place way writes listed n is aid =
        absurd (used_is_no_aid place way (refused null_pointer_exception) writes
        (each_passed (member_of_native native).tests j (Uses place way) e listed) n is aid)

    -- ---- setReason is called on no AID object: AIDs have no reason

    abbrev reasons : ClassName
    reasons = Api api.CardRuntimeException

    bits_are : (v : TaggedValue) (n : ℕ) → as_reference v ≡ Some n → bits v ≡ n
    bits_are v n h1 = grind (arith, none-some, same_Some)

    first_leads : (vs : List TaggedValue) (ts : List (DeclaredType ClassName)) (n : ℕ)
        → are_of_instance w.shapes call.heap reasons ts vs ≡ true
        → option_and_then as_reference (slice_get vs 0) ≡ Some n → LeadsToClass w.shapes call.heap n reasons
    first_leads vs ts n h1 h2 = grind (arith, none-some, bits_are, object_lead, both)

    module _ (on : StandsOnApi w.shapes) where
      abbrev reason_setter : ApiMember
      reason_setter = virtual api.CardRuntimeException (types.Short ∷ []) Void

      abbrev method : DeclaredMethod
      method = record { class = reasons; method = method_in on.bound set_reason reason_setter }

      abbrev begins : DeclaredMethod → Bool
      begins d = may_begin_with w.shapes call.heap d call.arguments

      abbrev takes : Signature ClassName → Bool
      takes s = are_of_instance w.shapes call.heap reasons s.parameters call.arguments

      reason_leads : call.member ≡ set_reason
          → native_may_begin w.shapes call.heap call.member call.arguments ≡ true → (n : ℕ)
          → option_and_then as_reference (slice_get call.arguments 0) ≡ Some n
          → LeadsToClass w.shapes call.heap n reasons
      reason_leads is e n f =
          let a : native_may_begin w.shapes call.heap set_reason call.arguments ≡ true =
          ap (λ m. native_may_begin w.shapes call.heap m call.arguments) (sym is) ∙ e in
          let b = both (is_concrete w.shapes (methods.Api set_reason))
          (option_map_or begins (method_at w.shapes (methods.Api set_reason)) false) a in
          let c : begins method ≡ true =
          sym (ap (λ o. option_map_or begins o false) (on.members set_reason reason_setter refl)) ∙ b.1 in
          let d = passed_some takes (declared_type_of w.shapes method) c in
          first_leads call.arguments (d.0).parameters n d.2 f

      no_reason : (n : ℕ) → LeadsToClass w.shapes call.heap n reasons → is_aid_object n ≡ true → ⊥
      unfolding most_classes
      no_reason n leads aid =
          let has = aid_row_at call.heap own n aid in
          let same : has.object ≡ leads.object = same_found (object_at call.heap n) leads.object has.object leads.found
          has.found in
          let type : leads.object.kind.object_type ≡ OfClass (Api api.Aid) =
          ap (λ (x : Object TaggedValue). x.kind.object_type) (sym same) ∙ has.type in
          let below : is_of_class w.shapes reasons (OfClass (Api api.Aid)) ≡ true =
          ap (is_of_class w.shapes reasons) (sym type) ∙ leads.below in
          false≢true (sym (above_is w.shapes on.stands most_classes api.CardRuntimeException api.Aid) ∙ below)

      own_spared : native_may_begin w.shapes call.heap call.member call.arguments ≡ true
          → SparesOwn (called w call) (SparedAid call)
      own_spared e = record {
        iso = λ f. absurd (false≢true f);
        system = λ f. absurd (false≢true f);
        apdu = λ f. absurd (false≢true f);
        buffer = λ f. absurd (false≢true f);
        registers = λ f i was waits aid. record { register = f; installing = i; was = was; waited = waits; is = refl };
        reason = λ is n f aid. absurd (no_reason n (reason_leads is e n f) aid);
      }

      pub answer_keeps_aids : KeepsAids call (answer_of w call).heap
      answer_keeps_aids =
          aids_kept (answer_of w call).heap (answer_good w call (SparedAid call) own_spared are_tested).objects

applet_is : (owner : Owner) → is_applets owner ≡ true → owner.context ≡ runtime_context → ⊥
applet_is owner e f = false≢true (sym (ap not (eq-eqb owner.context runtime_context f)) ∙ e)

-- ---- the law

abbrev value_of : NativeEnd → TaggedValue
value_of (Gives None) = Null
value_of (Gives (Some value)) = value
value_of (ThrowsObject object) = Null
value_of (machine.Calls callback) = Null
value_of IsStuck = Null

stuck_gives_none : (value : TaggedValue) → IsStuck ≡ Gives (Some value) → ⊥
stuck_gives_none value e = cc

module _ (w : World) (call : NativeCall Kept) where
  -- what a member of JCSystem without tests gives
  gives_reference : (native : Native) (n : ℕ) → (begun w call (Some native)).ends ≡ Gives (Some (reference n))
      → numbered natives call.member ≡ Some native → (value : TaggedValue)
      → (answer_of w call).ends ≡ Gives (Some value) → reference n ≡ value
  gives_reference native n gives e value f = by_begin (native_may_begin w.shapes call.heap call.member call.arguments) f
    where
      by_begin : (b : Bool)
          → (cond b (begun w call (numbered natives call.member)) (unchanged call [] IsStuck)).ends
          ≡ Gives (Some value) → reference n ≡ value
      by_begin b h1 = grind (arith, stuck_gives_none)

  abbrev Any : By → ℕ → Type 0
  Any by number = ⊤

  good : IsGood w call Any (answer_of w call)
  good = search (arith, answer_good)

  pub answers_remembered : IsRemembered call (answer_of w call)
  answers_remembered = record {
    instances = good.kept.instances;
    numbers = good.kept.numbers;
    incoming = good.kept.incoming;
    expected = good.kept.expected;
    selecting = good.kept.selecting;
    exchange = good.kept.exchange;
    own_aid = λ e value f.
        subst (TellsAid call.runtime call.active)
        (gives_reference (OfSystem system.GetAid) (aid_of_owner call.runtime (Some call.active)) refl
        (ap (numbered natives) e) value f) (tells_aid call.runtime call.active);
    previous_aid = λ e value f.
        subst (TellsPreviousAid call.runtime call.previous)
        (gives_reference (OfSystem system.GetPreviousAid) (aid_of_owner call.runtime call.previous) refl
        (ap (numbered natives) e) value f) (tells_previous call.runtime call.previous);
    asks_as = λ callback e. subst (AsksAs w call Any) e good.asks;
  }

pub answers_keep_aids : ((world : List Shape) → IsBuilt world → StandsOnApi world) → (w : World) → IsBuilt w.shapes
    → (call : NativeCall Kept) → HasRuntimeObjects call.heap → is_applets call.active ≡ true
    → KeepsAids call (answer_of w call).heap
answers_keep_aids on_api w built call own active = search (arith, answer_keeps_aids, applet_is)
