-- Whatever a member throws is one of the runtime's own objects, before those of AIDs.
use Rattle.std.proofs.Common.{◌≡◌, ℕ, Bool, true, false, cond, List, [], ◌∷◌, Option, refl, sym, ap, ◌∙◌}
use Rattle.std.proofs.Common.{slice_get, arith, nat_lt}
use Rattle.std.specs.Option.{option_and_then, option_map_or}
use Rattle.jc_api.specs.Numbered.{numbered}
use Rattle.jc_firewall.specs.declared.access.Verdict.{Verdict}
use Rattle.jc_link.specs.Linked.{World}
use Rattle.jc_machine.specs.Calls.{native_may_begin}
use Rattle.jc_machine.specs.Machine as machine
use Rattle.jc_machine.specs.Machine.{Gives, IsStuck, NativeCall, NativeEnd, ThrowsObject, Touch}
use Rattle.jc_machine.specs.Runtime.{first_aid_object, null_pointer_exception}
use Rattle.jc_natives.proofs.Spared.{all_throw_own, throws_own}
use Rattle.jc_natives.specs.Checks.{CallsOtherAid, Check, Checked, HasRange, Passed, Refused, TestEnd, Unfit, Uses}
use Rattle.jc_natives.specs.Checks.{UsesUnlessNull, are_aids, by_verdict, calls_other, goes_on, in_range, is_in_range}
use Rattle.jc_natives.specs.Checks.{judged, passed, refused, test, tested, unfit, uses, uses_value}
use Rattle.jc_natives.specs.Kept.{Kept, instance_with}
use Rattle.jc_natives.specs.Meaning.{answer_of, begun, ended, unchanged, worked}
use Rattle.jc_natives.specs.Members.{aid_member, apdu_member, applet_member, asks, ends_with, have_same_bytes}
use Rattle.jc_natives.specs.Members.{in_buffer, is_range, kept_of, makes, member_of_native, natives, object_member}
use Rattle.jc_natives.specs.Members.{system_member, utility_member}
use Rattle.jc_natives.specs.Taking.{Called, aid_in, as_reference, as_word, on_aid, on_range}
use Rattle.jc_natives.specs.Taking.{on_reference, on_word}
use Rattle.jc_natives.specs.Work.{Asks, Does, Ending, GivesReference, GivesWord, Makes, NoResult, Throws, Work}
use Rattle.jc_natives.specs.declared.kept.Instance.{Instance}
use Rattle.jc_natives.specs.declared.native.AidNative.{AidNative}
use Rattle.jc_natives.specs.declared.native.AidNative.TheVariants as aids
use Rattle.jc_natives.specs.declared.native.ApduNative.{ApduNative}
use Rattle.jc_natives.specs.declared.native.ApduNative.TheVariants as apdus
use Rattle.jc_natives.specs.declared.native.AppletNative.{AppletNative}
use Rattle.jc_natives.specs.declared.native.Elements.{Elements}
use Rattle.jc_natives.specs.declared.native.Native.{Native}
use Rattle.jc_natives.specs.declared.native.Native.TheVariants.{OfObject}
use Rattle.jc_natives.specs.declared.native.ObjectNative.{ObjectNative}
use Rattle.jc_natives.specs.declared.native.SystemNative.{SystemNative}
use Rattle.jc_natives.specs.declared.native.SystemNative.TheVariants as system
use Rattle.jc_natives.specs.declared.native.UtilityNative.{UtilityNative}
use Rattle.jc_natives.specs.declared.row.Length.TheVariants.{ByteAt}
use Rattle.jc_natives.specs.declared.row.Use.{Use}
use Rattle.jc_store.specs.Heap.{Object}
use Rattle.jc_store.specs.declared.kind.ClearingEvent.{ClearingEvent}
use Rattle.jc_words.specs.Values.{TaggedValue}

-- ---- works

-- what is thrown is such an object
abbrev is_own_ending : Ending → Bool
is_own_ending NoResult = true
is_own_ending (GivesWord word) = true
is_own_ending (GivesReference number) = true
is_own_ending (Throws object) = nat_lt object first_aid_object

abbrev is_own_work : Work → Bool
is_own_work (Does writes runtime ending) = is_own_ending ending
is_own_work (Makes array) = true
is_own_work (Asks question) = true

-- also of a member that is stuck
abbrev IsOwn : Option Work → Type 0
IsOwn o = option_map_or is_own_work o true ≡ true

and_then_own : {A : Type 0} (o : Option A) (go : A → Option Work) → ((x : A) → IsOwn (go x))
    → IsOwn (option_and_then go o)
and_then_own o go h1 = grind arith

module _ (h : Called) where
  at_reference : (place : ℕ) (go : ℕ → Option Work) → ((n : ℕ) → IsOwn (go n)) → IsOwn (on_reference h place go)
  at_reference place go each = and_then_own (option_and_then as_reference (slice_get h.call.arguments place)) go each

  at_word : (place : ℕ) (go : ℕ → Option Work) → ((n : ℕ) → IsOwn (go n)) → IsOwn (on_word h place go)
  at_word place go each = and_then_own (option_and_then as_word (slice_get h.call.arguments place)) go each

  at_aid : (n : ℕ) (go : List ℕ → Option Work) → ((bytes : List ℕ) → IsOwn (go bytes)) → IsOwn (on_aid h n go)
  at_aid n go each = and_then_own (aid_in h.call.heap n) go each

  at_range : (array offset count : ℕ) (go : List ℕ → Option Work) → ((bytes : List ℕ) → IsOwn (go bytes))
      → IsOwn (on_range h array offset (ByteAt count) go)
  at_range array offset count go each = grind (arith, at_reference, at_word, and_then_own)

  aids_own : (one other : ℕ) (aids : Bool)
      → IsOwn (cond aids (have_same_bytes h one other) (ends_with h (GivesWord 0)))
  aids_own one other true = at_aid one _ (λ bytes. at_aid other _ (λ others. refl))
  aids_own one other false = refl

  either_own : (b : Bool) (one other : Option Work) → IsOwn one → IsOwn other → IsOwn (cond b one other)
  either_own b one other h1 h2 = grind arith

  object_own : (native : ObjectNative) → throws_own (OfObject native) ≡ true → IsOwn ((object_member native).does h)
  object_own native h1 = grind (arith, and_then_own, either_own, aids_own)

  range_own : (aid : ℕ) → IsOwn (is_range h aid)
  range_own aid = at_aid aid _ (λ own. at_range 1 2 3 _ (λ bytes. refl))

  aid_own : (native : AidNative) → IsOwn ((aid_member native).does h)
  aid_own aids.Construct = grind (arith, and_then_own)
  aid_own aids.Equals = grind (arith, and_then_own, either_own, range_own)
  aid_own aids.GetBytes = search (arith, and_then_own, either_own, range_own, at_reference, at_word, at_aid)

  in_buffer_own : (offset count : ℕ) (go : List ℕ → Option Work) → ((bytes : List ℕ) → IsOwn (go bytes))
      → IsOwn (in_buffer h offset count go)
  in_buffer_own offset count go h1 = grind (arith, and_then_own)

  apdu_own : (native : ApduNative) → IsOwn ((apdu_member native).does h)
  apdu_own apdus.SendBytes = grind (arith, in_buffer_own)
  apdu_own apdus.SetOutgoingAndSend = grind (arith, in_buffer_own)
  apdu_own native = grind (arith, and_then_own)

  applet_own : (native : AppletNative) → IsOwn ((applet_member native).does h)
  applet_own native = grind arith

  makes_own : (elements : Elements) (size : ℕ) (event : Option ClearingEvent)
      → is_own_work (makes (kept_of h) h.call.active.context h.call.selected elements size event) ≡ true
  makes_own elements size event = grind arith

  asks_own : (byte : ℕ) (o : Option Instance) → is_own_work (asks (kept_of h) h.call.active byte o) ≡ true
  asks_own byte o = grind arith

  system_own : (native : SystemNative) → IsOwn ((system_member native).does h)
  system_own system.AskForShareable = at_reference 0 _ (λ aid. at_word 1 _ (λ byte. at_aid aid _ (λ bytes.
      asks_own byte (instance_with (kept_of h).instances bytes))))
  system_own system.LookupAid = at_range 0 1 2 _ (λ bytes. refl)
  system_own native = grind (arith, and_then_own, makes_own)

  utility_own : (native : UtilityNative) → IsOwn ((utility_member native).does h)
  utility_own native = grind arith

  does_own : (native : Native) → throws_own native ≡ true → IsOwn ((member_of_native native).does h)
  does_own native h1 = grind (arith, object_own, aid_own, apdu_own, applet_own, system_own, utility_own)

-- ---- tests

abbrev is_own_refusal : TestEnd → Bool
is_own_refusal Passed = true
is_own_refusal (Refused object) = nat_lt object first_aid_object
is_own_refusal Unfit = true

abbrev IsOwnRefusal : TestEnd → Type 0
IsOwnRefusal e = is_own_refusal e ≡ true

module _ (h : Called) where
  uses_refuses : (place : ℕ) (way : Use) (null : Checked) → IsOwnRefusal null.ends
      → IsOwnRefusal (uses h place way null).ends
  uses_refuses place way null e = by_argument (slice_get h.call.arguments place)
    where
      by_verdict_own : (n : ℕ) (verdict : Verdict) → IsOwnRefusal (by_verdict h way n verdict).ends
      by_verdict_own n verdict = grind arith

      by_object : (n : ℕ) (o : Option (Object TaggedValue)) → IsOwnRefusal (option_map_or (judged h way n) o unfit).ends
      by_object n o = grind (arith, by_verdict_own)

      by_argument : (a : Option TaggedValue) → IsOwnRefusal (option_map_or (uses_value h way null) a unfit).ends
      by_argument a = grind (arith, by_object)

  test_refuses : (t : Check) → IsOwnRefusal (test h t).ends
  test_refuses (Uses place way) = uses_refuses place way (refused null_pointer_exception) refl
  test_refuses (UsesUnlessNull place way) = uses_refuses place way passed refl
  test_refuses CallsOtherAid = by_aids (are_aids h)
    where
      by_aids : (o : Option Bool) → IsOwnRefusal (option_map_or (calls_other h) o unfit).ends
      by_aids o = grind (arith, uses_refuses)
  test_refuses (HasRange array offset count) = by_range (is_in_range h array offset count)
    where
      by_range : (o : Option Bool) → IsOwnRefusal (option_map_or in_range o unfit).ends
      by_range o = grind arith

  tests_refuse : (ts : List Check) → IsOwnRefusal (tested h ts).ends
  tests_refuse [] = refl
  tests_refuse (t ∷ ts) = by_end (test h t).ends (test_refuses t) (tests_refuse ts)
    where
      by_end : (e : TestEnd) → IsOwnRefusal e → IsOwnRefusal (tested h ts).ends
          → IsOwnRefusal (goes_on (test h t).touches e (tested h ts)).ends
      by_end e h1 h2 = grind arith

-- ---- answers

abbrev is_own_end : NativeEnd → Bool
is_own_end (Gives value) = true
is_own_end (ThrowsObject object) = nat_lt object first_aid_object
is_own_end (machine.Calls question) = true
is_own_end IsStuck = true

worked_own : (call : NativeCall Kept) (touches : List Touch) (o : Option Work) → IsOwn o
    → is_own_end (worked call touches o).ends ≡ true
worked_own call touches o e = grind arith

ended_own : (call : NativeCall Kept) (touches : List Touch) (e : TestEnd) (o : Option Work) → IsOwnRefusal e → IsOwn o
    → is_own_end (ended call touches e o).ends ≡ true
ended_own call touches e o h1 h2 = grind (arith, worked_own)

begun_own : (w : World) (call : NativeCall Kept) (number : ℕ) (o : Option Native) → numbered natives number ≡ o
    → is_own_end (begun w call o).ends ≡ true
begun_own w call number o h1 = grind (arith, ended_own, tests_refuse, does_own, all_throw_own)

pub answers_throw_own : (w : World) (call : NativeCall Kept) (number : ℕ)
    → (answer_of w call).ends ≡ ThrowsObject number → nat_lt number first_aid_object ≡ true
answers_throw_own w call number e =
    sym (ap is_own_end e) ∙ by_begin (native_may_begin w.shapes call.heap call.member call.arguments)
  where
    by_begin : (b : Bool)
        → is_own_end (cond b (begun w call (numbered natives call.member)) (unchanged call [] IsStuck)).ends ≡ true
    by_begin b = grind (arith, begun_own)
