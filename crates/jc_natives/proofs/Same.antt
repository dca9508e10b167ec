-- A call that fits answers on tagged values what it answers on words without tags.
use Rattle.std.proofs.Common.{◌≡◌, ℕ, ◌+◌, ◌==◌, ◌&&◌, Bool, true, false, cond, List, length, nat_le, arith}
use Rattle.std.proofs.Common.{Option, Some, refl}
use Rattle.std.specs.List.{AllByRecursion, list_all}
use Rattle.std.specs.Option.{option_and_then}
use Rattle.jc_api.specs.Member.{ApiMember, member_of}
use Rattle.jc_api.specs.Numbered.{numbered}
use Rattle.jc_api.specs.declared.class.ApiClass.{ApiClass}
use Rattle.jc_api.specs.declared.class.ApiClass.TheVariants as api
use Rattle.jc_machine.specs.Machine.{Calls, Gives, IsStuck, NativeCall, NativeEnd, ThrowsObject}
use Rattle.jc_machine.specs.Runtime.{apdu_buffer}
use Rattle.jc_names.specs.declared.name.ClassName.TheVariants.{Api}
use Rattle.jc_natives.proofs.Alike.{IsLike, alike, begun_alike, stops}
use Rattle.jc_natives.proofs.Bare.{bare_object, both}
use Rattle.jc_natives.proofs.Facts.{AreTyped, LeadsToClass, own_object}
use Rattle.jc_natives.proofs.FitWrites.{Known, buffer_leads}
use Rattle.jc_natives.proofs.Matching.{both_aids}
use Rattle.jc_natives.proofs.Takes.{AreOfKinds, of_kinds, takes, takes_so}
use Rattle.jc_natives.proofs.TypedCells.{Has, has_and_goes}
use Rattle.jc_natives.proofs.Unstuck.{IsShown, There, aid_at, aids_have, bytes_at, fits_kinds, has_aid, has_bytes}
use Rattle.jc_natives.proofs.Unstuck.{has_component, has_object, has_range, has_reason, has_reference, has_word}
use Rattle.jc_natives.proofs.Unstuck.{has_words, is_fit, object_leads, of_leads, tests_fit, tests_show}
use Rattle.jc_natives.proofs.Unstuck.{there_unless_null}
use Rattle.jc_natives.specs.Checks.{Passed, TestEnd, are_aids}
use Rattle.jc_natives.specs.Cells.{is_within}
use Rattle.jc_natives.specs.Kept.{Kept, has_aid_length, is_incoming, most_sent}
use Rattle.jc_natives.specs.Meaning.{answer_of, begun, done, end_of, ended}
use Rattle.jc_natives.specs.Members as members
use Rattle.jc_natives.specs.Members.{ends_with, in_buffer, member_of_native, natives, on_installing, sends_at_once}
use Rattle.jc_natives.specs.PrivateCells.{argument}
use Rattle.jc_natives.specs.PrivateMeaning.{answer_on_words, begun_on_words}
use Rattle.jc_natives.specs.PrivateSeen.{NativeInput, arguments_of, is_aid_object, seen_of}
use Rattle.jc_natives.specs.Taking.{Called, called, on_range}
use Rattle.jc_natives.specs.Work.{Ending, GivesWord, Work, bad_length, buffer_bounds, illegal_use, illegal_value}
use Rattle.jc_natives.specs.declared.kept.Installing.{Installing}
use Rattle.jc_natives.specs.declared.native.AidNative.{AidNative}
use Rattle.jc_natives.specs.declared.native.AidNative.TheVariants as aids
use Rattle.jc_natives.specs.declared.native.ApduNative.{ApduNative}
use Rattle.jc_natives.specs.declared.native.ApduNative.TheVariants as apdus
use Rattle.jc_natives.specs.declared.native.AppletNative.{AppletNative}
use Rattle.jc_natives.specs.declared.native.AppletNative.TheVariants as applets
use Rattle.jc_natives.specs.declared.native.Native.{Native}
use Rattle.jc_natives.specs.declared.native.Native.TheVariants.{OfAid, OfApdu, OfApplet, OfObject, OfSystem, OfUtility}
use Rattle.jc_natives.specs.declared.native.ObjectNative.{ObjectNative}
use Rattle.jc_natives.specs.declared.native.ObjectNative.TheVariants as objects
use Rattle.jc_natives.specs.declared.native.SystemNative.{SystemNative}
use Rattle.jc_natives.specs.declared.native.SystemNative.TheVariants as system
use Rattle.jc_natives.specs.declared.native.UtilityNative.{UtilityNative}
use Rattle.jc_natives.specs.declared.native.UtilityNative.TheVariants as utilities
use Rattle.jc_natives.specs.declared.row.Length.TheVariants.{ByteAt}
use Rattle.jc_store.specs.Heap.{Heap}
use Rattle.jc_words.specs.Values.{TaggedValue}

requires_system : (h : Called) (reason : ℕ) (passes : Bool) (go : Option Work) → Has go
    → Has (members.require_system h reason passes go)
requires_system h reason passes go h1 = grind arith

requires_apdu : (h : Called) (reason : ℕ) (passes : Bool) (go : Option Work) → Has go
    → Has (members.require_apdu h reason passes go)
requires_apdu h reason passes go h1 = grind arith

unequal : false ≡ true → ⊥
unequal g = cc

-- what tests that pass show, of what a member takes
abbrev Shows : (known : Known) (c : ApiClass) (native : Native)
    → AreOfKinds (known.w).shapes (known.call).heap (known.call).arguments (takes native c) → Type 0
Shows known c native typed = AllByRecursion (IsShown known (takes native c) typed) (member_of_native native).tests

-- each member's tests look at what it takes
pub tests_suit : (native : Native) (c : ApiClass)
    → list_all (fits_kinds (takes native c)) (member_of_native native).tests ≡ true
tests_suit native c = grind arith

module _ (known : Known) (c : ApiClass) where
  open known use {w, call, fit}

  abbrev h : Called
  h = called w call

  abbrev s : NativeInput
  s = seen_of w call

  abbrev args : List ℕ
  args = arguments_of call

  abbrev k : Kept
  k = call.runtime

  abbrev heap : Heap TaggedValue
  heap = call.heap

  abbrev Typed : Native → Type 0
  Typed native = AreOfKinds w.shapes heap call.arguments (takes native c)

  -- ---- Object and the exceptions

  aid_of_seen : (number : ℕ) → is_aid_object s number ≡ true → LeadsToClass w.shapes heap number (Api api.Aid)
  aid_of_seen number e = grind (arith, bare_object, unequal)

  equals_has : (t : Typed (OfObject objects.Equals)) → Has (members.equals h)
  equals_has t =
      has_reference known _ t 0 refl _ (has_reference known _ t 1 refl _
      (by_number (argument args 0 == argument args 1)))
    where
      by_aids : (b : Bool) → (is_aid_object s (argument args 0) && is_aid_object s (argument args 1)) ≡ b
          → Has (cond b (members.have_same_bytes h (argument args 0) (argument args 1)) (ends_with h (GivesWord 0)))
      by_aids b h1 = grind (arith, both, has_aid, aid_of_seen)

      by_number : (b : Bool)
          → Has (cond b (ends_with h (GivesWord 1)) (option_and_then (λ both.
          cond both (members.have_same_bytes h (argument args 0) (argument args 1)) (ends_with h (GivesWord 0)))
          (are_aids h)))
      by_number true = refl
      by_number false =
          has_and_goes _ (are_aids h) _ (both_aids w call) (aids_have known _ t refl refl) (by_aids _ refl)

  object_has : (native : ObjectNative) (t : Typed (OfObject native)) → Shows known c (OfObject native) t
      → Has ((members.object_member native).does h)
  object_has objects.Construct t shown = refl
  object_has objects.Equals t shown = equals_has t
  object_has native t shown = search (arith, has_reference, has_word, has_reason, object_leads)

  -- ---- AID

  aid_has : (native : AidNative) (t : Typed (OfAid native)) → Shows known c (OfAid native) t
      → Has ((members.aid_member native).does h)
  aid_has aids.Construct t shown =
      has_reference known _ t 0 refl _ (has_range known _ t 1 2 (ByteAt 3) refl refl refl refl (shown.1).0 _
      (λ bytes. requires_system h illegal_value (has_aid_length (length bytes)) _ refl))
  aid_has aids.Equals t shown =
      has_reference known _ t 0 refl _ (has_reference known _ t 1 refl _ (by_null (argument args 1 == 0) refl))
    where
      by_null : (b : Bool) → (argument args 1 == 0) ≡ b
          → Has (cond b (ends_with h (GivesWord 0)) (members.is_range h (argument args 0)))
      by_null true e = refl
      by_null false e = search (arith, has_aid, aid_at, has_range, there_unless_null)
  aid_has aids.GetBytes t shown =
      has_reference known _ t 0 refl _ (has_reference known _ t 1 refl _ (has_word known _ t 2 refl _
      (has_aid known _ t (argument args 0) (aid_at known _ t 0 refl) _ refl)))

  -- ---- APDU

  buffer_there : There heap apdu_buffer
  buffer_there = let b = own_object heap 11 _ fit.runtime_objects refl in record { object = b.object; found = b.found }

  buffer_has : (native : Native) (t : Typed native) (offset count : ℕ) (go : List ℕ → Option Work)
      → ((bytes : List ℕ) → Has (go bytes)) → Has (in_buffer h offset count go)
  buffer_has native t offset count go each =
      has_object known _ t apdu_buffer buffer_there _
      (requires_apdu h buffer_bounds (is_within (length (buffer_there.object).cells) offset count) _
      (has_bytes known _ t apdu_buffer (buffer_leads known) buffer_there offset count go (each _)))

  sends_has : (bytes : List ℕ) → Has (members.sends h bytes)
  sends_has bytes = requires_apdu h illegal_use (nat_le (length k.sent + length bytes) k.announced) _ refl

  apdu_has : (native : ApduNative) (t : Typed (OfApdu native)) → Shows known c (OfApdu native) t
      → Has ((members.apdu_member native).does h)
  apdu_has apdus.SetOutgoingAndSend t shown =
      has_word known _ t 1 refl _ (has_word known _ t 2 refl _ (requires_apdu h illegal_use (is_incoming k.state) _
      (requires_apdu h bad_length (nat_le (argument args 2) most_sent) _
      (buffer_has (OfApdu apdus.SetOutgoingAndSend) t (argument args 1) (argument args 2)
      (sends_at_once h (argument args 2)) (λ bytes. refl)))))
  apdu_has native t shown = search (arith, has_word, has_range, requires_apdu, buffer_has, sends_has)

  -- ---- Applet

  installing_has : (x : Option Installing) (go : Installing → Option Work) → ((i : Installing) → Has (go i))
      → Has (on_installing h x go)
  installing_has x go h1 = grind arith

  applet_has : (native : AppletNative) (t : Typed (OfApplet native)) → Shows known c (OfApplet native) t
      → Has ((members.applet_member native).does h)
  applet_has applets.Register t shown =
      has_reference known _ t 0 refl _ (has_object known _ t (argument args 0) shown.0 _
      (installing_has (members.allowed ((shown.0).object).owner k.installing)
      (λ i. Some (members.registers k i.owner.instance (argument args 0) ((shown.0).object).owner i.aid))
      (λ i. refl)))
  applet_has applets.RegisterBytes t shown =
      has_reference known _ t 0 refl _ (has_object known _ t (argument args 0) shown.0 _
      (installing_has (members.allowed ((shown.0).object).owner k.installing)
      (λ i. on_range h 1 2 (ByteAt 3) (members.registers_under h (argument args 0) ((shown.0).object).owner i))
      (λ i. has_range known _ t 1 2 (ByteAt 3) refl refl refl refl (shown.1).0 _
      (λ bytes. requires_system h illegal_value (has_aid_length (length bytes)) _ refl))))
  applet_has native t shown = refl

  -- ---- JCSystem

  system_has : (native : SystemNative) (t : Typed (OfSystem native)) → Shows known c (OfSystem native) t
      → Has ((members.system_member native).does h)
  system_has system.GetAid t shown = refl
  system_has native t shown = search (arith, has_range, has_reference, has_word, has_aid, of_leads)

  -- ---- Util

  utility_has : (native : UtilityNative) (t : Typed (OfUtility native)) → Shows known c (OfUtility native) t
      → Has ((members.utility_member native).does h)
  utility_has utilities.ArrayCopy t shown =
      has_reference known _ t 0 refl _ (has_word known _ t 1 refl _ (has_reference known _ t 2 refl _
      (has_word known _ t 3 refl _ (has_word known _ t 4 refl _
      (has_words known _ t (argument args 0) (bytes_at known _ t 0 refl) shown.0 (argument args 1) (argument args 4) _
      refl)))))
  utility_has native t shown = search (arith, has_range, has_reference, has_word, has_component, bytes_at)

  native_has : (native : Native) (t : Typed native) → Shows known c native t → Has ((member_of_native native).does h)
  native_has (OfObject native) t shown = object_has native t shown
  native_has (OfAid native) t shown = aid_has native t shown
  native_has (OfApdu native) t shown = apdu_has native t shown
  native_has (OfApplet native) t shown = applet_has native t shown
  native_has (OfSystem native) t shown = system_has native t shown
  native_has (OfUtility native) t shown = utility_has native t shown

-- ---- no member is stuck

abbrev is_stuck : NativeEnd → Bool
is_stuck (Gives value) = false
is_stuck (ThrowsObject object) = false
is_stuck (Calls callback) = false
is_stuck IsStuck = true

ending_goes : (ending : Ending) → is_stuck (end_of ending) ≡ false
ending_goes ending = grind arith

done_goes : (call : NativeCall Kept) (touches : List _) (work : Work) → is_stuck (done call touches work).ends ≡ false
done_goes call touches work = grind (arith, ending_goes)

ended_goes : (call : NativeCall Kept) (touches : List _) (end : TestEnd) (o : Option Work) → is_fit end ≡ true
    → (end ≡ Passed → Has o) → is_stuck (ended call touches end o).ends ≡ false
ended_goes call touches end o h1 h2 = grind (arith, unequal, done_goes)

module _ (known : Known) (m : ApiMember) (native : Native) (m_is : member_of (known.call).member ≡ Some m)
    (n_is : numbered natives (known.call).member ≡ Some native)
    (typed : AreTyped (known.w).shapes (known.call).heap m (known.call).arguments) where
  open known use {w, call, fit}

  its_kinds : AreOfKinds w.shapes call.heap call.arguments (takes native m.class)
  its_kinds = grind (arith, takes_so, of_kinds)

  begun_goes : is_stuck (begun w call (Some native)).ends ≡ false
  begun_goes = search (arith, ended_goes, tests_fit, takes, its_kinds, tests_suit, native_has, tests_show)

  begun_same : begun w call (Some native) ≡ begun_on_words w call (Some native)
  begun_same = by_like (begun_alike w call (Some native))
    where
      by_like : IsLike call (begun w call (Some native)) (begun_on_words w call (Some native))
          → begun w call (Some native) ≡ begun_on_words w call (Some native)
      by_like h1 = grind (arith, alike, stops, unequal, begun_goes)

  pub same_answer : answer_of w call ≡ answer_on_words w call
  same_answer = grind (arith, begun_same)
