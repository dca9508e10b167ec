-- What a member does on tagged values it does on words without tags, or it is stuck.
use Rattle.std.proofs.Common.{◌≡◌, ℕ, ◌==◌, ◌&&◌, ◌||◌, Bool, true, false, cond, List, [], ◌∷◌, bytes_eq}
use Rattle.std.proofs.Common.{length, nat_le, Option, Some, refl, sym, ap, subst, ◌∙◌, arith}
use Rattle.std.proofs.lemmas.Bool.{eq-eqb, ltb-true}
use Rattle.std.specs.Option.{option_and_then}
use Rattle.jc_link.specs.Linked.{World}
use Rattle.jc_machine.specs.Machine.{NativeCall}
use Rattle.jc_machine.specs.Runtime.{apdu_buffer}
use Rattle.jc_names.specs.declared.owner.Owner.{Owner}
use Rattle.jc_natives.proofs.Agreeing.{checks_of}
use Rattle.jc_natives.proofs.Bare.{bare_object}
use Rattle.jc_natives.proofs.Matching.{Only, at_aid, at_bytes, at_component, at_object, at_range, at_reference, at_word}
use Rattle.jc_natives.proofs.Matching.{at_words, both_aids, either, goes_with, just, size_is}
use Rattle.jc_natives.proofs.Ranges.{bytes_differ, length_of_bytes}
use Rattle.jc_natives.specs.Cells as cells
use Rattle.jc_natives.specs.Cells.{bit, extended, is_within}
use Rattle.jc_natives.specs.Checks.{are_aids}
use Rattle.jc_natives.specs.Kept.{Kept, has_aid_length, is_incoming, most_sent}
use Rattle.jc_natives.specs.Members as members
use Rattle.jc_natives.specs.Members.{allowed, ends_with, in_buffer, keeps_aid, makes_array, member_of_native}
use Rattle.jc_natives.specs.Members.{on_allowed, on_installing, sends, sends_at_once, sets_reason}
use Rattle.jc_natives.specs.PrivateAids.{aid_work, constructs}
use Rattle.jc_natives.specs.PrivateApdus.{apdu_work, is_in_buffer, unless_apdu}
use Rattle.jc_natives.specs.PrivateApdus as apdu
use Rattle.jc_natives.specs.PrivateApplets as applet
use Rattle.jc_natives.specs.PrivateApplets.{applet_work, owner_of}
use Rattle.jc_natives.specs.PrivateCells.{aid_bytes, aid_count, argument, bared, bytes_of, cell_of}
use Rattle.jc_natives.specs.PrivateMeaning.{work_of}
use Rattle.jc_natives.specs.PrivateObjects.{equals, have_same_aid, object_work}
use Rattle.jc_natives.specs.PrivateMeaning.{row_of}
use Rattle.jc_natives.specs.PrivateSeen.{NativeInput, arguments_of, is_aid_object, seen_of}
use Rattle.jc_natives.specs.PrivateSystem as systems
use Rattle.jc_natives.specs.PrivateSystem.{system_work}
use Rattle.jc_natives.specs.PrivateUtilities.{utility_work}
use Rattle.jc_natives.specs.Taking.{Called, aid_length, called, on_bytes}
use Rattle.jc_natives.specs.Work.{GivesWord, NoResult, Work, buffer_bounds, gives, illegal_value}
use Rattle.jc_natives.specs.Work.{unless_system, writes_to}
use Rattle.jc_natives.specs.declared.kept.Installing.{Installing}
use Rattle.jc_natives.specs.declared.native.AidNative.{AidNative}
use Rattle.jc_natives.specs.declared.native.AidNative.TheVariants as aids
use Rattle.jc_natives.specs.declared.native.ApduNative.{ApduNative}
use Rattle.jc_natives.specs.declared.native.ApduNative.TheVariants as apdus
use Rattle.jc_natives.specs.declared.native.AppletNative.{AppletNative}
use Rattle.jc_natives.specs.declared.native.AppletNative.TheVariants as applets
use Rattle.jc_natives.specs.declared.native.Elements.{Elements}
use Rattle.jc_natives.specs.declared.native.Native.{Native}
use Rattle.jc_natives.specs.declared.native.ObjectNative.{ObjectNative}
use Rattle.jc_natives.specs.declared.native.ObjectNative.TheVariants as objects
use Rattle.jc_natives.specs.declared.native.SystemNative.{SystemNative}
use Rattle.jc_natives.specs.declared.native.SystemNative.TheVariants as system
use Rattle.jc_natives.specs.declared.native.UtilityNative.{UtilityNative}
use Rattle.jc_natives.specs.declared.native.UtilityNative.TheVariants as utilities
use Rattle.jc_natives.specs.declared.row.Length.TheVariants.{ByteAt}
use Rattle.jc_store.specs.Heap.{Heap, Object, object_at}
use Rattle.jc_words.specs.Values.{TaggedValue}

-- ---- each member tests what its row says

pub same_tests : (native : Native) → checks_of (row_of native) ≡ (member_of_native native).tests
same_tests native = grind arith

-- ---- bytes of AIDs

-- lists of the same bytes are of the same length
counted_first : (m n : ℕ) (xs ys : List ℕ) → length xs ≡ m → length ys ≡ n → (m == n && bytes_eq xs ys) ≡ bytes_eq xs ys
counted_first m n xs ys e f = grind (arith, bytes_eq, bytes_differ, eq-eqb)

-- 16 at most
few : (count : ℕ) → cells.word (aid_length count) ≡ aid_length count
few count = grind (arith, ltb-true)

module _ (w : World) (call : NativeCall Kept) where
  abbrev h : Called
  h = called w call

  abbrev s : NativeInput
  s = seen_of w call

  abbrev args : List ℕ
  args = arguments_of call

  abbrev k : Kept
  k = call.runtime

  abbrev heap : Heap TaggedValue
  heap = call.heap

  abbrev o : Heap ℕ
  o = bared call.heap

  -- so many bytes
  aid_counted : (number : ℕ) → length (aid_bytes o number) ≡ aid_count o number
  aid_counted number = length_of_bytes o number 1 (aid_count o number)

  -- ---- Object and the exceptions

  same_bytes : (one other : ℕ)
      → Only (members.have_same_bytes h one other) (gives k (GivesWord (bit (have_same_aid o one other))))
  same_bytes one other = search (arith, at_aid, just, counted_first, aid_counted)

  two_equal : Only (members.equals h) (gives k (GivesWord (bit (equals s (argument args 0) (argument args 1)))))
  two_equal = at_reference w call 0 _ _ (at_reference w call 1 _ _ (by_number (argument args 0 == argument args 1)))
    where
      by_both : (b : Bool)
          → Only (cond b (members.have_same_bytes h (argument args 0) (argument args 1)) (ends_with h (GivesWord 0)))
          (gives k (GivesWord (bit (b && have_same_aid o (argument args 0) (argument args 1)))))
      by_both b = grind (arith, same_bytes, just)

      by_number : (b : Bool)
          → Only (cond b (ends_with h (GivesWord 1)) (option_and_then (λ both.
          cond both (members.have_same_bytes h (argument args 0) (argument args 1)) (ends_with h (GivesWord 0)))
          (are_aids h)))
          (gives k (GivesWord (bit (b || (is_aid_object s (argument args 0) && is_aid_object s (argument args 1))
          && have_same_aid o (argument args 0) (argument args 1)))))
      by_number b = grind (arith, just, goes_with, both_aids, by_both)

  reason_set : Only (sets_reason h) (writes_to k (argument args 0) 0 (cells.word (argument args 1) ∷ []) NoResult)
  reason_set = at_reference w call 0 _ _ (at_word w call 1 _ _ (just refl))

  object_does : (native : ObjectNative) → Only ((members.object_member native).does h) (object_work s k args native)
  object_does objects.Construct = just refl
  object_does native = search (arith, just, two_equal, reason_set, at_reference, at_component, at_word)

  -- ---- AID

  aid_kept : (aid array offset count : ℕ)
      → Only (keeps_aid h aid (bytes_of o array offset count)) (constructs s k aid array offset count)
  aid_kept aid array offset count = grind (arith, length_of_bytes, either, just)

  aid_does : (native : AidNative) → Only ((members.aid_member native).does h) (aid_work s k args native)
  aid_does aids.Construct =
      at_reference w call 0 _ _ (at_range w call 1 2 (ByteAt 3) _ _
      (aid_kept (argument args 0) (argument args 1) (argument args 2) (extended (argument args 3))))
  aid_does aids.Equals = at_reference w call 0 _ _ (at_reference w call 1 _ _ (by_null (argument args 1 == 0)))
    where
      by_null : (b : Bool)
          → Only (cond b (ends_with h (GivesWord 0)) (members.is_range h (argument args 0)))
          (gives k (GivesWord (bit (cond b false
          (aid_count o (argument args 0) == extended (argument args 3)
          && bytes_eq (aid_bytes o (argument args 0))
          (bytes_of o (argument args 1) (argument args 2) (extended (argument args 3))))))))
      by_null true = just refl
      by_null false = search (arith, just, at_aid, at_range, counted_first, aid_counted, length_of_bytes)
  aid_does aids.GetBytes =
      at_reference w call 0 _ _ (at_reference w call 1 _ _ (at_word w call 2 _ _
      (at_aid w call (argument args 0) _ _
      (just (ap (λ n. Some (writes_to k (argument args 1) (argument args 2) (aid_bytes o (argument args 0))
      (GivesWord n))) (aid_counted (argument args 0) ∙ sym (few (cell_of o (argument args 0) 0))))))))

  -- ---- APDU

  in_buffer_so : (offset count : ℕ) (go : List ℕ → Option Work) (work : Work)
      → Only (go (bytes_of o apdu_buffer offset count)) work
      → Only (in_buffer h offset count go) (unless_apdu k buffer_bounds (is_in_buffer s offset count) work)
  in_buffer_so offset count go work p =
      at_object w call apdu_buffer _ _ (λ buffer found.
      subst (λ n. Only (members.require_apdu h buffer_bounds (is_within (length buffer.cells) offset count)
      (on_bytes h apdu_buffer offset count go))
      (unless_apdu k buffer_bounds (is_within n offset count) work))
      (sym (size_is heap apdu_buffer buffer found))
      (either (is_within (length buffer.cells) offset count) _ _ _ _
      (at_bytes w call apdu_buffer offset count go work p) (just refl)))

  sends_so : (array offset count : ℕ)
      → Only (sends h (bytes_of o array offset count)) (apdu.sends s k array offset count)
  sends_so array offset count = grind (arith, nat_le, length_of_bytes, either, just)

  apdu_does : (native : ApduNative) → Only ((members.apdu_member native).does h) (apdu_work s k args native)
  apdu_does apdus.SetOutgoingAndSend =
      at_word w call 1 _ _ (at_word w call 2 _ _ (either (is_incoming k.state) _ _ _ _
      (either (nat_le (argument args 2) most_sent) _ _ _ _
      (in_buffer_so (argument args 1) (argument args 2) (sends_at_once h (argument args 2)) _ (just refl))
      (just refl)) (just refl)))
  apdu_does native = search (arith, just, either, at_word, at_range, in_buffer_so, sends_so)

  -- ---- Applet

  owner_is : (number : ℕ) (object : Object TaggedValue) → object_at heap number ≡ Some object
      → owner_of o number ≡ object.owner
  owner_is number object e = grind (arith, bare_object)

  installing_so : (x : Option Installing) (go : Installing → Option Work) (work : Installing → Work)
      → ((i : Installing) → Only (go i) (work i)) → Only (on_installing h x go) (applet.on_allowed k x work)
  installing_so x go work h1 = grind (arith, just)

  allowed_so : (go : ℕ → Owner → Installing → Option Work) (work : Owner → Installing → Work)
      → ((owner : Owner) (i : Installing) → Only (go (argument args 0) owner i) (work owner i))
      → Only (on_allowed h go) (applet.on_allowed k (applet.allowed s (argument args 0) k.installing)
      (work (owner_of o (argument args 0))))
  allowed_so go work p =
      at_reference w call 0 _ _ (at_object w call (argument args 0) _ _ (λ object found.
      subst (λ owner. Only (on_installing h (allowed object.owner k.installing) (go (argument args 0) object.owner))
      (applet.on_allowed k (allowed owner k.installing) (work owner)))
      (sym (owner_is (argument args 0) object found))
      (installing_so (allowed object.owner k.installing) _ _ (p object.owner))))

  registers_so : (i : Installing) (owner : Owner) (array offset count : ℕ)
      → Only (members.registers_under h (argument args 0) owner i (bytes_of o array offset count))
      (unless_system k illegal_value (has_aid_length count)
      (members.registers k i.owner.instance (argument args 0) owner (bytes_of o array offset count)))
  registers_so i owner array offset count = grind (arith, length_of_bytes, either, just)

  applet_does : (native : AppletNative) → Only ((members.applet_member native).does h) (applet_work s k args native)
  applet_does applets.Register =
      allowed_so _ (λ owner i. members.registers k i.owner.instance (argument args 0) owner i.aid)
      (λ owner i. just refl)
  applet_does applets.RegisterBytes =
      allowed_so _ (λ owner i. unless_system k illegal_value (has_aid_length (extended (argument args 3)))
      (members.registers k i.owner.instance (argument args 0) owner
      (bytes_of o (argument args 1) (argument args 2) (extended (argument args 3)))))
      (λ owner i. at_range w call 1 2 (ByteAt 3) _ _
      (registers_so i owner (argument args 1) (argument args 2) (extended (argument args 3))))
  applet_does native = just refl

  -- ---- JCSystem

  array_made : (elements : Elements) → Only (makes_array elements h) (systems.makes_array s k args elements)
  array_made elements = at_word w call 0 _ _ (at_word w call 1 _ _ (just refl))

  system_does : (native : SystemNative) → Only ((members.system_member native).does h) (system_work s k args native)
  system_does system.GetAid = just refl
  system_does native = search (arith, just, at_range, at_reference, at_word, at_aid, array_made)

  -- ---- Util

  utility_does : (native : UtilityNative)
      → Only ((members.utility_member native).does h) (utility_work s k args native)
  utility_does utilities.ArrayCopy =
      at_reference w call 0 _ _ (at_word w call 1 _ _ (at_reference w call 2 _ _ (at_word w call 3 _ _
      (at_word w call 4 _ _ (at_words w call (argument args 0) (argument args 1) (argument args 4) _ _
      (just refl))))))
  utility_does native = search (arith, just, at_range, at_reference, at_word, at_component)

  pub member_does : (native : Native) → Only ((member_of_native native).does h) (work_of s k args native)
  member_does native = grind (arith, object_does, aid_does, apdu_does, applet_does, system_does, utility_does)
