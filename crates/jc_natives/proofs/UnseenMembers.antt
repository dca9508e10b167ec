-- What members do is the same where objects are alike and their tests passed.
use Rattle.std.proofs.Common.{◌≡◌, ℕ, ◌+◌, ◌==◌, Bool, true, false, cond, List, [], ◌∷◌, Option, Some, arith}
use Rattle.std.proofs.Common.{refl, sym, ap, ◌∙◌, slice_get, nat_le}
use Rattle.std.specs.Option.{option_and_then, option_map_or}
use Rattle.jc_firewall.specs.Verdict.{runtime_context}
use Rattle.jc_link.specs.Linked.{World}
use Rattle.jc_machine.specs.Machine.{NativeCall}
use Rattle.jc_machine.specs.Runtime.{HasRuntimeObjects, null_pointer_exception}
use Rattle.jc_machine.specs.Unseen.{AreAlike, with_objects}
use Rattle.jc_names.specs.declared.owner.Owner.{Owner}
use Rattle.jc_natives.proofs.UnseenReads.{Reads, aid_same, and_then_both, buffer_same, bytes_same, uses_read}
use Rattle.jc_natives.proofs.UnseenReads.{word_same, words_same}
use Rattle.jc_natives.proofs.UnseenTests.{LengthReads, aids_same, any_objects, followed_passed, length_both}
use Rattle.jc_natives.specs.Checks.{CallsOtherAid, Checked, HasRange, Passed, Uses, UsesUnlessNull, are_aids}
use Rattle.jc_natives.specs.Checks.{calls_other, passed, refused, test, tested, unfit, uses}
use Rattle.jc_natives.specs.Kept.{Kept, is_incoming, is_length_set, most_sent}
use Rattle.jc_natives.specs.Members.{aid_member, apdu_member, applet_member, have_same_bytes, in_buffer, in_state}
use Rattle.jc_natives.specs.Members.{is_range, kept_of, member_of_native, object_member, on_allowed, on_installing}
use Rattle.jc_natives.specs.Members.{allowed, require_apdu, system_member, utility_member}
use Rattle.jc_natives.specs.Members.{ends_with}
use Rattle.jc_natives.specs.Taking.{Called, aid_in, as_reference, called, on_aid, on_bytes}
use Rattle.jc_natives.specs.Taking.{on_range, on_reference, on_word, word_at, words_in}
use Rattle.jc_natives.specs.Work.{GivesWord, Work, bad_length}
use Rattle.jc_natives.specs.declared.kept.Installing.{Installing}
use Rattle.jc_natives.specs.declared.native.AidNative.{AidNative}
use Rattle.jc_natives.specs.declared.native.AidNative.TheVariants as aids
use Rattle.jc_natives.specs.declared.native.ApduNative.{ApduNative}
use Rattle.jc_natives.specs.declared.native.ApduNative.TheVariants as apdus
use Rattle.jc_natives.specs.declared.native.AppletNative.{AppletNative}
use Rattle.jc_natives.specs.declared.native.AppletNative.TheVariants as applets
use Rattle.jc_natives.specs.declared.native.Native.{Native}
use Rattle.jc_natives.specs.declared.native.ObjectNative.{ObjectNative}
use Rattle.jc_natives.specs.declared.native.ObjectNative.TheVariants as objects
use Rattle.jc_natives.specs.declared.native.SystemNative.{SystemNative}
use Rattle.jc_natives.specs.declared.native.SystemNative.TheVariants as system
use Rattle.jc_natives.specs.declared.native.UtilityNative.{UtilityNative}
use Rattle.jc_natives.specs.declared.native.UtilityNative.TheVariants as utilities
use Rattle.jc_natives.specs.declared.row.Length.{Length}
use Rattle.jc_natives.specs.declared.row.Length.TheVariants as lengths
use Rattle.jc_natives.specs.declared.row.Use.{Use}
use Rattle.jc_natives.specs.declared.row.Use.TheVariants.{Calls, Fields, Loads, Stores}
use Rattle.jc_store.specs.Heap.{Heap, Object, object_at}
use Rattle.jc_words.specs.Values.{TaggedValue}

module _ (context : ℕ) (w : World) (call : NativeCall Kept) (K : Heap TaggedValue)
    (alike : AreAlike context call.heap K) (own : HasRuntimeObjects call.heap)
    (applet : call.active.context ≡ runtime_context → ⊥) (other : call.active.context ≡ context → ⊥) where
  abbrev H : Heap TaggedValue
  H = call.heap

  abbrev h : Called
  h = called w call

  abbrev k : Called
  k = called w (with_objects call K)

  abbrev Read : ℕ → Type 0
  Read place = Reads context w call K alike own applet other place

  reads_by : (place : ℕ) (way : Use) (null : Checked) → (uses h place way null).ends ≡ Passed → Read place
  reads_by place way null e = uses_read context w call K alike own applet other place way null e

  aids_by : (n : ℕ) → object_at H n ≡ object_at K n → aid_in H n ≡ aid_in K n
  aids_by n e = aid_same context w call K alike own applet other n e

  -- ---- arguments

  at_reference : {A : Type 0} (place : ℕ) (f g : ℕ → Option A)
      → ((n : ℕ) → option_and_then as_reference (slice_get call.arguments place) ≡ Some n → f n ≡ g n)
      → on_reference h place f ≡ on_reference k place g
  at_reference place f g same = grind (arith, and_then_both)

  at_word : {A : Type 0} (place : ℕ) (f g : ℕ → Option A) → ((n : ℕ) → f n ≡ g n)
      → on_word h place f ≡ on_word k place g
  at_word place f g same = grind (arith, and_then_both)

  at_aid : {A : Type 0} (n : ℕ) (f g : List ℕ → Option A) → object_at H n ≡ object_at K n
      → ((bs : List ℕ) → f bs ≡ g bs)
      → on_aid h n f ≡ on_aid k n g
  at_aid n f g e same = and_then_both (aid_in H n) (aid_in K n) f g (aids_by n e) (λ bs d. same bs)

  at_bytes : {A : Type 0} (n from count : ℕ) (f g : List ℕ → Option A) → object_at H n ≡ object_at K n
      → ((bs : List ℕ) → f bs ≡ g bs) → on_bytes h n from count f ≡ on_bytes k n from count g
  at_bytes n from count f g e same = grind (arith, and_then_both, bytes_same)

  at_component : {A : Type 0} (n i : ℕ) (f g : ℕ → Option A) → object_at H n ≡ object_at K n → ((x : ℕ) → f x ≡ g x)
      → option_and_then f (word_at H n i) ≡ option_and_then g (word_at K n i)
  at_component n i f g e same = grind (arith, and_then_both, word_same)

  at_range : {A : Type 0} (array offset : ℕ) (count : Length) → Read array → LengthReads context w call K alike count
      → (f g : List ℕ → Option A) → ((bs : List ℕ) → f bs ≡ g bs)
      → on_range h array offset count f ≡ on_range k array offset count g
  at_range array offset count reads length_reads f g same =
      at_reference array _ _ (λ number e. at_word offset _ _ (λ from.
      length_both context w call K alike aids_by count length_reads _ _ (λ n.
      at_bytes number from n f g (reads number e) same)))

  -- ---- members

  same_bytes_both : (one two : ℕ) → object_at H one ≡ object_at K one → object_at H two ≡ object_at K two
      → have_same_bytes h one two ≡ have_same_bytes k one two
  same_bytes_both one two e f = at_aid one _ _ e (λ bytes. at_aid two _ _ f (λ others. refl))

  equals_both : (uses h 0 Calls (refused null_pointer_exception)).ends ≡ Passed
      → (test h CallsOtherAid).ends ≡ Passed
      → (object_member objects.Equals).does h ≡ (object_member objects.Equals).does k
  equals_both e f =
      at_reference 0 _ _ (λ one is. at_reference 1 _ _ (λ two also. by_same one two is also (one == two)))
    where
      by_aids : (one two : ℕ) → object_at H one ≡ object_at K one
          → option_and_then as_reference (slice_get call.arguments 1) ≡ Some two → (aids : Bool)
          → are_aids h ≡ Some aids
          → cond aids (have_same_bytes h one two) (ends_with h (GivesWord 0))
          ≡ cond aids (have_same_bytes k one two) (ends_with k (GivesWord 0))
      by_aids one two same also true g =
          same_bytes_both one two same (reads_by 1 Calls (refused null_pointer_exception)
          (sym (ap (λ (o : Option Bool). (option_map_or (calls_other h) o unfit).ends) g) ∙ f) two also)
      by_aids one two same also false g = refl

      by_same : (one two : ℕ) → option_and_then as_reference (slice_get call.arguments 0) ≡ Some one
          → option_and_then as_reference (slice_get call.arguments 1) ≡ Some two → (b : Bool)
          → cond b (ends_with h (GivesWord 1))
          (option_and_then (λ aids. cond aids (have_same_bytes h one two) (ends_with h (GivesWord 0))) (are_aids h))
          ≡ cond b (ends_with k (GivesWord 1))
          (option_and_then (λ aids. cond aids (have_same_bytes k one two) (ends_with k (GivesWord 0))) (are_aids k))
      by_same one two is also true = refl
      by_same one two is also false = search (arith, and_then_both, aids_same, by_aids, reads_by)

  object_both : (native : ObjectNative) → (tested h (object_member native).tests).ends ≡ Passed
      → (object_member native).does h ≡ (object_member native).does k
  object_both objects.Construct e = refl
  object_both objects.Equals e =
      let a = followed_passed (test h (Uses 0 Calls)) (tested h (CallsOtherAid ∷ [])) e in
      equals_both a.0 (followed_passed (test h CallsOtherAid) passed a.1).0
  object_both objects.ConstructWithReason e = refl
  object_both objects.GetReason e =
      at_reference 0 _ _ (λ n is. at_component n 0 _ _ (reads_by 0 Calls (refused null_pointer_exception)
      (followed_passed (test h (Uses 0 Calls)) passed e).0 n is) (λ reason. refl))
  object_both objects.SetReason e = refl
  object_both (objects.ThrowIt object) e = refl

  is_range_both : (aid : ℕ) → object_at H aid ≡ object_at K aid → Read 1 → is_range h aid ≡ is_range k aid
  is_range_both aid e reads = at_aid aid _ _ e (λ bytes. at_range 1 2 (lengths.ByteAt 3) reads tt _ _ (λ bs. refl))

  aid_both : (native : AidNative) → (tested h (aid_member native).tests).ends ≡ Passed
      → (aid_member native).does h ≡ (aid_member native).does k
  aid_both aids.Construct e =
      let a = followed_passed (test h (Uses 0 Fields)) (tested h (Uses 1 Loads ∷ HasRange 1 2 (lengths.ByteAt 3) ∷ []))
      e in
      let b = followed_passed (test h (Uses 1 Loads)) (tested h (HasRange 1 2 (lengths.ByteAt 3) ∷ [])) a.1 in
      at_reference 0 _ _ (λ aid is.
      at_range 1 2 (lengths.ByteAt 3) (reads_by 1 Loads (refused null_pointer_exception) b.0) tt _ _ (λ bs. refl))
  aid_both aids.Equals e =
      let a = followed_passed (test h (Uses 0 Calls))
      (tested h (UsesUnlessNull 1 Loads ∷ HasRange 1 2 (lengths.ByteAt 3) ∷ [])) e in
      let b = followed_passed (test h (UsesUnlessNull 1 Loads)) (tested h (HasRange 1 2 (lengths.ByteAt 3) ∷ [])) a.1 in
      at_reference 0 _ _ (λ aid is. at_reference 1 _ _ (λ array also.
      ap (cond (array == 0) (ends_with h (GivesWord 0)))
      (is_range_both aid (reads_by 0 Calls (refused null_pointer_exception) a.0 aid is) (reads_by 1 Loads passed b.0))))
  aid_both aids.GetBytes e =
      let a = followed_passed (test h (Uses 0 Calls)) (tested h (Uses 1 Stores ∷ HasRange 1 2 (lengths.OfAid 0) ∷ [])) e
      in
      at_reference 0 _ _ (λ aid is. at_reference 1 _ _ (λ array also. at_word 2 _ _ (λ offset.
      at_aid aid _ _ (reads_by 0 Calls (refused null_pointer_exception) a.0 aid is) (λ bytes. refl))))

  in_buffer_both : (offset count : ℕ) (f g : List ℕ → Option Work) → ((bs : List ℕ) → f bs ≡ g bs)
      → in_buffer h offset count f ≡ in_buffer k offset count g
  in_buffer_both offset count f g same = grind (arith, buffer_same, and_then_both, at_bytes)

  apdu_both : (native : ApduNative) → (tested h (apdu_member native).tests).ends ≡ Passed
      → (apdu_member native).does h ≡ (apdu_member native).does k
  apdu_both apdus.GetBuffer e = refl
  apdu_both apdus.SetIncomingAndReceive e = refl
  apdu_both apdus.SetOutgoing e = refl
  apdu_both apdus.SetOutgoingLength e = refl
  apdu_both apdus.SendBytes e =
      at_word 1 _ _ (λ offset. at_word 2 _ _ (λ count.
      ap (in_state h (is_length_set (kept_of h).state)) (in_buffer_both offset count _ _ (λ bs. refl))))
  apdu_both apdus.SendBytesLong e =
      let a = followed_passed (test h (Uses 0 Calls)) (tested h (Uses 1 Loads ∷ HasRange 1 2 (lengths.ShortAt 3) ∷ []))
      e in
      let b = followed_passed (test h (Uses 1 Loads)) (tested h (HasRange 1 2 (lengths.ShortAt 3) ∷ [])) a.1 in
      ap (in_state h (is_length_set (kept_of h).state))
      (at_range 1 2 (lengths.ShortAt 3) (reads_by 1 Loads (refused null_pointer_exception) b.0) tt _ _ (λ bs. refl))
  apdu_both apdus.SetOutgoingAndSend e =
      at_word 1 _ _ (λ offset. at_word 2 _ _ (λ count.
      ap (in_state h (is_incoming (kept_of h).state))
      (ap (require_apdu h bad_length (nat_le count most_sent)) (in_buffer_both offset count _ _ (λ bs. refl)))))

  at_allowed : (f g : ℕ → Owner → Installing → Option Work)
      → ((n : ℕ) (owner : Owner) (i : Installing) → f n owner i ≡ g n owner i) → on_allowed h f ≡ on_allowed k g
  at_allowed f g same =
      at_reference 0 _ _ (λ n is.
      any_objects context w call K alike n
      (option_and_then (λ (object : Object TaggedValue). on_installing h (allowed object.owner (kept_of h).installing)
      (f n object.owner)))
      (option_and_then (λ (object : Object TaggedValue). on_installing k (allowed object.owner (kept_of h).installing)
      (g n object.owner)))
      refl (λ o cells e. by_installing n o.owner (allowed o.owner (kept_of h).installing)))
    where
      by_installing : (n : ℕ) (owner : Owner) (i : Option Installing)
          → on_installing h i (f n owner) ≡ on_installing k i (g n owner)
      by_installing n owner i = grind arith

  applet_both : (native : AppletNative) → (tested h (applet_member native).tests).ends ≡ Passed
      → (applet_member native).does h ≡ (applet_member native).does k
  applet_both applets.Register e = at_allowed _ _ (λ n owner i. refl)
  applet_both applets.RegisterBytes e =
      let a = followed_passed (test h (Uses 0 Calls)) (tested h (Uses 1 Loads ∷ HasRange 1 2 (lengths.ByteAt 3) ∷ [])) e
      in
      let b = followed_passed (test h (Uses 1 Loads)) (tested h (HasRange 1 2 (lengths.ByteAt 3) ∷ [])) a.1 in
      at_allowed _ _ (λ n owner i.
      at_range 1 2 (lengths.ByteAt 3) (reads_by 1 Loads (refused null_pointer_exception) b.0) tt _ _ (λ bs. refl))
  applet_both applets.Select e = refl
  applet_both applets.Deselect e = refl
  applet_both applets.Process e = refl
  applet_both applets.SelectingApplet e = refl
  applet_both applets.GetShareable e = refl

  system_both : (native : SystemNative) → (tested h (system_member native).tests).ends ≡ Passed
      → (system_member native).does h ≡ (system_member native).does k
  system_both system.GetAid e = refl
  system_both system.LookupAid e =
      let a = followed_passed (test h (Uses 0 Loads)) (tested h (HasRange 0 1 (lengths.ByteAt 2) ∷ [])) e in
      at_range 0 1 (lengths.ByteAt 2) (reads_by 0 Loads (refused null_pointer_exception) a.0) tt _ _ (λ bs. refl)
  system_both system.GetPreviousAid e = refl
  system_both system.AskForShareable e =
      let a = followed_passed (test h (Uses 0 Calls)) passed e in
      at_reference 0 _ _ (λ aid is. at_word 1 _ _ (λ byte.
      at_aid aid _ _ (reads_by 0 Calls (refused null_pointer_exception) a.0 aid is) (λ bytes. refl)))
  system_both system.MakeBooleans e = refl
  system_both system.MakeBytes e = refl
  system_both system.MakeShorts e = refl
  system_both system.MakeReferences e = refl

  utility_both : (native : UtilityNative) → (tested h (utility_member native).tests).ends ≡ Passed
      → (utility_member native).does h ≡ (utility_member native).does k
  utility_both utilities.ArrayCopy e =
      let reads = reads_by 0 Loads (refused null_pointer_exception) (followed_passed (test h (Uses 0 Loads)) _ e).0 in
      at_reference 0 _ _ (λ source is. at_word 1 _ _ (λ from. at_reference 2 _ _ (λ target also. at_word 3 _ _ (λ to.
      at_word 4 _ _ (λ count.
      and_then_both (words_in H source from count) (words_in K source from count) _ _
      (words_same context w call K alike own applet other source from count (reads source is)) (λ words d. refl))))))
  utility_both utilities.ArrayFill e = refl
  utility_both utilities.ArrayCompare e =
      let a = followed_passed (test h (Uses 0 Loads))
      (tested h (Uses 2 Loads ∷ HasRange 0 1 (lengths.ShortAt 4) ∷ HasRange 2 3 (lengths.ShortAt 4) ∷ [])) e in
      let b = followed_passed (test h (Uses 2 Loads))
      (tested h (HasRange 0 1 (lengths.ShortAt 4) ∷ HasRange 2 3 (lengths.ShortAt 4) ∷ [])) a.1 in
      at_range 0 1 (lengths.ShortAt 4) (reads_by 0 Loads (refused null_pointer_exception) a.0) tt _ _ (λ bytes.
      at_range 2 3 (lengths.ShortAt 4) (reads_by 2 Loads (refused null_pointer_exception) b.0) tt _ _ (λ others. refl))
  utility_both utilities.GetShort e =
      let reads = reads_by 0 Loads (refused null_pointer_exception) (followed_passed (test h (Uses 0 Loads)) _ e).0 in
      at_reference 0 _ _ (λ array is. at_word 1 _ _ (λ from.
      at_component array from _ _ (reads array is) (λ one.
      at_component array (from + 1) _ _ (reads array is) (λ two. refl))))
  utility_both utilities.SetShort e = refl
  utility_both utilities.MakeShort e = refl

  pub does_both : (native : Native) → (tested h (member_of_native native).tests).ends ≡ Passed
      → (member_of_native native).does h ≡ (member_of_native native).does k
  does_both native h1 = grind (arith, object_both, aid_both, apdu_both, applet_both, system_both, utility_both)
