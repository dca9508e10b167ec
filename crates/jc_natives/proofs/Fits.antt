-- Native members keep objects typed and what the runtime keeps fitting, and end as they are declared to.
use Rattle.std.proofs.Common.{◌≡◌, ◌⊎◌, inl, inr, ℕ, ◌+◌, ◌/◌, ◌<◌, ◌&&◌, Bool, true, false, List, [], ◌∷◌, bytes_eq}
use Rattle.std.proofs.Common.{length, replicate, nat_le, nat_lt, Option, Some, None, refl, subst, arith}
use Rattle.std.proofs.lemmas.Bool.{leb-true, lt-ltb, ltb-true}
use Rattle.std.specs.List.{find}
use Rattle.std.specs.Option.{option_map_or}
use Rattle.jc_api.specs.Member.{ApiMember, member_of}
use Rattle.jc_api.specs.declared.class.ApiClass.{ApiClass}
use Rattle.jc_api.specs.declared.class.ApiClass.TheVariants as api
use Rattle.jc_api.specs.declared.member.MemberKind.TheVariants.{Static, Virtual}
use Rattle.jc_base.specs.Signature.{return_map, signature_map}
use Rattle.jc_base.specs.declared.declared_type.DeclaredType.TheVariants as types
use Rattle.jc_base.specs.declared.declared_type.ReturnType.TheVariants.{Value}
use Rattle.jc_classes.specs.Subtype.{is_class_below}
use Rattle.jc_link.specs.MemberType.{counted}
use Rattle.jc_machine.specs.Machine.{ByCode}
use Rattle.jc_machine.specs.Calls.{type_of_member}
use Rattle.jc_machine.specs.Lookup.{component_class, is_boolean_array, is_byte_array, is_of_class}
use Rattle.jc_machine.specs.Lookup.{is_short_array, leads_to}
use Rattle.jc_names.specs.declared.name.ClassName.TheVariants.{Api}
use Rattle.jc_natives.specs.MemberTypes.{counted_name}
use Rattle.jc_natives.proofs.Bare.{both}
use Rattle.jc_natives.proofs.Facts.{AreTyped, LeadsToClass, found_fits, object_bytes, object_class, static_bytes}
use Rattle.jc_natives.proofs.FitKept.{aid_reference, apdu_throw, command_fits, installing_aid, instances_fit}
use Rattle.jc_natives.proofs.FitKept.{made_given, makes_fit, on_allowed_fits, owner_reference, range_aid}
use Rattle.jc_natives.proofs.FitKept.{registers_fit, system_throw, throw_fits}
use Rattle.jc_natives.proofs.FitWork.{Answers, AsksWell, Fits, buffer_ends, either_fits, ended_fits, gives_as}
use Rattle.jc_natives.proofs.FitWork.{null_ends, tested_thrown, void_ends, word_ends}
use Rattle.jc_natives.proofs.FitWrites.{Known, aid_written, apdu_reason, bit_is, buffer_leads, bytes_are, bytes_fit}
use Rattle.jc_natives.proofs.FitWrites.{copied_fit, extended_is, iso_reason, listed_bytes_fit, low_is, order_is}
use Rattle.jc_natives.proofs.FitWrites.{runtime_reason, same_bytes_fit, system_reason, to_bytes, two_are, word_is}
use Rattle.jc_natives.proofs.Keeping.{FitsWrite, both_are}
use Rattle.jc_natives.proofs.Ranges.{length_of_bytes}
use Rattle.jc_natives.proofs.Simulation.{passed_some}
use Rattle.jc_natives.proofs.Takes as suits
use Rattle.jc_natives.proofs.Takes.{Gives, HasObject, HasReason, Suits}
use Rattle.jc_natives.specs.Cells.{extended, high, low}
use Rattle.jc_natives.specs.Kept.{Kept, are_bytes, expected_of, has_aid_length, instance_with, is_fresh}
use Rattle.jc_natives.specs.Kept.{is_incoming, is_length_set, is_outgoing}
use Rattle.jc_natives.specs.Meaning.{fits_instance, reference}
use Rattle.jc_natives.specs.Members.{aid_of_owner, event_of}
use Rattle.jc_natives.specs.PrivateAids.{aid_work, constructs, is_range}
use Rattle.jc_natives.specs.PrivateApdus.{apdu_work, is_in_buffer}
use Rattle.jc_natives.specs.PrivateApplets.{applet_work}
use Rattle.jc_natives.specs.PrivateCells.{aid_bytes, aid_count, argument, bared, bytes_of, cell_of, cells_from}
use Rattle.jc_natives.specs.PrivateMeaning.{begun_on_words, work_of}
use Rattle.jc_natives.specs.PrivateObjects.{equals, object_work}
use Rattle.jc_natives.specs.PrivateSeen.{NativeInput, arguments_of, seen_of}
use Rattle.jc_natives.specs.PrivateSystem.{asks, system_work}
use Rattle.jc_natives.specs.PrivateUtilities.{utility_work}
use Rattle.jc_natives.specs.Cells as cells
use Rattle.jc_natives.specs.Work.{Does, GivesReference, GivesWord, NoResult}
use Rattle.jc_natives.specs.declared.kept.Instance.{Instance}
use Rattle.jc_natives.specs.declared.native.AidNative.{AidNative}
use Rattle.jc_natives.specs.declared.native.AidNative.TheVariants as aids
use Rattle.jc_natives.specs.declared.native.ApduNative.{ApduNative}
use Rattle.jc_natives.specs.declared.native.ApduNative.TheVariants as apdus
use Rattle.jc_natives.specs.declared.native.AppletNative.{AppletNative}
use Rattle.jc_natives.specs.declared.native.AppletNative.TheVariants as applets
use Rattle.jc_natives.specs.declared.native.Elements.TheVariants as elements
use Rattle.jc_natives.specs.declared.native.Native.TheVariants.{OfAid, OfApdu, OfApplet, OfObject, OfSystem, OfUtility}
use Rattle.jc_natives.specs.declared.native.ObjectNative.{ObjectNative}
use Rattle.jc_natives.specs.declared.native.ObjectNative.TheVariants as objects
use Rattle.jc_natives.specs.declared.native.SystemNative.{SystemNative}
use Rattle.jc_natives.specs.declared.native.SystemNative.TheVariants as system
use Rattle.jc_natives.specs.declared.native.UtilityNative.{UtilityNative}
use Rattle.jc_natives.specs.declared.native.UtilityNative.TheVariants as utilities
use Rattle.jc_natives.specs.declared.native.Native.{Native}
use Rattle.jc_store.specs.Heap.{Heap}

module _ (known : Known) where
  open known use {w, call, there, supers, fit, given}

  -- ---- the members

  module _ (m : ApiMember) (numbered_is : member_of call.member ≡ Some m)
      (is : given.result ≡ return_map counted_name m.signature.result)
      (typed : AreTyped w.shapes call.heap m call.arguments)
      (asking : ApiMember) (asking_is : member_of 40 ≡ Some asking)
      (asked_type : type_of_member w.shapes 40 ≡ Some (signature_map counted_name asking.signature))
      (asking_class : asking.class ≡ api.Applet) (asking_kind : asking.kind ≡ Virtual)
      (asking_signature : signature_map counted_name asking.signature
      ≡ record {
        parameters = types.Reference (Api api.Aid) ∷ types.Byte ∷ [];
        result = Value (types.Reference (Api api.Object));
      })
    where
      abbrev s : NativeInput
      s = seen_of w call

      abbrev args : List ℕ
      args = arguments_of call

      abbrev k : Kept
      k = call.runtime

      abbrev o : Heap ℕ
      o = bared call.heap

      nothing_given : Gives suits.nothing m.signature.result → Fits known (Does [] k NoResult)
      nothing_given g = (tt, (fit.fits, void_ends known m.signature.result is g))

      word_given : (n : ℕ) → n < 65536 → Gives suits.a_word m.signature.result → Fits known (Does [] k (GivesWord n))
      word_given n small g = (tt, (fit.fits, word_ends known m.signature.result is n small g))

      null_given : Gives suits.shareable m.signature.result → Fits known (Does [] k (GivesReference 0))
      null_given g = (tt, (fit.fits, null_ends known m.signature.result is g))

      aid_given : (n : ℕ) → leads_to call.heap (is_of_class w.shapes (Api api.Aid)) (reference n) ≡ true
          → Gives suits.an_aid m.signature.result → Fits known (Does [] k (GivesReference n))
      aid_given n leads g = grind (arith, leads, gives_as)

      -- the object of a member
      object_is : (c : ApiClass) → HasObject m c → LeadsToClass w.shapes call.heap (argument args 0) (Api c)
      object_is c has =
          subst (λ d. LeadsToClass w.shapes call.heap (argument args 0) (Api d)) has.1
          (object_class w.shapes call.heap m call.arguments typed has.0)

      reason_is : (n : ℕ) → n < 65536 → HasReason m
          → FitsWrite w.shapes call.heap (record { by = ByCode; object = argument args 0; from = 0; words = n ∷ [] })
      reason_is n small has = by_class has.1
        where
          leads : (c : ApiClass) → m.class ≡ c → LeadsToClass w.shapes call.heap (argument args 0) (Api c)
          leads c e =
              subst (λ d. LeadsToClass w.shapes call.heap (argument args 0) (Api d)) e
              (object_class w.shapes call.heap m call.arguments typed has.0)

          by_class : (m.class ≡ api.CardRuntimeException)
              ⊎ ((m.class ≡ api.IsoException) ⊎ ((m.class ≡ api.SystemException) ⊎ (m.class ≡ api.ApduException)))
              → FitsWrite w.shapes call.heap (record {
                by = ByCode;
                object = argument args 0;
                from = 0;
                words = n ∷
                    [];
              })
          by_class (inl e) = runtime_reason known (argument args 0) n (leads api.CardRuntimeException e) small
          by_class (inr (inl e)) = iso_reason known (argument args 0) n (leads api.IsoException e) small
          by_class (inr (inr (inl e))) = system_reason known (argument args 0) n (leads api.SystemException e) small
          by_class (inr (inr (inr e))) = apdu_reason known (argument args 0) n (leads api.ApduException e) small

      reason_set : (n : ℕ) → n < 65536 → Gives suits.nothing m.signature.result → HasReason m
          → Fits known (Does (record { by = ByCode; object = argument args 0; from = 0; words = n ∷ [] } ∷ []) k
          NoResult)
      reason_set n small g has = (reason_is n small has, (fit.fits, void_ends known m.signature.result is g))

      -- ---- by class

      object_fits : (native : ObjectNative) → Suits (OfObject native) m → Fits known (object_work s k args native)
      object_fits objects.Construct g = nothing_given g
      object_fits objects.Equals g = word_given _ (bit_is (equals s (argument args 0) (argument args 1))) g
      object_fits objects.ConstructWithReason g =
          reason_set (cells.word (argument args 1)) (word_is (argument args 1)) g.0 g.1
      object_fits objects.GetReason g = word_given _ (word_is (cell_of o (argument args 0) 0)) g
      object_fits objects.SetReason g = reason_set (cells.word (argument args 1)) (word_is (argument args 1)) g.0 g.1
      object_fits (objects.ThrowIt object) g =
          throw_fits known object (cells.word (argument args 0)) (word_is (argument args 0)) g.1

      constructs_fit : (array offset count : ℕ) → HasObject m api.Aid → Gives suits.nothing m.signature.result
          → Fits known (constructs s k (argument args 0) array offset count)
      constructs_fit array offset count has g =
          either_fits known (has_aid_length count) _ _
          (λ e. (written_so e, (fit.fits, void_ends known m.signature.result is g)))
          (system_throw known 1 (omega arith))
        where
          written_so : has_aid_length count ≡ true
              → FitsWrite w.shapes call.heap
              (record {
                by = ByCode;
                object = argument args 0;
                from = 0;
                words = count ∷ bytes_of o array offset
                    count;
              })
          written_so e =
              let high = leb-true count 16 (both (nat_le 5 count) (nat_le count 16) e).1 in
              let count_is = length_of_bytes o array offset count in
              subst (λ n. FitsWrite w.shapes call.heap
              (record { by = ByCode; object = argument args 0; from = 0; words = n ∷ bytes_of o array offset count }))
              count_is
              (aid_written known (argument args 0) (bytes_of o array offset count) (object_is api.Aid has)
              (omega (arith, high, count_is)) (bytes_are o array offset count))

      aid_fits : (native : AidNative) → Suits (OfAid native) m → Fits known (aid_work s k args native)
      aid_fits aids.Construct g =
          constructs_fit (argument args 1) (argument args 2) (extended (argument args 3)) g.1 g.0
      aid_fits aids.Equals g =
          word_given _ (bit_is (is_range s (argument args 0) (argument args 1) (argument args 2)
          (extended (argument args 3)))) g
      aid_fits aids.GetBytes g = (
        to_bytes known (argument args 1) (argument args 2) (aid_bytes o (argument args 0))
            (object_bytes w.shapes call.heap m call.arguments typed (g.1).0 0 g.2)
            (bytes_fit w.shapes (argument args 2) o (argument args 0) 1 (aid_count o (argument args 0))),
        (fit.fits, word_ends known m.signature.result is _ (word_is (aid_count o (argument args 0))) g.0),
      )

      expected_is : expected_of k < 65536
      expected_is = grind (arith, ltb-true, both, nat_le, command_fits)

      apdu_fits : (native : ApduNative) → Suits (OfApdu native) m → Fits known (apdu_work s k args native)
      apdu_fits apdus.GetBuffer g = (tt, (fit.fits, buffer_ends known m.signature.result is g))
      apdu_fits apdus.SetIncomingAndReceive g =
          let parts = both (are_bytes k.incoming) (nat_le (length k.incoming) 255)
          (both (are_bytes k.incoming && nat_le (length k.incoming) 255) (nat_lt k.expected 256)
          (command_fits known)).0 in
          let short = leb-true (length k.incoming) 255 parts.1 in
          either_fits known (is_fresh k.state) _ _ (λ e. (
            to_bytes known 12 5 k.incoming (buffer_leads known) (listed_bytes_fit w.shapes 5 k.incoming parts.0),
            (fit.fits, word_ends known m.signature.result is (length k.incoming) (omega (arith, short)) g),
          )) (apdu_throw known 1 (omega arith))
      apdu_fits apdus.SetOutgoing g =
          either_fits known (is_incoming k.state) _ _
          (λ e. (tt, (fit.fits, word_ends known m.signature.result is (expected_of k) expected_is g)))
          (apdu_throw known 1 (omega arith))
      apdu_fits apdus.SetOutgoingLength g =
          either_fits known (is_outgoing k.state) _ _
          (λ e. either_fits known (nat_le (argument args 1) 256) _ _
          (λ f. (tt, (fit.fits, void_ends known m.signature.result is g)))
          (apdu_throw known 3 (omega arith))) (apdu_throw known 1 (omega arith))
      apdu_fits apdus.SendBytes g =
          either_fits known (is_length_set k.state) _ _
          (λ e. either_fits known (is_in_buffer s (argument args 1) (argument args 2)) _ _
          (λ f. either_fits known (nat_le (length k.sent + argument args 2) k.announced) _ _
          (λ h. (tt, (fit.fits, void_ends known m.signature.result is g))) (apdu_throw known 1 (omega arith)))
          (apdu_throw known 2 (omega arith))) (apdu_throw known 1 (omega arith))
      apdu_fits apdus.SendBytesLong g =
          either_fits known (is_length_set k.state) _ _
          (λ e. either_fits known (nat_le (length k.sent + argument args 3) k.announced) _ _
          (λ h. (tt, (fit.fits, void_ends known m.signature.result is g))) (apdu_throw known 1 (omega arith)))
          (apdu_throw known 1 (omega arith))
      apdu_fits apdus.SetOutgoingAndSend g =
          either_fits known (is_incoming k.state) _ _
          (λ e. either_fits known (nat_le (argument args 2) 256) _ _
          (λ f. either_fits known (is_in_buffer s (argument args 1) (argument args 2)) _ _
          (λ h. (tt, (fit.fits, void_ends known m.signature.result is g))) (apdu_throw known 2 (omega arith)))
          (apdu_throw known 3 (omega arith))) (apdu_throw known 1 (omega arith))

      applet_fits : (native : AppletNative) → Suits (OfApplet native) m → Fits known (applet_work s k args native)
      applet_fits applets.Register g =
          on_allowed_fits known m.signature.result is (argument args 0) _
          (λ i may. registers_fit known m.signature.result is (argument args 0) i.aid i may
          (installing_aid known m.signature.result is (argument args 0) i may) (object_is api.Applet g.1) g.0)
      applet_fits applets.RegisterBytes g =
          on_allowed_fits known m.signature.result is (argument args 0) _
          (λ i may. either_fits known (has_aid_length (extended (argument args 3))) _ _
          (λ e. registers_fit known m.signature.result is (argument args 0)
          (bytes_of o (argument args 1) (argument args 2) (extended (argument args 3))) i may
          (range_aid known m.signature.result is (argument args 1) (argument args 2) (extended (argument args 3)) e)
          (object_is api.Applet g.1) g.0)
          (system_throw known 1 (omega arith)))
      applet_fits applets.Select g = word_given 1 (omega arith) g
      applet_fits applets.Deselect g = nothing_given g
      applet_fits applets.Process g = nothing_given g
      applet_fits applets.SelectingApplet g = word_given _ (bit_is k.selecting) g
      applet_fits applets.GetShareable g = null_given g

      -- a question to an applet that is registered
      question_fits : (i : Instance) (n word : ℕ) → fits_instance w.shapes call.heap i ≡ true → word < 65536
          → leads_to call.heap (is_of_class w.shapes (Api api.Aid)) (reference n) ≡ true
          → Gives suits.shareable m.signature.result → m.kind ≡ Static
          → AsksWell known (record { object = i.object; aid = n; word = word })
      question_fits i n word fits small leads g kind = grind (arith, leads, both, passed_some, both_are, lt-ltb)

      asks_fit : (word : ℕ) (p : Instance → Bool) (x : Option Instance) → find p k.instances ≡ x
          → Gives suits.shareable m.signature.result → m.kind ≡ Static → Fits known (asks s k word x)
      asks_fit word p None e g kind = null_given g
      asks_fit word p (Some i) e g kind =
          question_fits i (aid_of_owner k (Some call.active)) (extended word)
          (found_fits w.shapes call.heap p k.instances i (instances_fit known) e) (extended_is word)
          (owner_reference known (Some call.active)) g kind

      system_fits : (native : SystemNative) → Suits (OfSystem native) m → Fits known (system_work s k args native)
      system_fits system.GetAid g =
          aid_given (aid_of_owner k (Some call.active)) (owner_reference known (Some call.active)) g
      system_fits system.LookupAid g =
          aid_given _ (aid_reference known
          (λ (i : Instance). bytes_eq i.aid
          (bytes_of o (argument args 0) (argument args 1) (extended (argument args 2))))
          (instance_with k.instances (bytes_of o (argument args 0) (argument args 1) (extended (argument args 2))))
          refl) g
      system_fits system.GetPreviousAid g =
          aid_given (aid_of_owner k call.previous) (owner_reference known call.previous) g
      system_fits system.AskForShareable g =
          asks_fit (argument args 1) (λ (i : Instance). bytes_eq i.aid (aid_bytes o (argument args 0)))
          (instance_with k.instances (aid_bytes o (argument args 0))) refl g.0 g.1
      system_fits system.MakeBooleans g =
          makes_fit known m.signature.result is elements.Booleans (argument args 0)
          (event_of (extended (argument args 1)))
          (λ event. made_given known m.signature.result is
          (record { elements = elements.Booleans; event = event; size = argument args 0 }) types.BooleanArray
          is_boolean_array g refl refl)
      system_fits system.MakeBytes g =
          makes_fit known m.signature.result is elements.Bytes (argument args 0)
          (event_of (extended (argument args 1)))
          (λ event. made_given known m.signature.result is
          (record { elements = elements.Bytes; event = event; size = argument args 0 }) types.ByteArray is_byte_array g
          refl refl)
      system_fits system.MakeShorts g =
          makes_fit known m.signature.result is elements.Shorts (argument args 0)
          (event_of (extended (argument args 1)))
          (λ event. made_given known m.signature.result is
          (record { elements = elements.Shorts; event = event; size = argument args 0 }) types.ShortArray
          is_short_array g refl refl)
      system_fits system.MakeReferences g =
          makes_fit known m.signature.result is elements.References (argument args 0)
          (event_of (extended (argument args 1)))
          (λ event. made_given known m.signature.result is
          (record { elements = elements.References; event = event; size = argument args 0 })
          (types.ReferenceArray api.Object)
          (λ object. option_map_or (λ e. is_class_below w.shapes (counted w.shapes e) (Api api.Object))
          (component_class object) false)
          g refl refl)

      utility_fits : (native : UtilityNative) → Suits (OfUtility native) m → Fits known (utility_work s k args native)
      utility_fits utilities.ArrayCopy g = (
        to_bytes known (argument args 2) (argument args 3)
            (cells_from o (argument args 0) (argument args 1) (argument args 4))
            (static_bytes w.shapes call.heap m call.arguments typed g.1 2 g.3)
            (copied_fit w.shapes (argument args 3) call.heap (argument args 0) (argument args 1) (argument args 4)
            fit.heap (static_bytes w.shapes call.heap m call.arguments typed g.1 0 g.2)),
        (fit.fits, word_ends known m.signature.result is _ (word_is (argument args 3 + argument args 4)) g.0),
      )
      utility_fits utilities.ArrayFill g = (
        to_bytes known (argument args 0) (argument args 1) (replicate (argument args 2) (low (argument args 3)))
            (static_bytes w.shapes call.heap m call.arguments typed g.1 0 g.2)
            (same_bytes_fit w.shapes (argument args 1) (argument args 2) (low (argument args 3))
            (low_is (argument args 3))),
        (fit.fits, word_ends known m.signature.result is _ (word_is (argument args 1 + argument args 2)) g.0),
      )
      utility_fits utilities.ArrayCompare g =
          word_given _ (order_is (bytes_of o (argument args 0) (argument args 1) (argument args 4))
          (bytes_of o (argument args 2) (argument args 3) (argument args 4))) g
      utility_fits utilities.GetShort g =
          word_given _ (two_are (cell_of o (argument args 0) (argument args 1))
          (cell_of o (argument args 0) (argument args 1 + 1))) g
      utility_fits utilities.SetShort g = (
        to_bytes known (argument args 0) (argument args 1) (high (argument args 2) ∷ low (argument args 2) ∷ [])
            (static_bytes w.shapes call.heap m call.arguments typed g.1 0 g.2)
            (low_is (argument args 2 / 256), (low_is (argument args 2), tt)),
        (fit.fits, word_ends known m.signature.result is _ (word_is (argument args 1 + 2)) g.0),
      )
      utility_fits utilities.MakeShort g = word_given _ (two_are (argument args 0) (argument args 1)) g

      work_fits : (native : Native) → Suits native m → Fits known (work_of s k args native)
      work_fits native h1 = grind (arith, object_fits, aid_fits, apdu_fits, applet_fits, system_fits, utility_fits)

      pub begun_fits : (native : Native) → Suits native m → Answers known (begun_on_words w call (Some native))
      begun_fits native g = search (arith, ended_fits, tested_thrown, work_fits)
