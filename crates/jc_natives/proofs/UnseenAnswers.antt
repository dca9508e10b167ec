-- Members answer alike where objects are alike, called by an applet of another context.
use Rattle.std.proofs.Common.{◌≡◌, ℕ, suc, Bool, true, false, cond, not, List, [], ◌∷◌, ◌++◌}
use Rattle.std.proofs.Common.{Option, Some, None, refl, sym, ap, ◌∙◌, subst, arith}
use Rattle.std.specs.Option.{option_map_or}
use Rattle.jc_api.specs.Numbered.{numbered}
use Rattle.jc_firewall.specs.Verdict.{runtime_context}
use Rattle.jc_link.specs.Linked.{World}
use Rattle.jc_machine.specs.Apart.{is_applets}
use Rattle.jc_machine.specs.Calls.{native_may_begin}
use Rattle.jc_machine.specs.Machine.{By, ByCode, ByRuntime, Gives, IsStuck, NativeAnswer, NativeCall, Touch}
use Rattle.jc_machine.specs.Natives.{shareable_member}
use Rattle.jc_machine.specs.Runtime.{HasRuntimeObjects}
use Rattle.jc_machine.specs.Unseen.{AreAlike, AreNativesBlind, IsBlindAnswer, with_objects}
use Rattle.std.proofs.lemmas.Bool.{eq-eqb}
use Rattle.jc_machine.proofs.AlikeLaws.{as_large, as_long, new_both, thrown_seen}
use Rattle.jc_machine.proofs.AlikeLaws.{native_begins_both as begins_native}
use Rattle.jc_natives.proofs.AlikeLaws.{written_both}
use Rattle.jc_natives.proofs.Answering.{answers_guarded}
use Rattle.jc_natives.proofs.UnseenMembers.{does_both}
use Rattle.jc_natives.proofs.UnseenReads.{aid_same, uses_read}
use Rattle.jc_natives.proofs.UnseenTests.{TestsRead, any_objects, tested_same, uses_same}
use Rattle.jc_natives.specs.Cells.{Write}
use Rattle.jc_natives.proofs.UnseenThrown.{answers_throw_own}
use Rattle.jc_natives.specs.Checks.{Check, Checked, Passed, TestEnd, Uses}
use Rattle.jc_natives.specs.Checks.{passed, followed, test, tested, refused}
use Rattle.jc_machine.specs.Runtime.{null_pointer_exception}
use Rattle.jc_natives.specs.Kept.{Kept}
use Rattle.jc_natives.specs.Meaning.{answer_of, begun, done, ended, has_words, meaning}
use Rattle.jc_natives.specs.Meaning.{new_array, own_touch, own_touch_of, own_touches, touch_by, unchanged, with_room}
use Rattle.jc_natives.specs.Meaning.{worked}
use Rattle.jc_natives.specs.Members.{aid_member, apdu_member, applet_member, member_of_native, natives, object_member}
use Rattle.jc_natives.specs.Members.{system_member, utility_member}
use Rattle.jc_natives.specs.Taking.{Called, aid_in, called}
use Rattle.jc_natives.specs.Work.{Asks, Does, Makes, Work}
use Rattle.jc_natives.specs.declared.native.AidNative.{AidNative}
use Rattle.jc_natives.specs.declared.native.AidNative.TheVariants as aids
use Rattle.jc_natives.specs.declared.native.ApduNative.{ApduNative}
use Rattle.jc_natives.specs.declared.native.AppletNative.{AppletNative}
use Rattle.jc_natives.specs.declared.native.Native.{Native}
use Rattle.jc_natives.specs.declared.native.ObjectNative.{ObjectNative}
use Rattle.jc_natives.specs.declared.native.SystemNative.{SystemNative}
use Rattle.jc_natives.specs.declared.native.UtilityNative.{UtilityNative}
use Rattle.jc_natives.specs.declared.row.Length.{Length}
use Rattle.jc_natives.specs.declared.row.Length.TheVariants as lengths
use Rattle.jc_natives.specs.declared.row.Use.TheVariants.{Calls}
use Rattle.jc_store.specs.Heap.{Heap, Object, object_at}
use Rattle.jc_words.specs.Values.{Ref, TaggedValue}

-- the same, whatever is thrown
pub record IsSameTo (context : ℕ) (a b : NativeAnswer Kept) : Type 0 where
  pub touches : a.touches ≡ b.touches
  pub heap : AreAlike context a.heap b.heap
  pub runtime : a.runtime ≡ b.runtime
  pub ends : a.ends ≡ b.ends

-- ---- which tests read an AID's length

is_without_aid : Length → Bool
is_without_aid (lengths.ShortAt place) = true
is_without_aid (lengths.ByteAt place) = true
is_without_aid (lengths.Fixed count) = true
is_without_aid (lengths.OfAid place) = false

module _ (context : ℕ) (w : World) (call : NativeCall Kept) (K : Heap TaggedValue)
    (alike : AreAlike context call.heap K) where
  abbrev H : Heap TaggedValue
  H = call.heap

  abbrev other_call : NativeCall Kept
  other_call = with_objects call K

  abbrev h : Called
  h = called w call

  abbrev k : Called
  k = called w other_call

  -- ---- whether it begins

  native_begins_both : native_may_begin w.shapes H call.member call.arguments
      ≡ native_may_begin w.shapes K call.member call.arguments
  native_begins_both = begins_native context H K alike w.shapes call.member call.arguments

  -- ---- what is done

  abbrev pub Blind : NativeAnswer Kept → NativeAnswer Kept → Type 0
  Blind a b = IsSameTo context a b

  touch_both : (by : By) (n : ℕ) → touch_by by H n ≡ touch_by by K n
  touch_both ByCode n = refl
  touch_both ByRuntime n =
      any_objects context w call K alike n (λ x. option_map_or (λ (o : Object TaggedValue). own_touch n o ∷ []) x [])
      (λ x. option_map_or (λ (o : Object TaggedValue). own_touch n o ∷ []) x []) refl (λ o cells e. refl)

  own_both : (writes : List Write) → own_touches H writes ≡ own_touches K writes
  own_both [] = refl
  own_both (x ∷ writes) =
      ap (λ (ts : List Touch). cond (has_words x.words) ts [] ++ own_touches H writes) (touch_both x.by x.object)
      ∙ ap (λ (ts : List Touch). own_touch_of K x ++ ts) (own_both writes)

  unchanged_both : (touches : List Touch) → Blind (unchanged call touches IsStuck)
      (unchanged other_call touches IsStuck)
  unchanged_both touches = record { touches = refl; heap = alike; runtime = refl; ends = refl }

  done_both : (touches : List Touch) (work : Work) → Blind (done call touches work) (done other_call touches work)
  done_both touches (Does writes runtime ending) = record {
    touches = ap (λ (ts : List Touch). touches ++ ts) (own_both writes);
    heap = written_both context H K alike writes;
    runtime = refl;
    ends = refl;
  }
  done_both touches (Makes array) = record {
    touches = refl;
    heap = new_both context H K alike (new_array call.active array);
    runtime = refl;
    ends = ap (λ (n : ℕ). Gives (Some (Ref (suc n)))) (as_long context H K alike);
  }
  done_both touches (Asks question) = record { touches = refl; heap = alike; runtime = refl; ends = refl }

  -- where there is no room for an array on the one there is none on the other
  room_both : (work : Work)
      → with_room call.limits.objects call.limits.cells H call.runtime work
      ≡ with_room call.limits.objects call.limits.cells K call.runtime work
  room_both work = grind (arith, as_long, as_large)

  worked_both : (touches : List Touch) (o : Option Work) → Blind (worked call touches o) (worked other_call touches o)
  worked_both touches o = grind (arith, unchanged_both, room_both, done_both)

  ended_both : (touches : List Touch) (e : TestEnd) (o p : Option Work) → (e ≡ Passed → o ≡ p)
      → Blind (ended call touches e o) (ended other_call touches e p)
  ended_both touches e o p h1 = grind (arith, worked_both, unchanged_both)

  by_checked : (a b : Checked) (o p : Option Work) → a ≡ b → (a.ends ≡ Passed → o ≡ p)
      → Blind (ended call a.touches a.ends o) (ended other_call b.touches b.ends p)
  by_checked a b o p e same =
      subst (λ (c : Checked). Blind (ended call a.touches a.ends o) (ended other_call c.touches c.ends p)) e
      (ended_both a.touches a.ends o p same)

  -- ---- whom it is called by

  module _ (own : HasRuntimeObjects call.heap) (applet : call.active.context ≡ runtime_context → ⊥)
      (other : call.active.context ≡ context → ⊥) where
    aids_by : (n : ℕ) → object_at H n ≡ object_at K n → aid_in H n ≡ aid_in K n
    aids_by n e = aid_same context w call K alike own applet other n e

    abbrev Read : List Check → Type 0
    Read ts = TestsRead context w call K alike ts

    object_read : (native : ObjectNative) → Read (object_member native).tests
    object_read native = grind arith

    aid_read : (native : AidNative) → Read (aid_member native).tests
    aid_read aids.Construct = (tt, λ e. (tt, λ f. (tt, λ g. tt)))
    aid_read aids.Equals = (tt, λ e. (tt, λ f. (tt, λ g. tt)))
    aid_read aids.GetBytes = search (arith, uses_read)

    apdu_read : (native : ApduNative) → Read (apdu_member native).tests
    apdu_read native = grind arith

    applet_read : (native : AppletNative) → Read (applet_member native).tests
    applet_read native = grind arith

    system_read : (native : SystemNative) → Read (system_member native).tests
    system_read native = grind arith

    utility_read : (native : UtilityNative) → Read (utility_member native).tests
    utility_read native = grind arith

    tests_read : (native : Native) → Read (member_of_native native).tests
    tests_read native = grind (arith, object_read, aid_read, apdu_read, applet_read, system_read, utility_read)

    begun_both : (o : Option Native) → Blind (begun w call o) (begun w other_call o)
    begun_both None = unchanged_both []
    begun_both (Some native) =
        by_checked (tested h (member_of_native native).tests) (tested k (member_of_native native).tests)
        ((member_of_native native).does h) ((member_of_native native).does k)
        (tested_same context w call K alike aids_by (member_of_native native).tests (tests_read native))
        (does_both context w call K alike own applet other native)

    pub answers_both : Blind (answer_of w call) (answer_of w other_call)
    answers_both =
        subst (λ (b : Bool). Blind (answer_of w call)
        (cond b (begun w other_call (numbered natives call.member)) (unchanged other_call [] IsStuck)))
        native_begins_both
        (by_begin (native_may_begin w.shapes H call.member call.arguments))
      where
        by_begin : (b : Bool)
            → Blind (cond b (begun w call (numbered natives call.member)) (unchanged call [] IsStuck))
            (cond b (begun w other_call (numbered natives call.member)) (unchanged other_call [] IsStuck))
        by_begin b = grind (arith, begun_both, unchanged_both)

  -- ---- the one member that others have called

  pub modest_both : call.member ≡ shareable_member → Blind (answer_of w call) (answer_of w other_call)
  modest_both is =
      subst (λ (b : Bool). Blind (answer_of w call)
      (cond b (begun w other_call (numbered natives call.member)) (unchanged other_call [] IsStuck))) native_begins_both
      (by_begin (native_may_begin w.shapes H call.member call.arguments))
    where
      shareable_both : Blind (begun w call (numbered natives shareable_member))
          (begun w other_call (numbered natives shareable_member))
      shareable_both =
          by_checked (followed (test h (Uses 0 Calls)) passed) (followed (test k (Uses 0 Calls)) passed) _ _
          (ap (λ (a : Checked). followed a passed)
          (uses_same context w call K alike 0 Calls (refused null_pointer_exception)))
          (λ e. refl)

      by_begin : (b : Bool)
          → Blind (cond b (begun w call (numbered natives call.member)) (unchanged call [] IsStuck))
          (cond b (begun w other_call (numbered natives call.member)) (unchanged other_call [] IsStuck))
      by_begin b = grind (arith, shareable_both, unchanged_both)

-- the members of the API see nothing
pub members_blind : AreNativesBlind meaning
members_blind = record {
  members = λ context w call heap own applet other alike.
      seen_too context w call heap own (answers_both context w call heap alike own (applet_isnt call applet) other);
  modest = λ context w call heap own is alike.
      seen_too context w call heap own (modest_both context w call heap alike is);
}
  where
    seen_too : (context : ℕ) (w : World) (call : NativeCall Kept) (heap : Heap TaggedValue)
        → HasRuntimeObjects call.heap
        → IsSameTo context (answer_of w call) (answer_of w (with_objects call heap))
        → IsBlindAnswer context (answer_of w call) (answer_of w (with_objects call heap))
    seen_too context w call heap own same = record {
      touches = same.touches;
      heap = same.heap;
      runtime = same.runtime;
      ends = same.ends;
      thrown = λ number e.
          thrown_seen context call.heap (answer_of w call).heap (answers_guarded w call).kept own number
          (answers_throw_own w call number e);
    }

    unequal : false ≡ true → ⊥
    unequal g = cc

    applet_isnt : (call : NativeCall Kept) → is_applets call.active ≡ true → call.active.context ≡ runtime_context → ⊥
    applet_isnt call e f = unequal (sym (ap not (eq-eqb call.active.context runtime_context f)) ∙ e)
