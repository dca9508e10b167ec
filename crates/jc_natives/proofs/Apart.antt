-- The law of the runtime's name: a member accesses no plain object in it, and what the runtime keeps names applets.
use Rattle.std.proofs.Common.{◌≡◌, ◌≢◌, inl, inr, ℕ, ◌==◌, not, Bool, true, false, cond, List, [], ◌∷◌, arith}
use Rattle.std.proofs.Common.{Option, Some, None, refl, sym, ap, subst, ◌∙◌, ◌||◌}
use Rattle.std.proofs.lemmas.Bool.{eq-eqb, eqb-true}
use Rattle.std.specs.List.{AllByRecursion, list_all}
use Rattle.std.specs.Option.{option_map, option_map_or}
use Rattle.jc_api.specs.Numbered.{numbered}
use Rattle.jc_firewall.specs.Verdict.{runtime, runtime_context}
use Rattle.jc_link.specs.Linked.{World}
use Rattle.std.specs.Prelude.{⊤}
use Rattle.jc_machine.specs.Apart.{AreNativesApart, IsSetApart, SparesPlain, is_applets}
use Rattle.jc_machine.specs.Guarded.{IsActive, IsJudged, is_runtimes}
use Rattle.jc_machine.specs.Natives.{setting_for}
use Rattle.jc_machine.specs.Calls.{native_may_begin}
use Rattle.jc_machine.specs.Machine.{By, ByCode, ByRuntime, IsStuck, NativeCall, Touch}
use Rattle.jc_machine.specs.Runtime.{HasRuntimeObject, HasRuntimeObjects, RuntimeObject, apdu_buffer, apdu_exception}
use Rattle.jc_machine.specs.Runtime.{iso_exception, system_exception}
use Rattle.jc_names.specs.declared.owner.Owner.{Owner}
use Rattle.jc_natives.proofs.Bare.{bare_object, both}
use Rattle.jc_natives.proofs.Between.{all_taken}
use Rattle.jc_natives.proofs.Facts.{own_aid, own_object}
use Rattle.jc_natives.proofs.Alike.{IsLike, alike, answers_alike, stops}
use Rattle.jc_natives.proofs.Answering.{answers_guarded}
use Rattle.jc_natives.proofs.Changed.{either_is}
use Rattle.jc_natives.proofs.Guarding.{same_found}
use Rattle.jc_natives.proofs.Holding.{HeldStays, made_holds, written_holds}
use Rattle.jc_machine.specs.Storable.{HoldStorable}
use Rattle.jc_natives.proofs.Keeping.{both_are}
use Rattle.jc_natives.proofs.Spared.{IsApartWork, SparesOwn, all_throw_own, roomy_apart, work_apart}
use Rattle.jc_natives.specs.Apart.{installs_applet, names_applets}
use Rattle.jc_natives.specs.Kept.{Kept, after_install, aid_object, is_instance_number, with_install}
use Rattle.jc_natives.specs.Meaning.{answer_of, done, meaning, registering, unchanged}
use Rattle.jc_natives.specs.Members.{natives}
use Rattle.jc_natives.specs.PrivateApplets.{owner_of}
use Rattle.jc_natives.specs.PrivateCells.{bare, bared}
use Rattle.jc_natives.specs.PrivateMeaning.{answer_on_words, begun_on_words, ended_on_words, work_of}
use Rattle.jc_natives.specs.PrivateMeaning.{row_of}
use Rattle.jc_natives.specs.PrivateSeen.{NativeInput, arguments_of, seen_of}
use Rattle.jc_natives.specs.PrivateTests.{tested}
use Rattle.jc_natives.specs.declared.kept.Installing.{Installing}
use Rattle.jc_natives.specs.Work.{Asks, Does, Makes, Work}
use Rattle.jc_natives.specs.declared.kept.Instance.{Instance}
use Rattle.jc_natives.specs.declared.native.Native.{Native}
use Rattle.jc_store.specs.Heap.{Heap, Object, object_at}
use Rattle.jc_store.specs.declared.kind.Mark.TheVariants.{GlobalArray, PermanentEntryPoint, Plain, TemporaryEntryPoint}
use Rattle.jc_words.specs.Values.{TaggedValue}

unequal : false ≡ true → ⊥
unequal g = cc

-- ---- the runtime's own objects

-- whatever object has this number, it isn't plain
abbrev SparesAt : Heap TaggedValue → ℕ → Type 0
SparesAt heap number = (o : Object TaggedValue) → object_at heap number ≡ Some o → o.kind.mark ≢ Plain

own_spares : (heap : Heap TaggedValue) (row : RuntimeObject) → HasRuntimeObject heap row → row.mark ≢ Plain
    → SparesAt heap row.number
own_spares heap row has apart o found plain = grind (arith, same_found)

temporary_is_not : TemporaryEntryPoint ≢ Plain
temporary_is_not e = cc

global_is_not : GlobalArray ≢ Plain
global_is_not e = cc

permanent_is_not : PermanentEntryPoint ≢ Plain
permanent_is_not e = cc

-- what the runtime accesses in its own name isn't plain
module _ (heap : Heap TaggedValue) (has : HasRuntimeObjects heap) (k : Kept) (named : names_applets k ≡ true) where
  spares_registered : (number : ℕ) (o : Option Installing) → option_map_or installs_applet o true ≡ true
      → option_map_or (λ n. n == number) (option_map (λ (i : Installing). aid_object i.owner.instance) o) false ≡ true
      → SparesAt heap number
  spares_registered number o h1 h2 = grind (arith, unequal, eqb-true, own_spares, own_aid, both, permanent_is_not)

  spares_exact : (number own : ℕ) → SparesAt heap own → (number == own) ≡ true → SparesAt heap number
  spares_exact number own spares e = subst (SparesAt heap) (sym (eqb-true number own e)) spares

  named_spares : (number : ℕ) → is_runtimes (registering k) number ≡ true → SparesAt heap number
  named_spares number e =
      elim (either_is (number == iso_exception || number == system_exception || number == apdu_exception
      || number == apdu_buffer) (option_map_or (λ n. n == number) (registering k) false) e) [
        | inr f ↦ spares_registered number k.installing
            (both (list_all of_applet_in k.instances) (option_map_or installs_applet k.installing true) named).1 f
        | inl f ↦
            elim (either_is (number == iso_exception || number == system_exception || number == apdu_exception)
            (number == apdu_buffer) f) [
              | inr g ↦ spares_exact number apdu_buffer
                  (own_spares heap _ (own_object heap 11 _ has refl) global_is_not) g
              | inl g ↦
                  elim (either_is (number == iso_exception || number == system_exception)
                  (number == apdu_exception) g) [
                    | inr h ↦ spares_exact number apdu_exception
                        (own_spares heap _ (own_object heap 9 _ has refl) temporary_is_not) h
                    | inl h ↦
                        elim (either_is (number == iso_exception) (number == system_exception) h) [
                          | inr j ↦ spares_exact number system_exception
                              (own_spares heap _ (own_object heap 8 _ has refl) temporary_is_not) j
                          | inl j ↦ spares_exact number iso_exception
                              (own_spares heap _ (own_object heap 7 _ has refl) temporary_is_not) j
                        ]
                  ]
            ]
      ]
    where
      of_applet_in : Instance → Bool
      of_applet_in i = is_applets i.owner

-- ---- owners

abbrev owner_in : {V : Type 0} → Option (Object V) → Owner
owner_in o = option_map_or (λ object. object.owner) o runtime

not_runtime : (owner : Owner) → (owner.context ≡ runtime_context → owner.instance ≡ 0)
    → is_instance_number owner.instance ≡ true → is_applets owner ≡ true
not_runtime owner none e = grind (arith, not, unequal, eqb-true)

-- an object of an instance that has a number is no object of the runtime's
owners_apart : (heap : Heap TaggedValue) → IsSetApart heap → (number : ℕ)
    → is_instance_number (owner_of (bared heap) number).instance ≡ true
    → is_applets (owner_of (bared heap) number) ≡ true
owners_apart heap apart number =
    subst (λ (o : Option (Object ℕ)). is_instance_number (owner_in o).instance ≡ true → is_applets (owner_in o) ≡ true)
    (sym (bare_object heap number)) (by_object (object_at heap number) refl)
  where
    by_object : (o : Option (Object TaggedValue)) → object_at heap number ≡ o
        → is_instance_number (owner_in (option_map bare o)).instance ≡ true
        → is_applets (owner_in (option_map bare o)) ≡ true
    by_object None f e = absurd (unequal e)
    by_object (Some o) f e = not_runtime o.owner (λ g. (apart.others number o f g).instance) e

-- ---- answers

module _ (w : World) (call : NativeCall Kept) (apart : IsSetApart call.heap)
    (active : is_applets call.active ≡ true) (kept : names_applets call.runtime ≡ true) where
  not_active : call.active.context ≡ runtime_context → ⊥
  not_active e = unequal (sym (ap not (eq-eqb call.active.context runtime_context e)) ∙ active)

  -- what its caller accesses isn't accessed as the runtime
  judged_spares : (by : By) (t : Touch) → IsActive (setting_for meaning w call) t by → SparesPlain call.heap t
  judged_spares ByCode t h e = absurd (not_active (sym h ∙ e))
  judged_spares ByRuntime t h e = named_spares call.heap apart.own call.runtime kept t.object h.1

  all_spare : (touches : List Touch) → AllByRecursion (IsJudged (setting_for meaning w call)) touches
      → AllByRecursion (SparesPlain call.heap) touches
  all_spare [] h = tt
  all_spare (t ∷ touches) h = (judged_spares t.by t (h.0).active, all_spare touches h.1)

  -- what the runtime keeps
  abbrev s : NativeInput
  s = seen_of w call

  abbrev args : List ℕ
  args = arguments_of call

  abbrev Any : By → ℕ → Type 0
  Any by number = ⊤

  done_kept : (touches : List Touch) (work : Work) → IsApartWork Any s call.runtime work
      → names_applets (done call touches work).runtime ≡ true
  done_kept touches work h1 = grind (arith, owners_apart)

  begun_kept : (number : ℕ) (o : Option Native) → numbered natives number ≡ o
      → names_applets (begun_on_words w call o).runtime ≡ true
  begun_kept number None e = kept
  begun_kept number (Some native) e = by_thrown (tested s args (row_of native)).thrown
    where
      any_own : SparesOwn Any call.runtime
      any_own = record { iso = tt; system = tt; apdu = tt; buffer = tt; registers = λ i f. tt }

      by_thrown : (o : Option ℕ) → names_applets (ended_on_words call (tested s args (row_of native)).touches o
          (work_of s call.runtime args native)).runtime ≡ true
      by_thrown (Some object) = kept
      by_thrown None = search (arith, done_kept, roomy_apart, any_own, work_apart, all_throw_own)

  words_kept : names_applets (answer_on_words w call).runtime ≡ true
  words_kept = by_begin (native_may_begin w.shapes call.heap call.member call.arguments)
    where
      by_begin : (b : Bool) → names_applets (cond b (begun_on_words w call (numbered natives call.member))
          (unchanged call [] IsStuck)).runtime ≡ true
      by_begin b = grind (arith, begun_kept)

  answer_kept : names_applets (answer_of w call).runtime ≡ true
  answer_kept = by_answer (answers_alike w call)
    where
      by_answer : IsLike call (answer_of w call) (answer_on_words w call)
          → names_applets (answer_of w call).runtime ≡ true
      by_answer h1 = grind (arith, alike, words_kept, stops)

-- what members leave holds what may be held
module _ (still : HeldStays) (w : World) (call : NativeCall Kept) (holds : HoldStorable call.heap) where
  done_holds : (touches : List Touch) (work : Work) → HoldStorable (done call touches work).heap
  done_holds touches (Does writes k ending) = written_holds still call.heap holds writes
  done_holds touches (Makes array) = made_holds still call.heap holds call.active array
  done_holds touches (Asks question) = holds

  begun_holds : (o : Option Native) → HoldStorable (begun_on_words w call o).heap
  begun_holds None = holds
  begun_holds (Some native) = by_thrown (tested (seen_of w call) (arguments_of call) (row_of native)).thrown
    where
      by_thrown : (o : Option ℕ) → HoldStorable (ended_on_words call
          (tested (seen_of w call) (arguments_of call) (row_of native)).touches o
          (work_of (seen_of w call) call.runtime (arguments_of call) native)).heap
      by_thrown o = grind (arith, done_holds)

  words_hold : HoldStorable (answer_on_words w call).heap
  words_hold = by_begin (native_may_begin w.shapes call.heap call.member call.arguments)
    where
      by_begin : (b : Bool) → HoldStorable (cond b (begun_on_words w call (numbered natives call.member))
          (unchanged call [] IsStuck)).heap
      by_begin b = grind (arith, begun_holds)

  answer_holds : HoldStorable (answer_of w call).heap
  answer_holds = by_answer (answers_alike w call)
    where
      by_answer : IsLike call (answer_of w call) (answer_on_words w call) → HoldStorable (answer_of w call).heap
      by_answer h1 = grind (arith, alike, words_hold, stops)

pub members_apart : HeldStays → AreNativesApart names_applets meaning
members_apart still w call apart active kept = record {
  spares = all_spare w call apart active kept (answer_of w call).touches (answers_guarded w call).touches;
  stored = answer_holds still w call apart.stored;
  kept = answer_kept w call apart active kept;
}

-- ---- calls of the runtime itself

pub begun_named : (k : Kept) → names_applets k ≡ true → (owner : Owner) (aid : List ℕ) → is_applets owner ≡ true
    → is_instance_number owner.instance ≡ true → names_applets (with_install k owner aid) ≡ true
begun_named k e owner aid f g = grind (arith, both, both_are)

pub over_named : (k : Kept) → names_applets k ≡ true → (succeeds : Bool)
    → names_applets (after_install k succeeds) ≡ true
over_named k e succeeds = grind (arith, both_are, not, all_taken, both)
