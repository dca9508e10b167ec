-- Each answer of a native member is guarded.
use Rattle.std.proofs.Common.{◌≡◌, ◌⊎◌, inl, inr, ℕ, zero, suc, Bool, true, false, cond, List, [], ◌∷◌}
use Rattle.std.proofs.Common.{◌++◌, length, slice_get, Option, Some, None, refl, sym, ap, subst, ◌∙◌, arith}
use Rattle.std.proofs.lemmas.Bool.{eq-eqb}
use Rattle.std.proofs.lemmas.List.{length-replicate}
use Rattle.std.proofs.lemmas.Option.{none-some, same_Some, slice_get_cases, slice_get_past}
use Rattle.std.specs.List.{AllByRecursion}
use Rattle.jc_api.specs.Numbered.{numbered}
use Rattle.jc_firewall.specs.declared.access.Verdict.{Verdict}
use Rattle.jc_link.specs.Linked.{World}
use Rattle.jc_machine.specs.Calls.{native_may_begin}
use Rattle.jc_machine.specs.Guarded.{AreGuarded, ChangesAccessed, allowed, are_allowed, denied, is_blank, AddsFor}
use Rattle.jc_machine.specs.Guarded.{IsJudged}
use Rattle.jc_machine.specs.Machine.{ByRuntime, Callback, Calls, IsStuck, NativeCall, NativeEnd, ThrowsObject, Touch}
use Rattle.jc_machine.specs.Natives.{IsGuardedAnswer, IsModest, IsOfReceiver, IsRefusedAnswer, IsWithin, KeepsObjects}
use Rattle.jc_machine.specs.Natives.{setting_for, shareable_member, IsUnchanged}
use Rattle.jc_machine.specs.Runtime.{security_exception, system_exception}
use Rattle.jc_natives.specs.Cells.{Write, has_room, written}
use Rattle.jc_natives.specs.Kept.{Kept}
use Rattle.jc_natives.specs.Meaning.{answer_of, array_or_refusal, blank_of, did, done, end_of, made, meaning, new_array}
use Rattle.jc_natives.specs.Meaning.{own_touches, registering, unchanged, with_room}
use Rattle.jc_natives.specs.Members.{natives}
use Rattle.jc_natives.specs.PrivateCells.{argument}
use Rattle.jc_natives.specs.PrivateMeaning.{answer_on_words, begun_on_words, ended_on_words, work_of}
use Rattle.jc_natives.specs.PrivateMeaning.{row_of}
use Rattle.jc_natives.specs.declared.native.Elements.{Elements}
use Rattle.jc_natives.specs.PrivateSeen.{NativeInput, arguments_of, seen_of}
use Rattle.jc_natives.specs.PrivateTests.{Tested, by_verdict, followed, on_object, tested, used}
use Rattle.jc_natives.specs.Work.{Asks, Does, Ending, Makes, NewArray, Throws, Work, no_transient_space}
use Rattle.jc_natives.specs.declared.native.Native.{Native}
use Rattle.jc_natives.specs.declared.row.Use.TheVariants as ways
use Rattle.jc_store.specs.Heap.{Heap, Object, object_at, with_new}
use Rattle.jc_words.specs.Values.{TaggedValue, Word, Ref}
use Rattle.jc_machine.specs.Machine.{Gives, NativeAnswer}
use Rattle.jc_natives.proofs.Alike.{IsLike, alike, answers_alike, stops}
use Rattle.jc_natives.proofs.Guarding.{ArePlaced, IsPlaced, IsUse, all_both, all_replicate}
use Rattle.jc_natives.proofs.Guarding.{changes_accessed, got_front, keeps_itself, keeps_new, keeps_written, made_within}
use Rattle.jc_natives.proofs.Guarding.{natives_of, own_allowed, own_natives, same_found, tested_uses, written_as_large}
use Rattle.jc_natives.proofs.Reaching.{row_reaches}
use Rattle.jc_natives.proofs.Refusing.{Refuses, allowed_both, tested_decided}
use Rattle.jc_natives.proofs.Spared.{IsApartWork, SparesOwn, all_throw_own, throws_own, work_apart}
use Rattle.jc_natives.specs.declared.native.AppletNative.TheVariants as applets
use Rattle.jc_natives.specs.declared.native.Native.TheVariants.{OfApplet}

-- ---- objects that weren't there

none_more : (before after : Heap TaggedValue) (n : ℕ) (o : Object TaggedValue) → length after ≡ length before
    → slice_get after n ≡ Some o → slice_get before n ≡ None → ⊥
none_more before after n o same is none = grind (arith, slice_get_cases, none-some, slice_get_past)

none_new : (before after : Heap TaggedValue) (number : ℕ) (o : Object TaggedValue) → length after ≡ length before
    → object_at after number ≡ Some o → object_at before number ≡ None → ⊥
none_new before after number o h1 h2 h3 = grind (arith, none-some, none_more)

last_is : {A : Type 0} (xs : List A) (x y : A) (n : ℕ) → slice_get (xs ++ x ∷ []) n ≡ Some y → slice_get xs n ≡ None
    → y ≡ x
last_is [] x y zero e f = sym (same_Some x y e)
last_is [] x y (suc n) e f = absurd (none-some y e)
last_is (z ∷ xs) x y zero e f = absurd (none-some z (sym f))
last_is (z ∷ xs) x y (suc n) e f = last_is xs x y n e f

pub new_is : (heap : Heap TaggedValue) (x y : Object TaggedValue) (number : ℕ)
    → object_at (with_new heap x) number ≡ Some y
    → object_at heap number ≡ None → y ≡ x
new_is heap x y number h1 h2 = grind (arith, none-some, last_is)

-- the components of a new array are zero or null
are_blank : (elements : Elements) → is_blank (blank_of elements) ≡ true
are_blank elements = grind arith

-- ---- answers

-- what the runtime writes in its own name is named
owns : (call : NativeCall Kept) (touches : List Touch)
    → SparesOwn (IsPlaced (registering call.runtime) touches) call.runtime
owns call touches = grind (arith, eq-eqb)

-- ---- what it comes to, but for modesty

record IsFine (w : World) (call : NativeCall Kept) (a : NativeAnswer Kept) : Type 0 where
  touches : AllByRecursion (IsJudged (setting_for meaning w call)) a.touches
  guarded : AreGuarded a.touches (IsRefusedAnswer call a)
  kept : KeepsObjects call.heap a.heap
  changes : ChangesAccessed call.active.context a.touches call.heap a.heap
  adds : AddsFor call.active call.heap a.heap
  room : IsWithin call.limits call.heap → IsWithin call.limits a.heap
  calls : (callback : Callback) → a.ends ≡ Calls callback → IsUnchanged call a
  asks : (callback : Callback) → a.ends ≡ Calls callback → callback.member ≡ shareable_member

pub no_call : (ending : Ending) (callback : Callback) → end_of ending ≡ Calls callback → ⊥
no_call ending callback h1 = grind arith

abbrev asks_only : NativeEnd → Type 0
asks_only ends = (callback : Callback) → ends ≡ Calls callback → callback.member ≡ shareable_member

abbrev asked_member : NativeEnd → ℕ
asked_member (Gives value) = shareable_member
asked_member (ThrowsObject object) = shareable_member
asked_member (Calls callback) = callback.member
asked_member IsStuck = shareable_member

asks_so : (asked : Callback) → asked.member ≡ shareable_member → asks_only (Calls asked)
asks_so asked is callback e = sym (ap asked_member e) ∙ is

module _ (w : World) (call : NativeCall Kept) where
  -- nothing changes
  unchanged_fine : (touches : List Touch) (ends : NativeEnd) → AllByRecursion (IsUse w call) touches
      → AreGuarded touches (IsRefusedAnswer call (unchanged call touches ends)) → asks_only ends
      → IsFine w call (unchanged call touches ends)
  unchanged_fine touches ends uses guarded asks = grind (arith, natives_of, keeps_itself, same_found, none-some)

  did_fine : (touches : List Touch) (writes : List Write) (k : Kept) (ending : Ending)
      → AllByRecursion (IsUse w call) touches → are_allowed touches ≡ true
      → ArePlaced (registering call.runtime) touches writes
      → IsFine w call (did call touches writes k ending)
  did_fine touches writes k ending uses fine placed =
      let large = written_as_large call.heap writes in
      record {
        touches = all_both (IsJudged (setting_for meaning w call)) touches (own_touches call.heap writes)
            (natives_of w call touches uses) (own_natives w call touches writes placed);
        guarded = allowed (allowed_both touches (own_touches call.heap writes) fine (own_allowed w call writes));
        kept = keeps_written call.heap writes;
        changes = changes_accessed w call touches writes uses fine placed;
        adds = λ number o found none.
            absurd (none_new call.heap (written Word call.heap writes) number o large.objects found none);
        room = λ within.
            let o = within.objects in
            let c = within.cells in
            let a = large.objects in
            let b = large.cells in
            record { objects = omega (arith, o, a); cells = omega (arith, c, b) };
        calls = λ callback e. absurd (no_call ending callback e);
        asks = λ callback e. absurd (no_call ending callback e);
      }

  made_fine : (touches : List Touch) (array : NewArray) → AllByRecursion (IsUse w call) touches
      → are_allowed touches ≡ true → has_room call.limits.objects call.limits.cells call.heap array.size ≡ true
      → IsFine w call (made call touches array)
  made_fine touches array uses fine room = record {
    touches = natives_of w call touches uses;
    guarded = allowed fine;
    kept = keeps_new call.heap (new_array call.active array);
    changes = λ number o p before after. inl (stays number o p before after);
    adds = λ number o found none.
        let same = new_is call.heap (new_array call.active array) o number found none in record {
          whose = ap (λ (x : Object TaggedValue). x.owner) same;
          plain = ap (λ (x : Object TaggedValue). x.kind.mark) same;
          blank =
              subst (λ (x : Object TaggedValue). AllByRecursion (λ (v : TaggedValue). is_blank v ≡ true) x.cells)
              (sym same)
              (all_replicate (λ (v : TaggedValue). is_blank v ≡ true) array.size (blank_of array.elements)
              (are_blank array.elements));
        };
    room = λ within. made_within call.limits call.heap (new_array call.active array) array.size
        (length-replicate array.size _) room;
    calls = λ callback e. absurd cc;
    asks = λ callback e. absurd cc;
  }
    where
      stays : (number : ℕ) (o p : Object TaggedValue) → object_at call.heap number ≡ Some o
          → object_at (with_new call.heap (new_array call.active array)) number ≡ Some p → p.cells ≡ o.cells
      stays number o p h1 h2 = grind (arith, none-some, same_found, got_front)

  -- what it does, where what it writes is as it should be
  done_fine : (touches : List Touch) (work : Work) → AllByRecursion (IsUse w call) touches
      → are_allowed touches ≡ true
      → IsApartWork (IsPlaced (registering call.runtime) touches) (seen_of w call) call.runtime work
      → IsFine w call (done call touches
      (with_room call.limits.objects call.limits.cells call.heap call.runtime work))
  done_fine touches (Does writes k ending) uses fine placed = did_fine touches writes k ending uses fine placed.0
  done_fine touches (Makes array) uses fine placed =
      by_room (has_room call.limits.objects call.limits.cells call.heap array.size) refl
    where
      by_room : (b : Bool) → has_room call.limits.objects call.limits.cells call.heap array.size ≡ b
          → IsFine w call (done call touches (array_or_refusal b array call.runtime))
      by_room true e = made_fine touches array uses fine e
      by_room false e =
          did_fine touches (record {
            by = ByRuntime;
            object = system_exception;
            from = 0;
            words = no_transient_space ∷ [];
          } ∷ []) call.runtime (Throws system_exception) uses fine ((owns call touches).system, tt)
  done_fine touches (Asks question) uses fine placed = unchanged_fine touches _ uses (allowed fine) (asks_so _ refl)

  abbrev s : NativeInput
  s = seen_of w call

  abbrev args : List ℕ
  args = arguments_of call

  module _ (native : Native) (own : throws_own native ≡ true) where
    abbrev t : Tested
    t = tested s args (row_of native)

    abbrev work : Work
    work = work_of s call.runtime args native

    placed_work : t.thrown ≡ None → IsApartWork (IsPlaced (registering call.runtime) t.touches) s call.runtime work
    placed_work e =
        work_apart (IsPlaced (registering call.runtime) t.touches) s call.runtime (owns call t.touches) args native own
        (λ place way change by. record {
          code = λ f. row_reaches s args (row_of native) place way change e by;
          runtime = λ f. absurd cc;
        })

    by_thrown : (thrown : Option ℕ) → t.thrown ≡ thrown → (are_allowed t.touches ≡ true) ⊎ Refuses t
        → IsFine w call (ended_on_words call t.touches thrown work)
    by_thrown (Some object) e (inl fine) =
        unchanged_fine t.touches (ThrowsObject object) (tested_uses w call args (row_of native)).uses (allowed fine)
        (λ callback f. absurd cc)
    by_thrown (Some object) e (inr refuses) =
        unchanged_fine t.touches (ThrowsObject object) (tested_uses w call args (row_of native)).uses
        (denied refuses.0 (record {
          unchanged = record { heap = refl; runtime = refl };
          throws = ap ThrowsObject (same_Some object security_exception (sym e ∙ refuses.1));
        })) (λ callback f. absurd cc)
    by_thrown None e (inl fine) =
        done_fine t.touches work (tested_uses w call args (row_of native)).uses fine (placed_work e)
    by_thrown None e (inr refuses) = absurd (none-some security_exception (sym e ∙ refuses.1))

    native_fine : IsFine w call (begun_on_words w call (Some native))
    native_fine = by_thrown t.thrown refl (tested_decided s args (row_of native)).verdicts

  begun_fine : (number : ℕ) (o : Option Native) → numbered natives number ≡ o → IsFine w call (begun_on_words w call o)
  begun_fine number None e = unchanged_fine [] IsStuck tt (allowed refl) (λ callback f. absurd cc)
  begun_fine number (Some native) e = native_fine native (all_throw_own number native e)

  -- each answer
  answer_fine : IsFine w call (answer_on_words w call)
  answer_fine = by_begin (native_may_begin w.shapes call.heap call.member call.arguments)
    where
      by_begin : (b : Bool) → IsFine w call (cond b (begun_on_words w call (numbered natives call.member))
          (unchanged call [] IsStuck))
      by_begin true = begun_fine call.member (numbered natives call.member) refl
      by_begin false = unchanged_fine [] IsStuck tt (allowed refl) (λ callback f. absurd cc)

  -- ---- the member that others call

  module _ (number : ℕ) (rest : List TaggedValue) (first : call.arguments ≡ Ref number ∷ rest) where
    abbrev Of : Touch → Type 0
    Of = IsOfReceiver number

    followed_of : (t u : Tested) → AllByRecursion Of t.touches → AllByRecursion Of u.touches
        → AllByRecursion Of (followed t u).touches
    followed_of t u h k = grind (arith, all_both)

    verdict_of_it : (v : Verdict) → AllByRecursion Of (by_verdict s ways.Calls number v).touches
    verdict_of_it v = grind arith

    object_of_it : (o : Option (Object ℕ)) → AllByRecursion Of (on_object s ways.Calls number o).touches
    object_of_it o = grind (arith, verdict_of_it)

    used_of_it : AllByRecursion Of (used s ways.Calls (argument args 0)).touches
    used_of_it = grind (arith, object_of_it)

    abbrev shareable : Native
    shareable = OfApplet applets.GetShareable

    row_of_it : AllByRecursion Of (tested s args (row_of shareable)).touches
    row_of_it = grind (arith, followed_of, used_of_it)

    modest_end : (thrown : Option ℕ)
        → IsModest number call (ended_on_words call (tested s args (row_of shareable)).touches thrown
        (work_of s call.runtime args shareable))
    modest_end thrown = grind (arith, row_of_it, all_both)

    modest_begun : (b : Bool) → call.member ≡ shareable_member
        → IsModest number call (cond b (begun_on_words w call (numbered natives call.member))
        (unchanged call [] IsStuck))
    modest_begun b h1 = grind (arith, modest_end)

-- each answer on words is guarded
words_guarded : (w : World) (call : NativeCall Kept) → IsGuardedAnswer meaning w call (answer_on_words w call)
words_guarded w call =
    let a = answer_fine w call in record {
      touches = a.touches;
      guarded = a.guarded;
      kept = a.kept;
      changes = a.changes;
      adds = a.adds;
      room = a.room;
      calls = a.calls;
      asks = a.asks;
      modest = λ number rest is first.
          modest_begun w call number rest first
          (native_may_begin w.shapes call.heap call.member call.arguments) is;
    }

-- and so is one that is stuck behind some of its accesses
front_all : {A : Type 0} (P : A → Type 0) (xs ys : List A) → AllByRecursion P (xs ++ ys) → AllByRecursion P xs
front_all P [] ys all = tt
front_all P (x ∷ xs) ys all = (all.0, front_all P xs ys all.1)

module _ (w : World) (call : NativeCall Kept) (touches rest : List Touch) (b : NativeAnswer Kept)
    (front : b.touches ≡ touches ++ rest) where
  front_of : (P : Touch → Type 0) → AllByRecursion P b.touches → AllByRecursion P touches
  front_of P all = front_all P touches rest (subst (AllByRecursion P) front all)

  stuck_guarded : are_allowed touches ≡ true → IsGuardedAnswer meaning w call b
      → IsGuardedAnswer meaning w call (unchanged call touches IsStuck)
  stuck_guarded fine g = grind (arith, front_of, keeps_itself, same_found, none-some)

-- each answer is guarded
pub answers_guarded : (w : World) (call : NativeCall Kept) → IsGuardedAnswer meaning w call (answer_of w call)
answers_guarded w call = by_answer (answers_alike w call)
  where
    by_answer : IsLike call (answer_of w call) (answer_on_words w call)
        → IsGuardedAnswer meaning w call (answer_of w call)
    by_answer (alike e) = subst (IsGuardedAnswer meaning w call) (sym e) (words_guarded w call)
    by_answer (stops touches rest front fine e) =
        subst (IsGuardedAnswer meaning w call) (sym e)
        (stuck_guarded w call touches rest (answer_on_words w call) front fine (words_guarded w call))
