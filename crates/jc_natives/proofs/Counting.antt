-- Members give no instance number out; so no call does.
use Rattle.std.proofs.Common.{◌≡◌, ℕ, ◌+◌, ◌==◌, not, Bool, cond, List, [], length, nat_le, arith}
use Rattle.std.proofs.Common.{Option, refl, ap, ◌∙◌}
use Rattle.std.proofs.lemmas.Bool.{eqb-true}
use Rattle.std.specs.Prelude.{⊤}
use Rattle.jc_api.specs.Numbered.{numbered}
use Rattle.jc_link.specs.Linked.{World}
use Rattle.jc_machine.specs.Calls.{native_may_begin}
use Rattle.jc_machine.specs.Keeping.{LeavesKept, MembersKeep}
use Rattle.jc_machine.specs.Machine.{IsStuck, NativeCall, Touch}
use Rattle.jc_machine.specs.Step.{CallEnd}
use Rattle.jc_natives.proofs.Alike.{IsLike, alike, answers_alike, stops}
use Rattle.jc_natives.specs.PrivateAids.{aid_work}
use Rattle.jc_natives.specs.PrivateApdus.{apdu_work, sends}
use Rattle.jc_natives.specs.PrivateApplets.{applet_work, on_allowed, registers}
use Rattle.jc_natives.specs.Counted.{LeavesNumbers}
use Rattle.jc_natives.specs.Kept.{Kept}
use Rattle.jc_natives.specs.Meaning.{answer_of, done, meaning, unchanged, with_room}
use Rattle.jc_natives.specs.Members.{natives}
use Rattle.jc_natives.specs.PrivateMeaning.{answer_on_words, begun_on_words, ended_on_words, work_of}
use Rattle.jc_natives.specs.PrivateObjects.{object_work}
use Rattle.jc_natives.specs.PrivateSeen.{NativeInput, seen_of}
use Rattle.jc_natives.specs.PrivateSystem.{asks, makes, system_work}
use Rattle.jc_natives.specs.PrivateUtilities.{utility_work}
use Rattle.jc_natives.specs.Work.{Asks, Does, Makes, Work}
use Rattle.jc_natives.specs.declared.kept.Installing.{Installing}
use Rattle.jc_natives.specs.declared.kept.Instance.{Instance}
use Rattle.jc_natives.specs.declared.native.AidNative.{AidNative}
use Rattle.jc_natives.specs.declared.native.ApduNative.{ApduNative}
use Rattle.jc_natives.specs.declared.native.AppletNative.{AppletNative}
use Rattle.jc_natives.specs.declared.native.Elements.{Elements}
use Rattle.jc_natives.specs.declared.native.Native.{Native}
use Rattle.jc_natives.specs.declared.native.ObjectNative.{ObjectNative}
use Rattle.jc_natives.specs.declared.native.SystemNative.{SystemNative}
use Rattle.jc_natives.specs.declared.native.UtilityNative.{UtilityNative}
use Rattle.jc_store.specs.Heap.{Heap}
use Rattle.jc_store.specs.declared.kind.ClearingEvent.{ClearingEvent}

-- ---- works

module _ (s : NativeInput) (k : Kept) where
  -- as many numbers were given out behind it
  abbrev pub LeavesAsMany : Work → Type 0
  LeavesAsMany (Does writes after ending) = after.numbers ≡ k.numbers
  LeavesAsMany (Makes array) = ⊤
  LeavesAsMany (Asks question) = ⊤

  either_same : (b : Bool) (x y : Work) → LeavesAsMany x → LeavesAsMany y → LeavesAsMany (cond b x y)
  either_same b x y h1 h2 = grind arith

  module _ (args : List ℕ) where
    object_same : (native : ObjectNative) → LeavesAsMany (object_work s k args native)
    object_same native = grind arith

    aid_same : (native : AidNative) → LeavesAsMany (aid_work s k args native)
    aid_same native = grind (arith, either_same)

    sends_same : (array offset count : ℕ) → LeavesAsMany (sends s k array offset count)
    sends_same array offset count = either_same (nat_le (length k.sent + count) k.announced) _ _ refl refl

    apdu_same : (native : ApduNative) → LeavesAsMany (apdu_work s k args native)
    apdu_same native = grind (arith, either_same, nat_le, sends_same)

    registers_same : (number object : ℕ) (aid : List ℕ) → LeavesAsMany (registers s k number object aid)
    registers_same number object aid = grind (arith, either_same, not)

    on_allowed_same : (o : Option Installing) (go : Installing → Work) → ((i : Installing) → LeavesAsMany (go i))
        → LeavesAsMany (on_allowed k o go)
    on_allowed_same o go h1 = grind arith

    applet_same : (native : AppletNative) → LeavesAsMany (applet_work s k args native)
    applet_same native = grind (arith, on_allowed_same, registers_same, either_same)

    asks_same : (word : ℕ) (o : Option Instance) → LeavesAsMany (asks s k word o)
    asks_same word o = grind arith

    makes_same : (elements : Elements) (size : ℕ) (event : Option ClearingEvent)
        → LeavesAsMany (makes s k elements size event)
    makes_same elements size event = grind (arith, either_same)

    system_same : (native : SystemNative) → LeavesAsMany (system_work s k args native)
    system_same native = grind (arith, asks_same, makes_same)

    utility_same : (native : UtilityNative) → LeavesAsMany (utility_work s k args native)
    utility_same native = grind arith

    work_same : (native : Native) → LeavesAsMany (work_of s k args native)
    work_same native = grind (arith, object_same, aid_same, apdu_same, applet_same, system_same, utility_same)

  -- also where there is no room for an array
  roomy_same : {V : Type 0} (objects cells : ℕ) (heap : Heap V) (work : Work) → LeavesAsMany work
      → LeavesAsMany (with_room objects cells heap k work)
  roomy_same objects cells heap work h1 = grind arith

-- ---- answers

module _ (w : World) (call : NativeCall Kept) where
  abbrev s : NativeInput
  s = seen_of w call

  done_same : (touches : List Touch) (work : Work) → LeavesAsMany s call.runtime work
      → (done call touches work).runtime.numbers ≡ call.runtime.numbers
  done_same touches work h1 = grind arith

  ended_same : (touches : List Touch) (thrown : Option ℕ) (work : Work) → LeavesAsMany s call.runtime work
      → (ended_on_words call touches thrown work).runtime.numbers ≡ call.runtime.numbers
  ended_same touches thrown work h1 = grind (arith, done_same, roomy_same)

  begun_same : (o : Option Native) → (begun_on_words w call o).runtime.numbers ≡ call.runtime.numbers
  begun_same o = grind (arith, ended_same, work_same)

  words_same : (answer_on_words w call).runtime.numbers ≡ call.runtime.numbers
  words_same = by_begin (native_may_begin w.shapes call.heap call.member call.arguments)
    where
      by_begin : (b : Bool) → (cond b (begun_on_words w call (numbered natives call.member))
          (unchanged call [] IsStuck)).runtime.numbers ≡ call.runtime.numbers
      by_begin b = grind (arith, begun_same)

  -- a member gives no number out
  pub answer_same : (answer_of w call).runtime.numbers ≡ call.runtime.numbers
  answer_same = by_words (answers_alike w call)
    where
      by_words : IsLike call (answer_of w call) (answer_on_words w call)
          → (answer_of w call).runtime.numbers ≡ call.runtime.numbers
      by_words h1 = grind (arith, alike, words_same, stops)

-- ---- calls

pub members_same : (numbers : ℕ) → MembersKeep (λ (k : Kept). k.numbers == numbers) meaning
members_same numbers w call same = ap (λ n. n == numbers) (answer_same w call) ∙ same

module _ (numbers : ℕ) where
  pub left_same : (ends : CallEnd Kept) → LeavesKept (λ (k : Kept). k.numbers == numbers) ends
      → LeavesNumbers numbers ends
  left_same ends h1 = grind (arith, eqb-true)
