-- What a member answers on tagged values is what it answers on words without tags, or it is stuck behind some of the
-- accesses, all of which were allowed.
use Rattle.std.proofs.Common.{◌≡◌, ℕ, Bool, true, false, cond, List, [], ◌++◌, Option, Some, None, refl, sym, ap, arith}
use Rattle.std.proofs.Common.{append_assoc, subst, ◌∙◌}
use Rattle.std.proofs.lemmas.List.{append-nil}
use Rattle.jc_api.specs.Numbered.{numbered}
use Rattle.jc_link.specs.Linked.{World}
use Rattle.jc_machine.specs.Calls.{native_may_begin}
use Rattle.jc_machine.specs.Guarded.{are_allowed}
use Rattle.jc_machine.specs.Machine.{IsStuck, NativeAnswer, NativeCall, ThrowsObject, Touch}
use Rattle.jc_natives.proofs.Agreeing.{Agrees, same, stuck, tests_agree}
use Rattle.jc_natives.proofs.Matching.{Only, just, nothing}
use Rattle.jc_natives.proofs.Working.{member_does, same_tests}
use Rattle.jc_natives.specs.Checks as checks
use Rattle.jc_natives.specs.Checks.{Check, Passed, Refused, TestEnd, Unfit}
use Rattle.jc_natives.specs.Kept.{Kept}
use Rattle.jc_natives.specs.Meaning.{answer_of, begun, done, ended, unchanged, with_room}
use Rattle.jc_natives.specs.Members.{member_of_native, natives}
use Rattle.jc_natives.specs.PrivateMeaning.{answer_on_words, begun_on_words, ended_on_words, work_of}
use Rattle.jc_natives.specs.PrivateMeaning.{row_of}
use Rattle.jc_natives.specs.PrivateSeen.{NativeInput, arguments_of, seen_of}
use Rattle.jc_natives.specs.PrivateTests.{tested}
use Rattle.jc_natives.specs.Taking.{Called, called}
use Rattle.jc_natives.specs.Work.{Work}
use Rattle.jc_natives.specs.declared.native.Native.{Native}

pub data IsLike (call : NativeCall Kept) (a b : NativeAnswer Kept) : Type 0 where
  alike : a ≡ b → IsLike call a b
  stops : (touches rest : List Touch) → b.touches ≡ touches ++ rest → are_allowed touches ≡ true
      → a ≡ unchanged call touches IsStuck → IsLike call a b

-- what is done has the accesses of the tests first
record BeginsWith (call : NativeCall Kept) (touches : List Touch) (a : NativeAnswer Kept) : Type 0 where
  rest : List Touch
  is : a.touches ≡ touches ++ rest

done_begins : (call : NativeCall Kept) (touches : List Touch) (work : Work)
    → BeginsWith call touches (done call touches work)
done_begins call touches work = grind (arith, append-nil)

ended_begins : (call : NativeCall Kept) (touches : List Touch) (thrown : Option ℕ) (work : Work)
    → BeginsWith call touches (ended_on_words call touches thrown work)
ended_begins call touches thrown work = grind (arith, append-nil, done_begins)

-- how tests end, and what is done then
module _ (call : NativeCall Kept) (ts us : List Touch) (o : Option Work) (work : Work) (only : Only o work) where
  -- stuck with the accesses of the tests, or of some
  stops_so : (rest : List Touch) → us ≡ ts ++ rest → are_allowed ts ≡ true → (thrown : Option ℕ)
      → IsLike call (unchanged call ts IsStuck) (ended_on_words call us thrown work)
  stops_so rest e g thrown =
      let b = ended_begins call us thrown work in
      stops ts (rest ++ b.rest) (b.is ∙ ap (λ x. x ++ b.rest) e ∙ append_assoc ts rest b.rest) g refl

  works_so : ts ≡ us → are_allowed ts ≡ true → Only o work
      → IsLike call (ended call ts Passed o) (ended_on_words call us None work)
  works_so a g (just e) =
      alike (ap (ended call ts Passed) e
      ∙ ap (λ x. done call x (with_room call.limits.objects call.limits.cells call.heap call.runtime work)) a)
  works_so a g (nothing e) =
      subst (λ x. IsLike call (ended call ts Passed x) (ended_on_words call us None work)) (sym e)
      (stops_so [] (sym a ∙ sym (append-nil ts)) g None)

  ends_so : (te : TestEnd) (thrown : Option ℕ)
      → Agrees (record { touches = ts; ends = te }) (record { touches = us; thrown = thrown })
      → IsLike call (ended call ts te o) (ended_on_words call us thrown work)
  ends_so Passed None (same a b c) = works_so a (c refl) only
  ends_so Passed (Some object) (same a b c) = absurd cc
  ends_so Passed thrown (stuck rest e f g) = absurd cc
  ends_so (Refused object) None (same a b c) = absurd cc
  ends_so (Refused object) (Some other) (same a b c) =
      alike (ap (λ x. unchanged call x (ThrowsObject object)) a
      ∙ ap (λ x. unchanged call us (ThrowsObject x)) (same_object b))
    where
      same_object : Refused object ≡ Refused other → object ≡ other
      same_object e = ap number e
        where
          number : TestEnd → ℕ
          number Passed = object
          number (Refused n) = n
          number Unfit = object
  ends_so (Refused object) thrown (stuck rest e f g) = absurd cc
  ends_so Unfit None (same a b c) = absurd cc
  ends_so Unfit (Some object) (same a b c) = absurd cc
  ends_so Unfit thrown (stuck rest e f g) = stops_so rest e g thrown

module _ (w : World) (call : NativeCall Kept) where
  abbrev h : Called
  h = called w call

  abbrev s : NativeInput
  s = seen_of w call

  abbrev args : List ℕ
  args = arguments_of call

  member_agrees : (native : Native)
      → Agrees (checks.tested h (member_of_native native).tests) (tested s args (row_of native))
  member_agrees native =
      subst (λ (cs : List Check). Agrees (checks.tested h cs) (tested s args (row_of native))) (same_tests native)
      (tests_agree w call (row_of native))

  pub begun_alike : (o : Option Native) → IsLike call (begun w call o) (begun_on_words w call o)
  begun_alike None = alike refl
  begun_alike (Some native) =
      let t = checks.tested h (member_of_native native).tests in
      let u = tested s args (row_of native) in
      ends_so call t.touches u.touches ((member_of_native native).does h) (work_of s call.runtime args native)
      (member_does w call native) t.ends u.thrown (member_agrees native)

  pub answers_alike : IsLike call (answer_of w call) (answer_on_words w call)
  answers_alike = by_begin (native_may_begin w.shapes call.heap call.member call.arguments)
    where
      by_begin : (b : Bool)
          → IsLike call (cond b (begun w call (numbered natives call.member)) (unchanged call [] IsStuck))
          (cond b (begun_on_words w call (numbered natives call.member)) (unchanged call [] IsStuck))
      by_begin true = begun_alike (numbered natives call.member)
      by_begin false = alike refl
