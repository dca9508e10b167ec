-- What tests come to on tagged values they come to on words without tags, or they are stuck.
use Rattle.std.proofs.Common.{◌≡◌, ℕ, zero, suc, ◌==◌, ◌||◌, Bool, true, false, cond, List, [], ◌∷◌, ◌++◌}
use Rattle.std.proofs.Common.{append_assoc, map, slice_get, Option, Some, None, refl, sym, ap, subst, ◌∙◌, arith}
use Rattle.std.proofs.lemmas.Bool.{eqb-true}
use Rattle.std.specs.Option.{option_map, option_map_or}
use Rattle.jc_firewall.specs.Verdict.{verdict_of}
use Rattle.jc_firewall.specs.declared.access.Verdict.{Verdict}
use Rattle.jc_link.specs.Linked.{World}
use Rattle.jc_machine.specs.Going.{facts_in}
use Rattle.jc_machine.specs.Guarded.{are_allowed}
use Rattle.jc_machine.specs.Machine.{NativeCall, Touch}
use Rattle.jc_natives.proofs.Bare.{bare_object}
use Rattle.jc_natives.proofs.Matching.{Only, at_length, at_object, at_reference, at_word, both_aids, just, nothing}
use Rattle.jc_natives.proofs.Matching.{size_is}
use Rattle.jc_natives.specs.Cells.{bits, is_within}
use Rattle.jc_natives.specs.Checks as checks
use Rattle.jc_natives.specs.Checks.{CallsOtherAid, Check, Checked, HasRange, Passed, Refused, TestEnd, Unfit, Uses}
use Rattle.jc_natives.specs.Checks.{UsesUnlessNull, access_of, are_aids, calls_other, in_range, refused, unfit, uses}
use Rattle.jc_natives.specs.Checks.{uses_value}
use Rattle.jc_natives.specs.Kept.{Kept}
use Rattle.jc_natives.specs.PrivateCells.{argument, bare, bared, size_of}
use Rattle.jc_natives.specs.PrivateSeen.{NativeInput, arguments_of, seen_of}
use Rattle.jc_natives.specs.PrivateTests.{Tested, by_verdict, facts_of, fails, followed, goes_on, is_in_range}
use Rattle.jc_natives.specs.PrivateTests.{length_of, on_object, passes, ranged, test, tested, used}
use Rattle.jc_natives.specs.Taking.{Called, called}
use Rattle.jc_natives.specs.declared.row.Length.{Length}
use Rattle.jc_natives.specs.declared.row.Range.{Range}
use Rattle.jc_natives.specs.declared.row.MemberRow.{MemberRow}
use Rattle.jc_natives.specs.declared.row.Test.{Test}
use Rattle.jc_natives.specs.declared.row.Test.TheVariants as tests
use Rattle.jc_natives.specs.declared.row.Use.{Use}
use Rattle.jc_natives.specs.declared.row.Use.TheVariants as ways
use Rattle.jc_store.specs.Heap.{Heap, Object, object_at}
use Rattle.jc_words.specs.Values.{Null, Ref, TaggedValue, Unset, Word}

-- ---- what a row tests

abbrev of_test : Test → List Check → List Check
of_test tests.Nothing rest = rest
of_test (tests.Object place way) rest = Uses place way ∷ rest
of_test (tests.ObjectOrNull place way) rest = UsesUnlessNull place way ∷ rest
of_test tests.BesideAid rest = CallsOtherAid ∷ rest

abbrev of_range : Option Range → List Check → List Check
of_range None rest = rest
of_range (Some r) rest = HasRange r.array r.offset r.length ∷ rest

abbrev pub checks_of : MemberRow → List Check
checks_of row = of_test row.first (of_test row.second (of_range row.first_range (of_range row.second_range [])))

-- ---- both come to the same, or the tests on tagged values are stuck, with accesses that were allowed

abbrev pub end_by : Option ℕ → TestEnd
end_by None = Passed
end_by (Some object) = Refused object

pub data Agrees (t : Checked) (u : Tested) : Type 0 where
  same : t.touches ≡ u.touches → t.ends ≡ end_by u.thrown → (t.ends ≡ Passed → are_allowed t.touches ≡ true)
      → Agrees t u
  stuck : (rest : List Touch) → u.touches ≡ t.touches ++ rest → t.ends ≡ Unfit → are_allowed t.touches ≡ true
      → Agrees t u

abbrev ending : List Touch → TestEnd → Checked
ending touches ends = record { touches = touches; ends = ends }

abbrev throwing : List Touch → Option ℕ → Tested
throwing touches thrown = record { touches = touches; thrown = thrown }

stops : (u : Tested) → Agrees unfit u
stops u = stuck u.touches refl refl refl

all_allowed : (xs ys : List Touch) → are_allowed xs ≡ true → are_allowed ys ≡ true → are_allowed (xs ++ ys) ≡ true
all_allowed [] ys e f = f
all_allowed (x ∷ xs) ys e f = grind (arith, all_allowed xs ys)

-- one test behind another
module _ (ts us : List Touch) (t : Checked) (u : Tested) where
  behind_passed : ts ≡ us → are_allowed ts ≡ true → Agrees t u
      → Agrees (ending (ts ++ t.touches) t.ends) (throwing (us ++ u.touches) u.thrown)
  behind_passed a c (same a2 b2 c2) =
      same (ap (λ x. x ++ t.touches) a ∙ ap (λ x. us ++ x) a2) b2 (λ e. all_allowed ts t.touches c (c2 e))
  behind_passed a c (stuck rest e f g) =
      stuck rest
      (ap (λ x. us ++ x) e ∙ ap (λ x. x ++ (t.touches ++ rest)) (sym a) ∙ sym (append_assoc ts t.touches rest)) f
      (all_allowed ts t.touches c g)

  both_follow : (te : TestEnd) (ue : Option ℕ) → Agrees (ending ts te) (throwing us ue) → Agrees t u
      → Agrees (checks.goes_on ts te t) (goes_on us ue u)
  both_follow Passed None (same a b c) k = behind_passed a (c refl) k
  both_follow Passed (Some object) (same a b c) k = absurd cc
  both_follow Passed ue (stuck rest e f g) k = absurd cc
  both_follow (Refused object) None (same a b c) k = absurd cc
  both_follow (Refused object) (Some other) (same a b c) k = same a b (λ e. absurd cc)
  both_follow (Refused object) ue (stuck rest e f g) k = absurd cc
  both_follow Unfit None (same a b c) k = absurd cc
  both_follow Unfit (Some object) (same a b c) k = absurd cc
  both_follow Unfit None (stuck rest e f g) k =
      stuck (rest ++ u.touches) (ap (λ x. x ++ u.touches) e ∙ append_assoc ts rest u.touches) refl g
  both_follow Unfit (Some object) (stuck rest e f g) k = stuck rest e refl g

follow : (t t2 : Checked) (u u2 : Tested) → Agrees t u → Agrees t2 u2 → Agrees (checks.followed t t2) (followed u u2)
follow t t2 u u2 a b = both_follow t.touches u.touches t2 u2 t.ends u.thrown a b

not_zero : (n : ℕ) → (suc n == 0) ≡ false
not_zero n = grind (arith, eqb-true)

module _ (w : World) (call : NativeCall Kept) where
  abbrev h : Called
  h = called w call

  abbrev s : NativeInput
  s = seen_of w call

  abbrev args : List ℕ
  args = arguments_of call

  abbrev heap : Heap TaggedValue
  heap = call.heap

  -- ---- accesses

  -- the verdict on such an access hangs on no interface
  same_verdict : (way : Use) (o : Object TaggedValue)
      → verdict_of (access_of way) call.active.context (facts_in w.shapes call.selected o None false)
      ≡ verdict_of (access_of way) call.active.context (facts_of s (bare o))
  same_verdict way o = grind arith

  verdict_agrees : (way : Use) (number : ℕ) (v : Verdict)
      → Agrees (checks.by_verdict h way number v) (by_verdict s way number v)
  verdict_agrees way number v = grind arith

  judged_agrees : (way : Use) (number : ℕ) (o : Object TaggedValue)
      → Agrees (checks.judged h way number o) (on_object s way number (Some (bare o)))
  judged_agrees way number o = grind (arith, same_verdict, verdict_agrees)

  -- an object, where null comes to something of its own
  module _ (way : Use) (null : Checked) (also : Tested) (nulls : Agrees null also) where
    abbrev used_so : ℕ → Tested
    used_so number = cond (number == 0) also (used s way number)

    object_agrees : (n : ℕ) → Agrees (option_map_or (checks.judged h way n) (object_at heap n) unfit) (used_so n)
    object_agrees zero = stops (used_so 0)
    object_agrees (suc n) =
        subst (λ b. Agrees (option_map_or (checks.judged h way (suc n)) (object_at heap (suc n)) unfit)
        (cond b also (used s way (suc n)))) (sym (not_zero n))
        (subst (λ o. Agrees (option_map_or (checks.judged h way (suc n)) (object_at heap (suc n)) unfit)
        (on_object s way (suc n) o)) (sym (bare_object heap (suc n))) (by_object (object_at heap (suc n))))
      where
        by_object : (o : Option (Object TaggedValue))
            → Agrees (option_map_or (checks.judged h way (suc n)) o unfit)
            (on_object s way (suc n) (option_map bare o))
        by_object None = stops _
        by_object (Some o) = judged_agrees way (suc n) o

    value_agrees : (v : TaggedValue) → Agrees (uses_value h way null v) (used_so (bits v))
    value_agrees (Word n) = stops (used_so n)
    value_agrees (Ref n) = object_agrees n
    value_agrees Null = nulls
    value_agrees Unset = stops (used_so 0)

    among_agrees : (vs : List TaggedValue) (place : ℕ)
        → Agrees (option_map_or (uses_value h way null) (slice_get vs place) unfit)
        (used_so (argument (map bits vs) place))
    among_agrees [] place = stops _
    among_agrees (v ∷ vs) zero = value_agrees v
    among_agrees (v ∷ vs) (suc place) = among_agrees vs place

    uses_agree : (place : ℕ) → Agrees (uses h place way null) (used_so (argument args place))
    uses_agree place = among_agrees call.arguments place

  -- null is no object
  not_null : (way : Use) (number : ℕ) → cond (number == 0) (fails 6) (used s way number) ≡ used s way number
  not_null way number = grind (arith, not_zero)

  object_used : (place : ℕ) (way : Use) → Agrees (uses h place way (refused 6)) (used s way (argument args place))
  object_used place way =
      subst (Agrees (uses h place way (refused 6))) (not_null way (argument args place))
      (uses_agree way (refused 6) (fails 6) (same refl refl (λ e. absurd cc)) place)

  by_aids : (o : Option Bool) (b : Bool) → Only o b
      → Agrees (option_map_or (calls_other h) o unfit) (cond b (used s ways.Calls (argument args 1)) passes)
  by_aids o b (nothing e) =
      subst (λ x. Agrees (option_map_or (calls_other h) x unfit) (cond b (used s ways.Calls (argument args 1)) passes))
      (sym e) (stops _)
  by_aids o b (just e) =
      subst (λ x. Agrees (option_map_or (calls_other h) x unfit) (cond b (used s ways.Calls (argument args 1)) passes))
      (sym e) (by_both b)
    where
      by_both : (b : Bool) → Agrees (calls_other h b) (cond b (used s ways.Calls (argument args 1)) passes)
      by_both true = object_used 1 ways.Calls
      by_both false = same refl refl (λ e. refl)

  -- ---- ranges

  within : (array offset : ℕ) (count : Length) (number : ℕ)
      → Only (checks.is_range_in h number offset count)
      (is_within (size_of (bared heap) number) (argument args offset) (length_of s args count))
  within array offset count number =
      at_object w call number _ _ (λ o found. at_word w call offset _ _ (at_length w call count _ _
      (just (ap (λ n. Some (is_within n (argument args offset) (length_of s args count)))
      (sym (size_is heap number o found))))))

  range_agrees : (r : Range) → Only (checks.is_in_range h r.array r.offset r.length) (is_in_range s args r)
  range_agrees r = at_reference w call r.array _ _ (by_null (argument args r.array == 0))
    where
      by_null : (b : Bool)
          → Only (cond b (Some true) (checks.is_range_in h (argument args r.array) r.offset r.length))
          (b || is_within (size_of (bared heap) (argument args r.array)) (argument args r.offset)
          (length_of s args r.length))
      by_null b = grind (arith, just, within)

  by_range : (o : Option Bool) (b : Bool) → Only o b
      → Agrees (option_map_or in_range o unfit) (cond b passes (fails 4))
  by_range o b (nothing e) =
      subst (λ x. Agrees (option_map_or in_range x unfit) (cond b passes (fails 4))) (sym e) (stops _)
  by_range o b (just e) = grind (arith, just)

  -- ---- rows

  row_step : (one : Test) (rest : List Check) (later : Tested) → Agrees (checks.tested h rest) later
      → Agrees (checks.tested h (of_test one rest)) (followed (test s args one) later)
  row_step tests.Nothing rest later a = a
  row_step (tests.Object place way) rest later a = follow _ _ _ _ (object_used place way) a
  row_step (tests.ObjectOrNull place way) rest later a =
      follow _ _ _ _ (uses_agree way checks.passed passes (same refl refl (λ e. refl)) place) a
  row_step tests.BesideAid rest later a = follow _ _ _ _ (by_aids (are_aids h) _ (both_aids w call)) a

  range_step : (r : Option Range) (rest : List Check) (later : Tested) → Agrees (checks.tested h rest) later
      → Agrees (checks.tested h (of_range r rest)) (followed (ranged s args r) later)
  range_step None rest later a = a
  range_step (Some r) rest later a = follow _ _ _ _ (by_range _ _ (range_agrees r)) a

  -- the last one
  last_of : (r : Option Range) → followed (ranged s args r) passes ≡ ranged s args r
  last_of r = grind arith

  pub tests_agree : (row : MemberRow) → Agrees (checks.tested h (checks_of row)) (tested s args row)
  tests_agree row =
      row_step row.first _ _ (row_step row.second _ _ (range_step row.first_range _ _
      (subst (Agrees (checks.tested h (of_range row.second_range []))) (last_of row.second_range)
      (range_step row.second_range [] passes (same refl refl (λ e. refl))))))
