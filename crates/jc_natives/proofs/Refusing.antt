-- What tests refuse: only the last access may be denied, and then the security exception is thrown.
use Rattle.std.proofs.Common.{◌≡◌, ◌⊎◌, inl, ℕ, ◌&&◌, Bool, true, cond, List, [], ◌∷◌, ◌++◌, Option, Some, None}
use Rattle.std.proofs.Common.{refl, ap, ◌∙◌, arith}
use Rattle.std.proofs.lemmas.Option.{none-some, same_Some}
use Rattle.std.specs.Option.{option_or}
use Rattle.jc_firewall.specs.Verdict.{is_allowed}
use Rattle.jc_firewall.specs.declared.access.Verdict.{Verdict}
use Rattle.jc_machine.specs.Guarded.{are_allowed, is_last_denied}
use Rattle.jc_machine.specs.Machine.{Touch, last_denied}
use Rattle.jc_machine.specs.Runtime.{security_exception}
use Rattle.jc_machine.specs.declared.stop.DeniedAccess.{DeniedAccess}
use Rattle.jc_natives.proofs.Bare.{both}
use Rattle.jc_natives.specs.PrivateSeen.{NativeInput}
use Rattle.jc_natives.specs.PrivateTests.{Tested, by_verdict, followed, goes_on, ranged, refusal_by, refusal_of}
use Rattle.jc_natives.specs.PrivateTests.{test, tested, used}
use Rattle.jc_natives.specs.declared.row.MemberRow.{MemberRow}
use Rattle.jc_natives.specs.declared.row.Range.{Range}
use Rattle.jc_natives.specs.declared.row.Test.{Test}
use Rattle.jc_natives.specs.declared.row.Use.{Use}

-- ---- lists of accesses

pub allowed_both : (xs ys : List Touch) → are_allowed xs ≡ true → are_allowed ys ≡ true → are_allowed (xs ++ ys) ≡ true
allowed_both [] ys e f = f
allowed_both (x ∷ xs) ys e f =
    let b = both (is_allowed x.verdict) (are_allowed xs) e in
    ap (λ a. a && are_allowed (xs ++ ys)) b.0 ∙ allowed_both xs ys b.1 f

denied_behind : (xs ys : List Touch) → are_allowed xs ≡ true → is_last_denied ys ≡ true → is_last_denied (xs ++ ys)
    ≡ true
denied_behind [] ys e f = f
denied_behind (x ∷ []) [] e f = absurd cc
denied_behind (x ∷ []) (y ∷ ys) e f = grind (arith, both)
denied_behind (x ∷ z ∷ xs) ys e f =
    let b = both (is_allowed x.verdict) (are_allowed (z ∷ xs)) e in
    ap (λ a. a && is_last_denied (z ∷ xs ++ ys)) b.0 ∙ denied_behind (z ∷ xs) ys b.1 f

-- the last of allowed accesses isn't denied
pub none_denied : (xs : List Touch) → are_allowed xs ≡ true → last_denied xs ≡ None
none_denied [] e = refl
none_denied (x ∷ []) e = grind (arith, both)
none_denied (x ∷ y ∷ xs) e = none_denied (y ∷ xs) (both (is_allowed x.verdict) (are_allowed (y ∷ xs)) e).1

-- behind allowed accesses, the last one is denied if it is among those that follow
last_behind : (xs ys : List Touch) → are_allowed xs ≡ true → last_denied (xs ++ ys) ≡ last_denied ys
last_behind [] ys e = refl
last_behind (x ∷ []) [] e = none_denied (x ∷ []) e
last_behind (x ∷ []) (y ∷ ys) e = refl
last_behind (x ∷ z ∷ xs) ys e = last_behind (z ∷ xs) ys (both (is_allowed x.verdict) (are_allowed (z ∷ xs)) e).1

-- ---- verdicts of tests

abbrev pub Refuses : Tested → Type 0
Refuses t = (is_last_denied t.touches ≡ true) × (t.thrown ≡ Some security_exception)

-- each access is allowed, or the last one is denied
pub record AreDecided (t : Tested) : Type 0 where
  pub verdicts : (are_allowed t.touches ≡ true) ⊎ Refuses t

no_use : (thrown : Option ℕ) → AreDecided (record { touches = []; thrown = thrown })
no_use thrown = record { verdicts = inl refl }

either_decided : (b : Bool) (t u : Tested) → AreDecided t → AreDecided u → AreDecided (cond b t u)
either_decided b t u h1 h2 = grind arith

followed_decided : (t u : Tested) → AreDecided t → AreDecided u → AreDecided (followed t u)
followed_decided t u a b = grind (arith, allowed_both, denied_behind, none-some)

module _ (s : NativeInput) where
  by_verdict_decided : (way : Use) (number : ℕ) (v : Verdict) → AreDecided (by_verdict s way number v)
  by_verdict_decided way number v = grind arith

  used_decided : (way : Use) (number : ℕ) → AreDecided (used s way number)
  used_decided way number = grind (arith, no_use, by_verdict_decided)

  test_decided : (arguments : List ℕ) (one : Test) → AreDecided (test s arguments one)
  test_decided arguments one = grind (arith, no_use, used_decided, either_decided)

  ranged_decided : (arguments : List ℕ) (r : Option Range) → AreDecided (ranged s arguments r)
  ranged_decided arguments r = grind (arith, no_use, either_decided)

  pub tested_decided : (arguments : List ℕ) (row : MemberRow) → AreDecided (tested s arguments row)
  tested_decided arguments row = grind (arith, followed_decided, test_decided, ranged_decided)

-- tests that pass access only what is allowed
pub passed_allowed : (t : Tested) → AreDecided t → t.thrown ≡ None → are_allowed t.touches ≡ true
passed_allowed t decided passed = grind (arith, none-some)

-- behind a denied access the security exception is thrown
pub denied_throws : (t : Tested) → AreDecided t → (object : ℕ) (access : DeniedAccess) → t.thrown ≡ Some object
    → last_denied t.touches ≡ Some access → object ≡ security_exception
denied_throws t decided object access thrown denied = grind (arith, none-some, none_denied, same_Some)

-- ---- the end of a refused member

pub none_refused : (t : Tested) → refusal_of t ≡ None → t.thrown ≡ None
none_refused t h1 = grind (arith, none-some)

refused_behind : (xs ys : List Touch) (thrown : Option ℕ) → are_allowed xs ≡ true
    → refusal_by (xs ++ ys) thrown ≡ refusal_by ys thrown
refused_behind xs ys thrown h1 = grind (arith, last_behind)

refusal_goes_on : (touches : List Touch) (thrown : Option ℕ) (u : Tested)
    → (thrown ≡ None → are_allowed touches ≡ true)
    → refusal_of (goes_on touches thrown u) ≡ option_or (refusal_by touches thrown) (refusal_of u)
refusal_goes_on touches thrown u h1 = grind (arith, refused_behind)

refusal_followed : (t u : Tested) → AreDecided t → refusal_of (followed t u) ≡ option_or (refusal_of t) (refusal_of u)
refusal_followed t u decided = refusal_goes_on t.touches t.thrown u (passed_allowed t decided)

-- it is that of the first test that fails
pub refusal_in_order : (s : NativeInput) (arguments : List ℕ) (row : MemberRow)
    → refusal_of (tested s arguments row)
    ≡ option_or (refusal_of (test s arguments row.first))
    (option_or (refusal_of (test s arguments row.second))
    (option_or (refusal_of (ranged s arguments row.first_range)) (refusal_of (ranged s arguments row.second_range))))
refusal_in_order s arguments row = grind (arith, refusal_followed, test_decided, ranged_decided)
