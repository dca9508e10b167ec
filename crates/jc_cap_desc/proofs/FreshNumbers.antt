-- Numbers that are new one by one are distinct, and a set that has those before.
use Rattle.std.proofs.Common.{◌≡◌, ℕ, ◌==◌, ◌&&◌, ◌||◌, Bool, true, false, not, List, [], ◌∷◌, ◌++◌, refl, sym, ap, ◌∙◌, ◌⊎◌, arith}
use Rattle.std.proofs.lemmas.Bool.{cases_eq, eq-eqb, ne_eqb}
use Rattle.std.proofs.Math.Bool.{and-true}
use Rattle.jc_cap_desc.specs.Across.{is_among, are_distinct}
use Rattle.jc_cap_desc.specs.PrivateFreshNumbers.{are_fresh, put_in, Holds}

same_either_way : (n m : ℕ) → (n == m) ≡ (m == n)
same_either_way n m = by_case (cases_eq n m)
  where
    by_case : (n ≡ m) ⊎ (n ≡ m → ⊥) → (n == m) ≡ (m == n)
    by_case h1 = grind (arith, eq-eqb, ne_eqb)

-- none of some numbers is among others
abbrev are_apart : List ℕ → List ℕ → Bool
are_apart before [] = true
are_apart before (n ∷ numbers) = not (is_among n before) && are_apart before numbers

apart_none : (numbers : List ℕ) → are_apart [] numbers ≡ true
apart_none [] = refl
apart_none (n ∷ numbers) = apart_none numbers

apart_more : (n : ℕ) (before numbers : List ℕ) → are_apart (n ∷ before) numbers ≡ (not (is_among n numbers) && are_apart before numbers)
apart_more n before [] = refl
apart_more n before (m ∷ numbers) = rw (same_either_way m n, apart_more n before numbers) (shuffle (n == m) (is_among m before) (is_among n numbers) (are_apart before numbers))
  where
    shuffle : (a b c d : Bool) → (not (a || b) && (not c && d)) ≡ (not (a || c) && (not b && d))
    shuffle a b c d = grind arith

fresh_is : (before numbers : List ℕ) → are_fresh before numbers ≡ (are_apart before numbers && are_distinct numbers)
fresh_is before [] = refl
fresh_is before (n ∷ numbers) = rw (fresh_is (n ∷ before) numbers, apart_more n before numbers) (shuffle (is_among n before) (is_among n numbers) (are_apart before numbers) (are_distinct numbers))
  where
    shuffle : (a b c d : Bool) → (not a && ((not b && c) && d)) ≡ ((not a && c) && (not b && d))
    shuffle a b c d = grind arith

pub fresh_is_distinct : (numbers : List ℕ) → are_fresh [] numbers ≡ are_distinct numbers
fresh_is_distinct numbers = fresh_is [] numbers ∙ ap (λ b. b && are_distinct numbers) (apart_none numbers)

pub fresh_of_both : (before xs ys : List ℕ) → are_fresh before (xs ++ ys) ≡ (are_fresh before xs && are_fresh (put_in before xs) ys)
fresh_of_both before [] ys = refl
fresh_of_both before (n ∷ xs) ys = rw (fresh_of_both (n ∷ before) xs ys) (shuffle (is_among n before) _ _)
  where
    shuffle : (a b c : Bool) → (not a && (b && c)) ≡ ((not a && b) && c)
    shuffle a b c = grind arith

put_both : (met xs ys : List ℕ) → put_in met (xs ++ ys) ≡ put_in (put_in met xs) ys
put_both met [] ys = refl
put_both met (x ∷ xs) ys = put_both (x ∷ met) xs ys

-- a walk over numbers: the set has those that were met and those before, and what is left says the same of all
pub record IsSoFar (words before all left : List ℕ) : Type 0 where
  pub met : List ℕ
  pub holds : Holds words met
  pub fresh : are_fresh before all ≡ are_fresh met left
  pub put : put_in before all ≡ put_in met left

pub begins : (words before all left : List ℕ) → Holds words before → left ≡ all → IsSoFar words before all left
begins words before all left holds e = record { met = before; holds = holds; fresh = ap (are_fresh before) (sym e); put = ap (put_in before) (sym e) }

-- the numbers that are left are some, and more behind them
abbrev Adds : List ℕ → Bool → List ℕ → List ℕ → Type 0
Adds words fresh after numbers =
    (met : List ℕ) → Holds words met → (fresh ≡ are_fresh met numbers) × (fresh ≡ true → Holds after (put_in met numbers))

-- the next of them are new, and go into the set
pub goes_on : (words after before all left numbers more : List ℕ) (fresh : Bool) → IsSoFar words before all left → left ≡ numbers ++ more
    → Adds words fresh after numbers → fresh ≡ true → IsSoFar after before all more
goes_on words after before all left numbers more fresh far e adds new = grind (arith, fresh_of_both, put_both)

-- one of them isn't
pub stops : (words after before all left numbers more : List ℕ) (fresh : Bool) → IsSoFar words before all left → left ≡ numbers ++ more
    → Adds words fresh after numbers → fresh ≡ false → false ≡ are_fresh before all
stops words after before all left numbers more fresh far e adds old = grind (arith, fresh_of_both)

-- one number
pub adds_one : (words after : List ℕ) (fresh : Bool) (n : ℕ) → ((met : List ℕ) → Holds words met → fresh ≡ not (is_among n met))
    → ((met : List ℕ) → Holds words met → Holds after (n ∷ met)) → Adds words fresh after (n ∷ [])
adds_one words after fresh n new put met holds = (new met holds ∙ sym (and-true _), λ t. put met holds)

-- none is left
pub ends : (words before all left : List ℕ) (far : IsSoFar words before all left) → left ≡ [] → true ≡ are_fresh before all
ends words before all left far e = sym (far.fresh ∙ ap (are_fresh far.met) e)

pub ends_with : (words before all left : List ℕ) (far : IsSoFar words before all left) → left ≡ [] → Holds words (put_in before all)
ends_with words before all left far e = rw (far.put ∙ ap (put_in far.met) e) far.holds
