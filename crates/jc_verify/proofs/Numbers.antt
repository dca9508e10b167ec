-- Sets of numbers, and how many numbers aren't in them.
use Rattle.std.proofs.Common.{◌≡◌, ℕ, zero, suc, ◌+◌, ◌<◌, ◌≤◌, ◌==◌, ◌||◌, true, false, List, ◌⊎◌, ◌∙◌, arith, refl}
use Rattle.std.proofs.lemmas.Bool.{cases_eq, eq-eqb, ne_eqb}
use Rattle.jc_base.specs.NumberSet.{has_number}
use Rattle.jc_verify.specs.PrivateLive.{all_numbers, left_out}

all_are : all_numbers ≡ 65_536
unfolding all_numbers
all_are = refl

module _ (old new : List ℕ) (p : ℕ) (is : (n : ℕ) → has_number new n ≡ (n == p || has_number old n)) where
  pub has_itself : has_number new p ≡ true
  has_itself = let t : p == p ≡ true = eq-eqb p p refl in is p ∙ rw t refl

  pub has_as_before : (n : ℕ) → (n ≡ p → ⊥) → has_number new n ≡ has_number old n
  has_as_before n apart = let t : n == p ≡ false = ne_eqb n p apart in is n ∙ rw t refl

  pub has_kept : (n : ℕ) → has_number old n ≡ true → has_number new n ≡ true
  has_kept n h = by_number (cases_eq n p)
    where
      by_number : (n ≡ p) ⊎ (n ≡ p → ⊥) → has_number new n ≡ true
      by_number h1 = grind (arith, has_itself, has_as_before)

  pub has_cases : (n : ℕ) → has_number new n ≡ true → (n ≡ p) ⊎ (has_number old n ≡ true)
  has_cases n h = by_number (cases_eq n p)
    where
      by_number : (n ≡ p) ⊎ (n ≡ p → ⊥) → (n ≡ p) ⊎ (has_number old n ≡ true)
      by_number h1 = grind (arith, has_as_before)

  left_before : (n : ℕ) → n ≤ p → left_out new n ≡ left_out old n
  left_before zero h = refl
  left_before (suc n) h = search (arith, has_as_before, left_before n (omega arith))

  left_below : has_number old p ≡ false → (n : ℕ) → p < n → left_out new n + 1 ≡ left_out old n
  left_below fresh zero h = absurd (omega arith)
  left_below fresh (suc n) h = by_number (cases_eq n p) (λ apart. left_below fresh n (omega (arith, apart, h)))
    where
      by_number : (n ≡ p) ⊎ (n ≡ p → ⊥) → ((n ≡ p → ⊥) → left_out new n + 1 ≡ left_out old n) → left_out new (suc n) + 1 ≡ left_out old (suc n)
      by_number h1 h2 = grind (arith, has_itself, left_before, has_as_before)

  -- a number that wasn't in the set is put in
  pub one_less : has_number old p ≡ false → p < 65_536 → left_out new all_numbers + 1 ≡ left_out old all_numbers
  one_less fresh small = left_below fresh all_numbers (omega (arith, small, all_are))
