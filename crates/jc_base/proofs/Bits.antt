-- Numbers as bits of words.
use Rattle.std.proofs.Common.{◌≡◌, ℕ, ◌*◌, ◌/◌, ◌%◌, ◌^◌, ◌<◌, ◌≤◌, ◌==◌, ◌||◌, Bool, true, false, List, length, ap, sym, ◌∙◌, ◌⊎◌, inl, inr, arith, bit_or, get_or, set, replicate}
use Rattle.std.specs.Int.{w64, bit_at}
use Rattle.std.proofs.lemmas.Bool.{cases_eq, cases_lt, eq-eqb, ne_eqb}
use Rattle.std.proofs.lemmas.List.{get_or-set_same, get_or-set_other, get_or-replicate, get_or_past}
use Rattle.std.proofs.lemmas.Nat.Bits.{bit_at-zero, bit_at_set_same, bit_at_set_other}
use Rattle.jc_base.specs.NumberSet.{has_number}

abbrev is_one : ℕ → Bool
is_one bit = bit == 1

abbrev zeros : List ℕ
zeros = replicate 1024 0

zero_word : (i : ℕ) → get_or zeros i 0 ≡ 0
zero_word i = by_place (cases_lt i 1024)
  where
    by_place : (i < 1024) ⊎ (1024 ≤ i) → get_or zeros i 0 ≡ 0
    by_place (inl h) = get_or-replicate 1024 i 0 0 h
    by_place (inr h) = get_or_past zeros i 0 h

pub none_has : (n : ℕ) → has_number (replicate 1024 0) n ≡ false
none_has n = ap is_one (ap (λ word. bit_at word (n % 64)) (zero_word (n / 64)) ∙ bit_at-zero (n % 64))

-- the words after a number was put in
abbrev pub with_number : List ℕ → ℕ → List ℕ
with_number words number = set words (number / 64) (bit_or (get_or words (number / 64) 0) (1 * 2 ^ (number % 64) % 2 ^ 64))

has_same : (words : List ℕ) (number : ℕ) → number / 64 < length words → has_number (with_number words number) number ≡ true
has_same words number h =
    ap is_one (ap (λ word. bit_at word (number % 64)) (get_or-set_same words (number / 64) _ 0 h) ∙ bit_at_set_same w64 (get_or words (number / 64) 0) (number % 64) (omega arith))

has_other : (words : List ℕ) (number n : ℕ) → number / 64 < length words → (n ≡ number → ⊥) → has_number (with_number words number) n ≡ has_number words n
has_other words number n h apart = by_word (cases_eq (n / 64) (number / 64))
  where
    by_word : (n / 64 ≡ number / 64) ⊎ (n / 64 ≡ number / 64 → ⊥) → has_number (with_number words number) n ≡ has_number words n
    by_word (inl same) =
        let at : get_or (with_number words number) (n / 64) 0 ≡ bit_or (get_or words (number / 64) 0) (1 * 2 ^ (number % 64) % 2 ^ 64) =
        ap (λ i. get_or (with_number words number) i 0) same ∙ get_or-set_same words (number / 64) _ 0 h in
        ap is_one (ap (λ word. bit_at word (n % 64)) at
        ∙ bit_at_set_other w64 (get_or words (number / 64) 0) (number % 64) (omega arith) (n % 64) (λ e. apart (omega (arith, same, e)))
        ∙ ap (λ i. bit_at (get_or words i 0) (n % 64)) (sym same))
    by_word (inr other) = ap is_one (ap (λ word. bit_at word (n % 64)) (get_or-set_other words (number / 64) (n / 64) _ 0 other))

pub has_with : (words : List ℕ) (number n : ℕ) → number / 64 < length words → has_number (with_number words number) n ≡ (n == number || has_number words n)
has_with words number n h1 = grind (arith, cases_eq, has_number, inl, eq-eqb, has_same, inr, ne_eqb, has_other)
