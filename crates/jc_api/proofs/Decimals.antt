-- A number in decimal digits, as it is read.
use Rattle.std.proofs.Common.{◌≡◌, ℕ, ◌+◌, ◌-◌, ◌*◌, ◌<◌, ◌≤◌, ◌&&◌, Bool, true, false, List, [], ◌∷◌, length, drop, get_or, fold, Option, Some, None, ap, ◌∙◌, sym, refl, arith, nat_lt, nat_le, if◌then◌else◌}
use Rattle.std.proofs.lemmas.List.{drop_more, drop_all}
use Rattle.std.specs.Char.{is_ascii_digit}
use Rattle.std.specs.List.{list_all}
use Rattle.jc_api.specs.Text.{value_of, decimal_up_to}

abbrev pub step : ℕ → ℕ → ℕ
step n digit = 10 * n + (digit - 48)

-- the number, where these digits are left behind those of n
unfoldable pub decimal_from : ℕ → ℕ → List ℕ → Option ℕ
decimal_from limit n left = if list_all is_ascii_digit left && nat_le (fold step n left) limit then Some (fold step n left) else None

pub decimal_empty : (limit : ℕ) → decimal_up_to limit [] ≡ None
unfolding decimal_up_to
decimal_empty limit = refl

pub decimal_first : (limit : ℕ) (b : ℕ) (word : List ℕ) → decimal_up_to limit (b ∷ word) ≡ decimal_from limit 0 (b ∷ word)
unfolding decimal_up_to decimal_from
decimal_first limit b word =
    let some : nat_lt 0 (length (b ∷ word)) ≡ true = grind arith in
    ap (λ t. if (t && list_all is_ascii_digit (b ∷ word)) && nat_le (value_of (b ∷ word)) limit then Some (value_of (b ∷ word)) else None) some

pub decimal_end : (limit n : ℕ) → n ≤ limit → decimal_from limit n [] ≡ Some n
unfolding decimal_from
decimal_end limit n h = grind arith

pub decimal_on : (limit n b : ℕ) (left : List ℕ) → is_ascii_digit b ≡ true → decimal_from limit n (b ∷ left) ≡ decimal_from limit (step n b) left
unfolding decimal_from
decimal_on limit n b left h = ap (λ t. if (t && list_all is_ascii_digit left) && nat_le (fold step (step n b) left) limit then Some (fold step (step n b) left) else None) h

pub decimal_other : (limit n b : ℕ) (left : List ℕ) → is_ascii_digit b ≡ false → decimal_from limit n (b ∷ left) ≡ None
unfolding decimal_from
decimal_other limit n b left h = ap (λ t. if (t && list_all is_ascii_digit left) && nat_le (fold step (step n b) left) limit then Some (fold step (step n b) left) else None) h

-- digits that follow make no number smaller
grows : (n : ℕ) (left : List ℕ) → n ≤ fold step n left
grows n [] = omega arith
grows n (b ∷ left) = let h = grows (step n b) left in omega arith

pub decimal_over : (limit n b : ℕ) (left : List ℕ) → limit < step n b → decimal_from limit n (b ∷ left) ≡ None
unfolding decimal_from
decimal_over limit n b left h = part (is_ascii_digit b && list_all is_ascii_digit left) (nat_le (fold step (step n b) left) limit) over
  where
    over : nat_le (fold step (step n b) left) limit ≡ false
    over = let g = grows (step n b) left in grind arith

    part : (s t : Bool) → t ≡ false → (if s && t then Some (fold step (step n b) left) else None) ≡ None
    part true false e = refl
    part false t e = refl
    part true true e = absurd cc

-- where a word stands in front of what is left
pub decimal_start : (limit : ℕ) (word : List ℕ) → (length word ≡ 0 → ⊥) → decimal_up_to limit word ≡ decimal_from limit 0 word
decimal_start limit [] h = absurd (h refl)
decimal_start limit (b ∷ word) h = decimal_first limit b word

pub decimal_none : (limit : ℕ) (word : List ℕ) → length word ≡ 0 → None ≡ decimal_up_to limit word
decimal_none limit [] h = sym (decimal_empty limit)
decimal_none limit (b ∷ word) h = absurd (omega arith)

-- the same at a digit's index
pub other_at : (limit n i : ℕ) (word : List ℕ) → i < length word → is_ascii_digit (get_or word i 0) ≡ false → decimal_up_to limit word ≡ decimal_from limit n (drop i word) → None ≡ decimal_up_to limit word
other_at limit n i word inside other so_far = sym (so_far ∙ ap (decimal_from limit n) (drop_more word i 0 inside) ∙ decimal_other limit n _ _ other)

pub over_at : (limit n i : ℕ) (word : List ℕ) → i < length word → limit < step n (get_or word i 0) → decimal_up_to limit word ≡ decimal_from limit n (drop i word) → None ≡ decimal_up_to limit word
over_at limit n i word inside over so_far = sym (so_far ∙ ap (decimal_from limit n) (drop_more word i 0 inside) ∙ decimal_over limit n _ _ over)

pub on_at : (limit n m i : ℕ) (word : List ℕ) → i < length word → is_ascii_digit (get_or word i 0) ≡ true → m ≡ step n (get_or word i 0) → decimal_up_to limit word ≡ decimal_from limit n (drop i word) → decimal_up_to limit word ≡ decimal_from limit m (drop (i + 1) word)
on_at limit n m i word inside digit same so_far =
    so_far ∙ ap (decimal_from limit n) (drop_more word i 0 inside) ∙ decimal_on limit n _ _ digit ∙ ap (λ k. decimal_from limit k (drop (i + 1) word)) (sym same)

pub end_at : (limit n i : ℕ) (word : List ℕ) → length word ≤ i → n ≤ limit → decimal_up_to limit word ≡ decimal_from limit n (drop i word) → Some n ≡ decimal_up_to limit word
end_at limit n i word past small so_far = sym (so_far ∙ ap (decimal_from limit n) (drop_all i word past) ∙ decimal_end limit n small)
