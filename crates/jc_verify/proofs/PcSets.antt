-- Pcs as bits of words, as many as there are.
use Rattle.std.proofs.Common.{◌≡◌, ℕ, zero, suc, ◌/◌, ◌%◌, ◌*◌, ◌^◌, ◌<◌, ◌==◌, ◌||◌, List, [], ◌∷◌, ◌++◌, length}
use Rattle.std.proofs.Common.{get_or, set, bit_or, refl, ap, arith}
use Rattle.std.specs.Int.{w64, bit_at}
use Rattle.std.proofs.lemmas.Bool.{cases_eq}
use Rattle.std.proofs.lemmas.List.{get_or-set_same, get_or-set_other}
use Rattle.std.proofs.lemmas.Nat.Bits.{bit_at_set_same, bit_at_set_other}
use Rattle.jc_base.specs.NumberSet.{has_number}

-- one word more has none
more_word : (words : List ℕ) (i : ℕ) → get_or (words ++ 0 ∷ []) i 0 ≡ get_or words i 0
more_word [] zero = refl
more_word [] (suc i) = refl
more_word (w ∷ words) zero = refl
more_word (w ∷ words) (suc i) = more_word words i

pub more_has : (words : List ℕ) (n : ℕ) → has_number (words ++ 0 ∷ []) n ≡ has_number words n
more_has words n = ap (λ word. bit_at word (n % 64) == 1) (more_word words (n / 64))

-- the words after a pc was put in
pub has_with : (words : List ℕ) (pc n : ℕ) → pc / 64 < length words
    → has_number (set words (pc / 64) (bit_or (get_or words (pc / 64) 0) (1 * 2 ^ (pc % 64) % 2 ^ 64))) n
    ≡ (n == pc || has_number words n)
has_with words pc n h =
    grind (arith, cases_eq, get_or-set_same, get_or-set_other, bit_at_set_same w64, bit_at_set_other w64)
