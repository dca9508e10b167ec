-- The first of numbers that passes a test, one by one.
use Rattle.std.proofs.Common.{◌≡◌, ℕ, suc, ◌+◌, ◌-◌, ◌<◌, ◌≤◌, Bool, true, false, cond, List, [], ◌∷◌, length, Option, Some, None, refl, sym, ap, ◌∙◌, arith, slice_get}
use Rattle.std.proofs.lemmas.Iterator.Adapters.{position_from-zero}
use Rattle.std.specs.List.{find, position, position_from, range_with_len}
use Rattle.std.specs.Option.{option_map_or}

-- ---- numbers one by one

module _ (p : ℕ → Bool) (total : Option ℕ) (count i : ℕ) (so_far : total ≡ find p (range_with_len i (count - i))) where
  front : i < count → total ≡ cond (p i) (Some i) (find p (range_with_len (i + 1) (count - (i + 1))))
  front h =
      let one : count - i ≡ suc (count - (i + 1)) = omega arith in
      so_far ∙ ap (λ n. find p (range_with_len i n)) one

  pub here : i < count → p i ≡ true → Some i ≡ total
  here h e = sym (front h ∙ ap (λ b. cond b (Some i) (find p (range_with_len (i + 1) (count - (i + 1))))) e)

  pub passed : i < count → p i ≡ false → total ≡ find p (range_with_len (i + 1) (count - (i + 1)))
  passed h e = front h ∙ ap (λ b. cond b (Some i) (find p (range_with_len (i + 1) (count - (i + 1))))) e

  pub none : count ≤ i → None ≡ total
  none h = grind arith

-- ---- the first place of a list

from_is : {A : Type 0} (p : A → Bool) (q : ℕ → Bool) (xs : List A) (i : ℕ) → ((k : ℕ) → option_map_or p (slice_get xs k) false ≡ q (i + k))
    → position_from p i xs ≡ find q (range_with_len i (length xs))
from_is p q [] i h = refl
from_is p q (x ∷ xs) i h =
    let z : i + 0 ≡ i = omega arith in
    let e : p x ≡ q i = h 0 ∙ ap q z in
    let t : position_from p (i + 1) xs ≡ find q (range_with_len (i + 1) (length xs))
    = from_is p q xs (i + 1) (λ k. let w : i + suc k ≡ i + 1 + k = omega arith in h (suc k) ∙ ap q w) in
    ap (λ b. cond b (Some i) (position_from p (i + 1) xs)) e ∙ ap (cond (q i) (Some i)) t

-- the first number of a place at which an item passes
pub first_place : {A : Type 0} (p : A → Bool) (xs : List A) (count : ℕ) → count ≡ length xs
    → find (λ i. option_map_or p (slice_get xs i) false) (range_with_len 0 count) ≡ position p xs
first_place p xs count e = grind (arith, position_from-zero, from_is)
