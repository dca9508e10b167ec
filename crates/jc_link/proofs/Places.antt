-- What stands at places of lists.
use Rattle.std.proofs.Common.{◌≡◌, ℕ, zero, suc, ◌+◌, ◌||◌, Bool, false, List, [], ◌∷◌, take, slice_get, refl, sym, ap, ◌∙◌, arith}
use Rattle.std.specs.List.{list_any, range_with_len}
use Rattle.std.specs.Option.{option_map_or}

or_last : (b : Bool) → (b || false) ≡ (false || b)
or_last b = grind arith

or_assoc : (a b c : Bool) → (a || (b || c)) ≡ ((a || b) || c)
or_assoc a b c = grind arith

any_more : (q : ℕ → Bool) (n a : ℕ) → list_any q (range_with_len a (suc n)) ≡ (list_any q (range_with_len a n) || q (a + n))
any_more q zero a = let e : a + 0 ≡ a = omega arith in or_last (q a) ∙ ap (λ i. false || q i) (sym e)
any_more q (suc n) a = grind (arith, or_assoc, any_more q n (a + 1))

take_more : {A : Type 0} (p : A → Bool) (xs : List A) (n : ℕ) → list_any p (take (suc n) xs) ≡ (list_any p (take n xs) || option_map_or p (slice_get xs n) false)
take_more p [] zero = refl
take_more p [] (suc n) = refl
take_more p (x ∷ xs) zero = or_last (p x)
take_more p (x ∷ xs) (suc n) = ap (λ b. p x || b) (take_more p xs n) ∙ or_assoc (p x) (list_any p (take n xs)) (option_map_or p (slice_get xs n) false)

-- asking the first places of a list is asking what stands there
pub any_place : {A : Type 0} (p : A → Bool) (xs : List A) (n : ℕ) → list_any (λ i. option_map_or p (slice_get xs i) false) (range_with_len 0 n) ≡ list_any p (take n xs)
any_place p xs zero = refl
any_place p xs (suc n) =
    let e : 0 + n ≡ n = omega arith in
    grind (arith, any_more (λ i. option_map_or p (slice_get xs i) false) n 0, any_place p xs n, take_more p xs n)
