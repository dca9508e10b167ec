-- Lists, from a place on.
use Rattle.std.proofs.Common.{◌≡◌, ◌⊎◌, inl, inr, ℕ, zero, suc, ◌+◌, ◌≤◌, List, [], ◌∷◌, ◌++◌, length, drop, take, Some, refl, ap, subst, sym, arith, slice_get}
use Rattle.std.specs.List.{AllByRecursion}
use Rattle.std.proofs.lemmas.Option.{none-some, same_Some}

pub drop_get : {A : Type 0} (xs : List A) (k : ℕ) (x : A) → slice_get xs k ≡ Some x → drop k xs ≡ x ∷ drop (k + 1) xs
drop_get [] k x e = absurd cc
drop_get (y ∷ ys) zero x e = ap (λ z. z ∷ ys) (same_Some y x e)
drop_get (y ∷ ys) (suc k) x e = let h : suc k + 1 ≡ suc (k + 1) = omega arith in rw h (drop_get ys k x e)

pub all_from : {A : Type 0} (P : A → Type 0) (xs : List A) (k : ℕ) (x : A) → slice_get xs k ≡ Some x → P x → AllByRecursion P (drop (k + 1) xs)
    → AllByRecursion P (drop k xs)
all_from {A} P xs k x at holds rest = let B : List A → Type 0 = λ ys. AllByRecursion P ys in subst B (sym (drop_get xs k x at)) (holds, rest)

-- ---- one more at the end

pub length_more : {A : Type 0} (xs : List A) (x : A) → length (xs ++ x ∷ []) ≡ length xs + 1
length_more [] x = refl
length_more (y ∷ xs) x = let k = length_more xs x in omega (arith, k)

pub get_either : {A : Type 0} (xs : List A) (x y : A) (k : ℕ) → slice_get (xs ++ x ∷ []) k ≡ Some y → (slice_get xs k ≡ Some y) ⊎ ((k ≡ length xs) × (x ≡ y))
get_either [] x y zero e = inr (refl, same_Some x y e)
get_either [] x y (suc k) e = absurd (none-some y e)
get_either (z ∷ xs) x y zero e = inl e
get_either (z ∷ xs) x y (suc k) e = by_rest (get_either xs x y k e)
  where
    by_rest : (slice_get xs k ≡ Some y) ⊎ ((k ≡ length xs) × (x ≡ y)) → (slice_get (z ∷ xs) (suc k) ≡ Some y) ⊎ ((suc k ≡ suc (length xs)) × (x ≡ y))
    by_rest h1 = grind arith

pub take_more : {A : Type 0} (xs : List A) (k : ℕ) (x : A) → slice_get xs k ≡ Some x → take (k + 1) xs ≡ take k xs ++ x ∷ []
take_more [] k x e = absurd (none-some x e)
take_more (y ∷ xs) zero x e = ap (λ z. z ∷ []) (same_Some y x e)
take_more (y ∷ xs) (suc k) x e = let h : suc k + 1 ≡ suc (k + 1) = omega arith in rw h (ap (λ ys. y ∷ ys) (take_more xs k x e))

pub get_kept : {A : Type 0} (xs : List A) (x y : A) (k : ℕ) → slice_get xs k ≡ Some y → slice_get (xs ++ x ∷ []) k ≡ Some y
get_kept [] x y k e = absurd (none-some y e)
get_kept (z ∷ xs) x y zero e = e
get_kept (z ∷ xs) x y (suc k) e = get_kept xs x y k e

pub get_last : {A : Type 0} (xs : List A) (x : A) → slice_get (xs ++ x ∷ []) (length xs) ≡ Some x
get_last [] x = refl
get_last (z ∷ xs) x = get_last xs x

pub all_more : {A : Type 0} (P : A → Type 0) (xs : List A) (x : A) → AllByRecursion P xs → P x → AllByRecursion P (xs ++ x ∷ [])
all_more P [] x h holds = (holds, tt)
all_more P (y ∷ ys) x h holds = (h.0, all_more P ys x h.1 holds)

pub none_left : {A : Type 0} (xs : List A) → length xs ≤ 0 → xs ≡ []
none_left [] le = refl
none_left (x ∷ xs) le = absurd (omega (arith, le))
