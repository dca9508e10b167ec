-- Lists taken apart, and options that are there.
use Rattle.std.proofs.Common.{◌≡◌, ℕ, zero, suc, ◌+◌, ◌≤◌, List, [], ◌∷◌, ◌++◌, length, drop, Option, Some, refl, ap, arith}
use Rattle.std.specs.Prelude.{slice_get, option_map, option_and_then}
use Rattle.jc_base.proofs.Binding.{none_some, the_some}

pub drop_get : {A : Type 0} (xs : List A) (k : ℕ) (x : A) → slice_get xs k ≡ Some x → drop k xs ≡ x ∷ drop (k + 1) xs
drop_get [] k x e = absurd (none_some x e)
drop_get (y ∷ ys) zero x e = ap (λ z. z ∷ ys) (the_some y x e)
drop_get (y ∷ ys) (suc k) x e = let h : suc k + 1 ≡ suc (k + 1) = omega arith in rw h (drop_get ys k x e)

pub drop_all : {A : Type 0} (xs : List A) (k : ℕ) → length xs ≤ k → drop k xs ≡ []
drop_all [] zero le = refl
drop_all [] (suc k) le = refl
drop_all (x ∷ xs) zero le = absurd (omega arith)
drop_all (x ∷ xs) (suc k) le = drop_all xs k (omega arith)

pub get_past : {A : Type 0} (xs : List A) (x : A) → slice_get (xs ++ x ∷ []) (length xs) ≡ Some x
get_past [] x = refl
get_past (y ∷ ys) x = get_past ys x

pub get_kept : {A : Type 0} (xs : List A) (x y : A) (k : ℕ) → slice_get xs k ≡ Some y → slice_get (xs ++ x ∷ []) k ≡ Some y
get_kept [] x y k e = absurd (none_some y e)
get_kept (z ∷ zs) x y zero e = e
get_kept (z ∷ zs) x y (suc k) e = get_kept zs x y k e

pub append_nil : {A : Type 0} (xs : List A) → xs ++ [] ≡ xs
append_nil [] = refl
append_nil (x ∷ xs) = ap (λ ys. x ∷ ys) (append_nil xs)

pub append_one : {A : Type 0} (xs : List A) (y : A) (zs : List A) → (xs ++ y ∷ []) ++ zs ≡ xs ++ y ∷ zs
append_one [] y zs = refl
append_one (x ∷ xs) y zs = ap (λ ys. x ∷ ys) (append_one xs y zs)

pub and_then_some : {A B : Type 0} (f : A → Option B) (o : Option A) (y : B) → option_and_then f o ≡ Some y → (x : A) × (o ≡ Some x) × (f x ≡ Some y)
and_then_some f o y h1 = grind (arith, none_some)

pub map_some : {A B : Type 0} (f : A → B) (o : Option A) (y : B) → option_map f o ≡ Some y → (x : A) × (o ≡ Some x) × (f x ≡ y)
map_some f o y h1 = grind (arith, none_some, the_some)
