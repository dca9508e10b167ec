-- Elements of lists and objects of heaps, by their numbers.
use Rattle.std.proofs.Common.{◌≡◌, ◌≢◌, ℕ, zero, suc, ◌<◌, List, [], ◌∷◌, length, set, slice_get, Some, refl, ap, arith}
use Rattle.std.proofs.lemmas.Option.{none-some}
use Rattle.jc_store.specs.Heap.{Heap, Object, object_at, with_object}

-- ---- lists

pub got : {A : Type 0} (xs : List A) (n : ℕ) → n < length xs → (x : A) × (slice_get xs n ≡ Some x)
got [] n h = absurd (omega (arith, h))
got (x ∷ xs) zero h = (x, refl)
got (x ∷ xs) (suc n) h = got xs n (omega (arith, h))

pub got_set_same : {A : Type 0} (xs : List A) (n : ℕ) (x y : A) → slice_get xs n ≡ Some x
    → slice_get (set xs n y) n ≡ Some y
got_set_same [] n x y e = absurd (none-some x e)
got_set_same (z ∷ xs) zero x y e = refl
got_set_same (z ∷ xs) (suc n) x y e = got_set_same xs n x y e

pub got_set_other : {A : Type 0} (xs : List A) (n m : ℕ) (y : A) → n ≢ m → slice_get (set xs n y) m ≡ slice_get xs m
got_set_other [] n m y h = refl
got_set_other (z ∷ xs) zero zero y h = absurd (h refl)
got_set_other (z ∷ xs) zero (suc m) y h = refl
got_set_other (z ∷ xs) (suc n) zero y h = refl
got_set_other (z ∷ xs) (suc n) (suc m) y h = got_set_other xs n m y (λ e. h (ap suc e))

-- ---- heaps

pub same_object : {V : Type 0} (heap : Heap V) (number : ℕ) (object : Object V) → object_at heap number ≡ Some object
    → object_at (with_object heap number object) number ≡ Some object
same_object heap number object h1 = grind (arith, none-some, got_set_same)

pub new_object : {V : Type 0} (heap : Heap V) (number : ℕ) (before after : Object V)
    → object_at heap number ≡ Some before → object_at (with_object heap number after) number ≡ Some after
new_object heap number before after h1 = grind (arith, none-some, got_set_same)

pub other_object : {V : Type 0} (heap : Heap V) (number other : ℕ) (object : Object V) → number ≢ other
    → object_at (with_object heap number object) other ≡ object_at heap other
other_object heap number other object h1 = grind (arith, got_set_other)
