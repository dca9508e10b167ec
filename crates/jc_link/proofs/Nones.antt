-- What it says that nothing of a list passes a test.
use Rattle.std.proofs.Common.{◌≡◌, ℕ, zero, suc, ◌+◌, ◌<◌, ◌≤◌, ◌==◌, ◌&&◌, ◌||◌, not, Bool, true, false, cond, List, [], ◌∷◌, Option, Some, None, refl, ap, sym, ◌∙◌, arith, is_some, slice_get}
use Rattle.std.proofs.lemmas.Bool.{eqb-true, eqb-false}
use Rattle.std.specs.List.{find, list_any, range_with_len}
use Rattle.std.specs.Option.{IsSome}
use Rattle.jc_link.proofs.GrownParts.{the_some, none_some}

-- ---- tests

pub true_false : {A : Type 0} → true ≡ false → A
true_false e = absurd cc

pub left_false : (a b : Bool) → (a || b) ≡ false → a ≡ false
left_false a b h1 = grind arith

pub right_false : (a b : Bool) → (a || b) ≡ false → b ≡ false
right_false a b h1 = grind (arith, true_false)

pub neither : (a b : Bool) → a ≡ false → b ≡ false → (a || b) ≡ false
neither a b h1 h2 = grind (arith, true_false)

pub then_false : (a b : Bool) → (a && b) ≡ false → a ≡ true → b ≡ false
then_false a b h1 h2 = grind (arith, true_false)

pub left_true : (a b : Bool) → (a && b) ≡ true → a ≡ true
left_true a b h1 = grind (arith, true_false)

pub right_true : (a b : Bool) → (a && b) ≡ true → b ≡ true
right_true a b h1 = grind (arith, true_false)

pub not_false : (a : Bool) → not a ≡ false → a ≡ true
not_false a h1 = grind (arith, true_false)

pub not_true : (a : Bool) → not a ≡ true → a ≡ false
not_true a h1 = grind (arith, true_false)

-- ---- options

pub some_there : {A : Type 0} (o : Option A) → is_some o ≡ true → IsSome o
some_there o h1 = grind (arith, true_false)

pub there_some : {A : Type 0} (o : Option A) → is_some o ≡ true → (a : A) × (o ≡ Some a)
there_some o h1 = grind (arith, true_false)

-- ---- lists

-- nothing passes, so this doesn't
pub none_at : {A : Type 0} (p : A → Bool) (xs : List A) (n : ℕ) (x : A) → list_any p xs ≡ false → slice_get xs n ≡ Some x → p x ≡ false
none_at p [] n x e at = absurd (none_some x at)
none_at p (y ∷ ys) zero x e at = ap p (sym (the_some y x at)) ∙ left_false (p y) (list_any p ys) e
none_at p (y ∷ ys) (suc n) x e at = none_at p ys n x (right_false (p y) (list_any p ys) e) at

pub none_found : {A : Type 0} (p q : A → Bool) (xs : List A) (x : A) → list_any p xs ≡ false → find q xs ≡ Some x → p x ≡ false
none_found p q [] x e at = absurd (none_some x at)
none_found p q (y ∷ ys) x e at =
    grind (arith, right_false, the_some, left_false, none_found p q ys x (right_false (p y) (list_any p ys) e))

pub none_in_range : (p : ℕ → Bool) (from n i : ℕ) → list_any p (range_with_len from n) ≡ false → from ≤ i → i < from + n → p i ≡ false
none_in_range p from zero i e low high = absurd (omega arith)
none_in_range p from (suc n) i e low high =
    by_place (from == i) (eqb-true from i) (eqb-false from i)
    (λ above. none_in_range p (from + 1) n i (right_false (p from) (list_any p (range_with_len (from + 1) n)) e) above (omega arith))
  where
    by_place : (b : Bool) → (b ≡ true → from ≡ i) → (b ≡ false → from ≡ i → ⊥) → (from + 1 ≤ i → p i ≡ false) → p i ≡ false
    by_place b h1 h2 h3 = grind (arith, left_false)

-- the first is none, so nothing at any place passes
pub none_first : {A : Type 0} (p : A → Bool) (xs : List A) (n : ℕ) (x : A) → find p xs ≡ None → slice_get xs n ≡ Some x → p x ≡ false
none_first p [] n x e at = absurd (none_some x at)
none_first {A = A} p (y ∷ ys) n x e at = by_test (p y) refl (λ m. none_first p ys m x) e n at
  where
    by_test : (b : Bool) → p y ≡ b → ((m : ℕ) → find p ys ≡ None → slice_get ys m ≡ Some x → p x ≡ false) → cond b (Some y) (find p ys) ≡ None
        → (n : ℕ) → slice_get (y ∷ ys) n ≡ Some x → p x ≡ false
    by_test b h1 h2 h3 n h4 = grind (arith, none_some, the_some)

-- what is found passes
pub found_passes : {A : Type 0} (p : A → Bool) (xs : List A) (x : A) → find p xs ≡ Some x → p x ≡ true
found_passes p [] x e = absurd (none_some x e)
found_passes p (y ∷ ys) x e = grind (arith, the_some, found_passes p ys x)

-- what is found stands at a place
pub found_at : {A : Type 0} (p : A → Bool) (xs : List A) (x : A) → find p xs ≡ Some x → (n : ℕ) × (slice_get xs n ≡ Some x)
found_at p [] x e = absurd (none_some x e)
found_at p (y ∷ ys) x e = by_test (p y) (found_at p ys x) e
  where
    by_test : (b : Bool) → (find p ys ≡ Some x → (n : ℕ) × (slice_get ys n ≡ Some x)) → cond b (Some y) (find p ys) ≡ Some x → (n : ℕ) × (slice_get (y ∷ ys) n ≡ Some x)
    by_test true rest e = (0, e)
    by_test false rest e = let more = rest e in (suc more.0, more.1)
