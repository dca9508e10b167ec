-- Lists of types below one another, cut, turned round and written alike.
use Rattle.std.proofs.Common.{◌≡◌, ℕ, zero, suc, List, [], ◌∷◌, ◌++◌, Bool, true, refl, length, take, drop, reverse, slice_set, arith}
use Rattle.std.proofs.lemmas.List.{reverse-append}
use Rattle.jc_base.specs.Stack.{duplicated, swapped}
use Rattle.jc_names.specs.declared.name.ClassName.{ClassName}
use Rattle.jc_types.specs.declared.ty.Ty.{Ty}
use Rattle.jc_types.specs.State.{all_below}
use Rattle.jc_types.specs.Ty.{is_below}
use Rattle.jc_effects.specs.declared.row.Demand.{Demand}
use Rattle.jc_effects.specs.Row.{meets, all_meet}
use Rattle.jc_effects.proofs.Order.{IsTransitive, and_true, both, meets_down}

pub reverse-cons : (x : Ty) (xs : List Ty) → reverse (x ∷ xs) ≡ reverse xs ++ x ∷ []
reverse-cons x xs = reverse-append (x ∷ []) xs

module _ (below : ClassName → ClassName → Bool) where
  pub same_length : (xs ys : List Ty) → all_below below xs ys ≡ true → length xs ≡ length ys
  same_length [] [] h = refl
  same_length (x ∷ xs) (y ∷ ys) h = omega (arith, same_length xs ys (both (is_below below x y) (all_below below xs ys) h).1)
  same_length t u h = absurd cc

  pub take_down : (n : ℕ) (xs ys : List Ty) → all_below below xs ys ≡ true → all_below below (take n xs) (take n ys) ≡ true
  take_down (suc n) [] (y ∷ ys) h = absurd cc
  take_down (suc n) (x ∷ xs) [] h = absurd cc
  take_down (suc n) (x ∷ xs) (y ∷ ys) h =
      let two = both (is_below below x y) (all_below below xs ys) h in
      and_true (is_below below x y) (all_below below (take n xs) (take n ys)) two.0 (take_down n xs ys two.1)
  take_down t xs ys h = refl

  pub drop_down : (n : ℕ) (xs ys : List Ty) → all_below below xs ys ≡ true → all_below below (drop n xs) (drop n ys) ≡ true
  drop_down zero xs ys h = h
  drop_down (suc n) [] [] h = refl
  drop_down (suc n) (x ∷ xs) (y ∷ ys) h = drop_down n xs ys (both (is_below below x y) (all_below below xs ys) h).1
  drop_down t xs ys h = absurd cc

  append_down : (xs ys us vs : List Ty) → all_below below xs ys ≡ true → all_below below us vs ≡ true
      → all_below below (xs ++ us) (ys ++ vs) ≡ true
  append_down [] [] us vs h k = k
  append_down (x ∷ xs) (y ∷ ys) us vs h k =
      let two = both (is_below below x y) (all_below below xs ys) h in
      and_true (is_below below x y) (all_below below (xs ++ us) (ys ++ vs)) two.0 (append_down xs ys us vs two.1 k)
  append_down t u us vs h k = absurd cc

  pub reverse_down : (xs ys : List Ty) → all_below below xs ys ≡ true → all_below below (reverse xs) (reverse ys) ≡ true
  reverse_down [] [] h = refl
  reverse_down (x ∷ xs) (y ∷ ys) h =
      let two = both (is_below below x y) (all_below below xs ys) h in
      rw (reverse-cons x xs, reverse-cons y ys)
      (append_down (reverse xs) (reverse ys) (x ∷ []) (y ∷ []) (reverse_down xs ys two.1) (and_true (is_below below x y) true two.0 refl))
  reverse_down t u h = absurd cc

  pub set_down : (xs ys : List Ty) (i : ℕ) (x y : Ty) → all_below below xs ys ≡ true → is_below below x y ≡ true
      → all_below below (slice_set xs i x) (slice_set ys i y) ≡ true
  set_down [] [] i x y h k = refl
  set_down (u ∷ xs) (v ∷ ys) zero x y h k =
      and_true (is_below below x y) (all_below below xs ys) k (both (is_below below u v) (all_below below xs ys) h).1
  set_down (u ∷ xs) (v ∷ ys) (suc i) x y h k =
      let two = both (is_below below u v) (all_below below xs ys) h in
      and_true (is_below below u v) (all_below below (slice_set xs i x) (slice_set ys i y)) two.0 (set_down xs ys i x y two.1 k)
  set_down t u i x y h k = absurd cc

  pub all_meet_down : IsTransitive below → (ds : List Demand) (xs ys : List Ty) → all_below below xs ys ≡ true
      → all_meet below ds ys ≡ true → all_meet below ds xs ≡ true
  all_meet_down transitive [] [] [] h k = refl
  all_meet_down transitive [] (x ∷ xs) [] h k = absurd cc
  all_meet_down transitive [] xs (y ∷ ys) h k = absurd cc
  all_meet_down transitive (d ∷ ds) xs [] h k = absurd cc
  all_meet_down transitive (d ∷ ds) [] (y ∷ ys) h k = absurd cc
  all_meet_down transitive (d ∷ ds) (x ∷ xs) (y ∷ ys) h k =
      let two = both (is_below below x y) (all_below below xs ys) h in
      let met = both (meets below d y) (all_meet below ds ys) k in
      and_true (meets below d x) (all_meet below ds xs) (meets_down below transitive d x y two.0 met.0)
      (all_meet_down transitive ds xs ys two.1 met.1)

  -- operands that are moved
  pub duplicated_down : (count depth : ℕ) (xs ys : List Ty) → all_below below xs ys ≡ true
      → all_below below (duplicated count depth xs) (duplicated count depth ys) ≡ true
  duplicated_down count depth xs ys h = grind (arith, append_down, take, drop, take_down, drop_down)

  pub swapped_down : (upper lower : ℕ) (xs ys : List Ty) → all_below below xs ys ≡ true
      → all_below below (swapped upper lower xs) (swapped upper lower ys) ≡ true
  swapped_down upper lower xs ys h = grind (arith, append_down, take, drop, take_down, drop_down)
