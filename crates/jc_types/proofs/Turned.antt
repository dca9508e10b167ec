-- Lists compared point by point, joined and summed, and turned round.
use Rattle.std.proofs.Common.{◌≡◌, ℕ, ◌+◌, List, [], ◌∷◌, ◌++◌, length, reverse, arith, Bool, true, false, ◌&&◌, refl, sym, ap, ◌∙◌}
use Rattle.std.proofs.lemmas.List.{reverse-append, length-reverse}
use Rattle.std.proofs.lemmas.List.Sums.{sum_by-append, sum_by-cons}
use Rattle.std.specs.List.{sum_by}
use Rattle.jc_names.specs.declared.name.ClassName.{ClassName}
use Rattle.jc_types.specs.declared.ty.Ty.{Ty}
use Rattle.jc_types.specs.Ty.{is_below, join_of}
use Rattle.jc_types.specs.State.{all_below, joined_all}

reverse-cons : (x : Ty) (xs : List Ty) → reverse (x ∷ xs) ≡ reverse xs ++ x ∷ []
reverse-cons x xs = reverse-append (x ∷ []) xs

and_assoc : (a b c : Bool) → (a && b) && c ≡ a && (b && c)
and_assoc a b c = grind arith

and_comm : (a b : Bool) → a && b ≡ b && a
and_comm a b = grind arith

and_false : (a : Bool) → a && false ≡ false
and_false a = grind arith

module _ (below : ClassName → ClassName → Bool) where
  none_above : (xs : List Ty) (a : Ty) → all_below below (xs ++ a ∷ []) [] ≡ false
  none_above [] a = refl
  none_above (x ∷ xs) a = refl

  none_below : (ys : List Ty) (b : Ty) → all_below below [] (ys ++ b ∷ []) ≡ false
  none_below [] b = refl
  none_below (y ∷ ys) b = refl

  at_end : (xs ys : List Ty) (a b : Ty) → all_below below (xs ++ a ∷ []) (ys ++ b ∷ []) ≡ all_below below xs ys && is_below below a b
  at_end [] [] a b = and_comm (is_below below a b) true
  at_end [] (y ∷ ys) a b = rw (none_below ys b) (and_false (is_below below a y))
  at_end (x ∷ xs) [] a b = rw (none_above xs a) (and_false (is_below below x b))
  at_end (x ∷ xs) (y ∷ ys) a b = rw (at_end xs ys a b) (sym (and_assoc (is_below below x y) (all_below below xs ys) (is_below below a b)))

  -- lists turned round compare as the lists
  pub reversed : (xs ys : List Ty) → all_below below (reverse xs) (reverse ys) ≡ all_below below xs ys
  reversed [] [] = refl
  reversed [] (y ∷ ys) = rw (reverse-cons y ys) (none_below (reverse ys) y)
  reversed (x ∷ xs) [] = rw (reverse-cons x xs) (none_above (reverse xs) x)
  reversed (x ∷ xs) (y ∷ ys) = rw (reverse-cons x xs, reverse-cons y ys) (at_end (reverse xs) (reverse ys) x y ∙ ap (λ (v : Bool). v && is_below below x y) (reversed xs ys) ∙ and_comm (all_below below xs ys) (is_below below x y))

pub sum_reversed : (f : Ty → ℕ) (xs : List Ty) → sum_by f (reverse xs) ≡ sum_by f xs
sum_reversed f [] = refl
sum_reversed f (x ∷ xs) = search (arith, reverse, reverse-cons, sum_by-append, sum_by-cons, sum_reversed f xs)

module _ (common : ClassName → ClassName → ClassName) where
  joined_at_end : (xs ys : List Ty) (a b : Ty) → length xs ≡ length ys → joined_all common (xs ++ a ∷ []) (ys ++ b ∷ []) ≡ joined_all common xs ys ++ join_of common a b ∷ []
  joined_at_end [] [] a b e = refl
  joined_at_end [] (y ∷ ys) a b e = absurd (omega (arith, e))
  joined_at_end (x ∷ xs) [] a b e = absurd (omega (arith, e))
  joined_at_end (x ∷ xs) (y ∷ ys) a b e = ap (λ (rest : List Ty). join_of common x y ∷ rest) (joined_at_end xs ys a b (omega (arith, e)))

  -- lists of one length turned round are joined as the lists
  pub joined_reversed : (xs ys : List Ty) → length xs ≡ length ys → joined_all common (reverse xs) (reverse ys) ≡ reverse (joined_all common xs ys)
  joined_reversed [] [] e = refl
  joined_reversed [] (y ∷ ys) e = absurd (omega (arith, e))
  joined_reversed (x ∷ xs) [] e = absurd (omega (arith, e))
  joined_reversed (x ∷ xs) (y ∷ ys) e =
      let one : length xs ≡ length ys = omega (arith, e) in
      let turned : length (reverse xs) ≡ length (reverse ys) = length-reverse xs ∙ one ∙ sym (length-reverse ys) in
      rw (reverse-cons x xs, reverse-cons y ys, reverse-cons (join_of common x y) (joined_all common xs ys))
      (joined_at_end (reverse xs) (reverse ys) x y turned ∙ ap (λ (front : List Ty). front ++ join_of common x y ∷ []) (joined_reversed xs ys one))
