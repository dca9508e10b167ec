-- What is found in lists put one behind the other.
use Rattle.std.proofs.Common.{◌≡◌, ℕ, ◌+◌, ◌<◌, ◌++◌, Bool, List, [], ◌∷◌, length, drop, get_or, Option, Some, None, refl, sym, ap, ◌∙◌, arith}
use Rattle.std.proofs.lemmas.List.{drop_more}
use Rattle.std.specs.List.{find, flat_map}
use Rattle.std.specs.Option.{option_or}
use Rattle.jc_cap_desc.specs.Shape.{ClassShape, FieldShape}

find_append : {A : Type 0} (p : A → Bool) (xs ys : List A) → find p (xs ++ ys) ≡ option_or (find p xs) (find p ys)
find_append p [] ys = refl
find_append p (x ∷ xs) ys = grind (arith, find_append p xs ys)

-- the classes from one on: the first among its fields, or else behind it
module _ (p : FieldShape → Bool) (total : Option FieldShape) (classes : List ClassShape) (i : ℕ) (k : ClassShape) (fields : List FieldShape)
    (so_far : total ≡ find p (flat_map (λ k. k.fields) (drop i classes))) (h : i < length classes) (is : k ≡ get_or classes i k) (its : fields ≡ k.fields) where
  front : total ≡ option_or (find p fields) (find p (flat_map (λ k. k.fields) (drop (i + 1) classes)))
  front = grind (arith, drop_more, find_append, get_or)

  pub here : (f : FieldShape) → find p fields ≡ Some f → Some f ≡ total
  here f e = sym (front ∙ ap (λ o. option_or o (find p (flat_map (λ k. k.fields) (drop (i + 1) classes)))) e)

  pub behind : find p fields ≡ None → total ≡ find p (flat_map (λ k. k.fields) (drop (i + 1) classes))
  behind e = front ∙ ap (λ o. option_or o (find p (flat_map (λ k. k.fields) (drop (i + 1) classes)))) e
