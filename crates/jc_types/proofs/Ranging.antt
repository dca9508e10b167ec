-- Lists of types that agree outside of a range, compared point by point.
use Rattle.std.proofs.Common.{◌≡◌, ℕ, zero, suc, ◌+◌, ◌-◌, ◌<◌, ◌≤◌, List, [], ◌∷◌, length, take, drop, Bool, true, ◌&&◌}
use Rattle.std.proofs.Common.{get_or, refl, sym, ap, ◌∙◌, arith}
use Rattle.std.proofs.lemmas.List.{drop-drop, drop_more, length-drop}
use Rattle.jc_names.specs.declared.name.ClassName.{ClassName}
use Rattle.jc_types.specs.PrivateRanges.{AgreeOutside}
use Rattle.jc_types.specs.State.{all_below}
use Rattle.jc_types.specs.Ty.{is_below}
use Rattle.jc_types.specs.declared.ranges.LocalRange.{LocalRange}
use Rattle.jc_types.specs.declared.ty.Ty.{Ty}

both_true : (p q : Bool) → p && q ≡ true → (p ≡ true) × (q ≡ true)
both_true p q h = grind arith

middle : (p q r : Bool) → p ≡ true → r ≡ true → q ≡ p && (q && r)
middle p q r h k = grind arith

-- lists that agree from an index on, and right in front of it
pub one_before : (xs ys : List Ty) (i : ℕ) (d : Ty) → 0 < i → i ≤ length xs → length xs ≡ length ys
    → get_or xs (i - 1) d ≡ get_or ys (i - 1) d → drop i xs ≡ drop i ys → drop (i - 1) xs ≡ drop (i - 1) ys
one_before xs ys i d some within e same rest =
    let at : i - 1 + 1 ≡ i = omega (arith, some) in
    drop_more xs (i - 1) d (omega (arith, some, within))
    ∙ ap (λ n. get_or xs (i - 1) d ∷ drop n xs) at
    ∙ ap (λ (ts : List Ty). get_or xs (i - 1) d ∷ ts) rest
    ∙ ap (λ t. t ∷ drop i ys) same
    ∙ ap (λ n. get_or ys (i - 1) d ∷ drop n ys) (sym at)
    ∙ sym (drop_more ys (i - 1) d (omega (arith, some, within, e)))

module _ (below : ClassName → ClassName → Bool) where
  -- in front of an index, and from there on
  parted : (n : ℕ) (a b : List Ty) → length a ≡ length b
      → all_below below a b ≡ all_below below (take n a) (take n b) && all_below below (drop n a) (drop n b)
  parted zero a b e = refl
  parted (suc n) [] [] e = refl
  parted (suc n) [] (y ∷ ys) e = absurd (omega arith)
  parted (suc n) (x ∷ xs) [] e = absurd (omega arith)
  parted (suc n) (x ∷ xs) (y ∷ ys) e =
      ap (λ b. is_below below x y && b) (parted n xs ys (omega arith)) ∙ joined (is_below below x y) _ _
    where
      joined : (p q r : Bool) → p && (q && r) ≡ (p && q) && r
      joined p q r = grind arith

  -- in front of a range, in it, and behind it
  in_three : (first count : ℕ) (a b : List Ty) → length a ≡ length b
      → all_below below a b ≡ all_below below (take first a) (take first b)
      && (all_below below (take count (drop first a)) (take count (drop first b))
      && all_below below (drop (first + count) a) (drop (first + count) b))
  in_three first count a b e =
      parted first a b e
      ∙ ap (λ q. all_below below (take first a) (take first b) && q)
      (parted count (drop first a) (drop first b) (length-drop first a ∙ ap (λ n. n - first) e ∙ sym (length-drop first b))
      ∙ ap (λ q. all_below below (take count (drop first a)) (take count (drop first b)) && q) behind)
    where
      behind : all_below below (drop count (drop first a)) (drop count (drop first b))
          ≡ all_below below (drop (first + count) a) (drop (first + count) b)
      behind = grind (arith, drop-drop)

  pub within_range : (range : LocalRange) (old lower upper : List Ty) → AgreeOutside range old lower
      → length lower ≡ length upper → all_below below old upper ≡ true
      → all_below below (take (range.behind - range.first) (drop range.first lower))
      (take (range.behind - range.first) (drop range.first upper)) ≡ all_below below lower upper
  within_range range old lower upper agree e below_old =
      let behind : range.first + (range.behind - range.first) ≡ range.behind = omega (arith, agree.ordered) in
      let count : length old ≡ length upper = agree.count ∙ e in
      let was = both_true _ _ (sym (in_three range.first (range.behind - range.first) old upper count) ∙ below_old) in
      let after = both_true _ _ was.1 in
      middle _ _ _
      (ap (λ (ts : List Ty). all_below below ts (take range.first upper)) (sym agree.before) ∙ was.0)
      (ap (λ n. all_below below (drop n lower) (drop n upper)) behind
      ∙ ap (λ (ts : List Ty). all_below below ts (drop range.behind upper)) (sym agree.after)
      ∙ ap (λ n. all_below below (drop n old) (drop n upper)) (sym behind) ∙ after.1)
      ∙ sym (in_three range.first (range.behind - range.first) lower upper e)
