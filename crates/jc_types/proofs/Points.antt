-- Lists compared point by point, as a loop does.
use Rattle.std.proofs.Common.{◌≡◌, ℕ, zero, suc, ◌+◌, ◌<◌, ◌≤◌, List, [], ◌∷◌, length, drop, get_or, Bool, true, false, ◌&&◌, refl, sym, ◌∙◌, arith}
use Rattle.jc_names.specs.declared.name.ClassName.{ClassName}
use Rattle.jc_types.specs.declared.ty.Ty.{Ty}
use Rattle.jc_types.specs.declared.ty.Ty.TheVariants.{Top}
use Rattle.jc_types.specs.Ty.{is_below}
use Rattle.jc_types.specs.State.{all_below}

module _ (below : ClassName → ClassName → Bool) where
  pub other_lengths : (a b : List Ty) → (length a ≡ length b → ⊥) → all_below below a b ≡ false
  other_lengths [] [] ne = absurd (ne refl)
  other_lengths [] (y ∷ ys) ne = refl
  other_lengths (x ∷ xs) [] ne = refl
  other_lengths (x ∷ xs) (y ∷ ys) ne = search (arith, no, other_lengths xs ys (λ e. ne (omega arith)))

  -- the points from one on
  one_point : (a b : List Ty) (i : ℕ) → i < length a → length a ≡ length b → all_below below (drop i a) (drop i b) ≡ is_below below (get_or a i Top) (get_or b i Top) && all_below below (drop (i + 1) a) (drop (i + 1) b)
  one_point [] b i lt e = absurd (omega arith)
  one_point (x ∷ xs) [] i lt e = absurd (omega arith)
  one_point (x ∷ xs) (y ∷ ys) zero lt e = refl
  one_point (x ∷ xs) (y ∷ ys) (suc i) lt e = let k : suc i + 1 ≡ suc (i + 1) = omega arith in rw k (one_point xs ys i (omega arith) (omega arith))

  pub goes_on : (a b : List Ty) (i : ℕ) (total : Bool) → i < length a → length a ≡ length b → is_below below (get_or a i Top) (get_or b i Top) ≡ true → all_below below (drop i a) (drop i b) ≡ total → all_below below (drop (i + 1) a) (drop (i + 1) b) ≡ total
  goes_on a b i total lt e h so_far = grind (arith, one_point)

  pub stops : (a b : List Ty) (i : ℕ) (total : Bool) → i < length a → length a ≡ length b → is_below below (get_or a i Top) (get_or b i Top) ≡ false → all_below below (drop i a) (drop i b) ≡ total → false ≡ total
  stops a b i total lt e h so_far = grind (arith, one_point)

  nothing_left : (a b : List Ty) (i : ℕ) → length a ≡ length b → length a ≤ i → all_below below (drop i a) (drop i b) ≡ true
  nothing_left [] [] i e le = none i
    where
      none : (i : ℕ) → all_below below (drop i []) (drop i []) ≡ true
      none i = grind arith
  nothing_left [] (y ∷ ys) i e le = absurd (omega arith)
  nothing_left (x ∷ xs) [] i e le = absurd (omega arith)
  nothing_left (x ∷ xs) (y ∷ ys) zero e le = absurd (omega arith)
  nothing_left (x ∷ xs) (y ∷ ys) (suc i) e le = nothing_left xs ys i (omega arith) (omega arith)

  pub is_done : (a b : List Ty) (i : ℕ) (total : Bool) → length a ≡ length b → length a ≤ i → all_below below (drop i a) (drop i b) ≡ total → true ≡ total
  is_done a b i total e le so_far = sym (nothing_left a b i e le) ∙ so_far
