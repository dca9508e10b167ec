-- What is demanded of types, point by point, as a loop compares them.
use Rattle.std.proofs.Common.{◌≡◌, ℕ, zero, suc, ◌+◌, ◌<◌, List, ◌∷◌, length, map, drop, get_or, Bool, true, false, ◌&&◌, refl, sym, ap, ◌∙◌, arith}
use Rattle.jc_names.specs.declared.name.ClassName.{ClassName}
use Rattle.jc_types.specs.declared.ty.Ty.{Ty}
use Rattle.jc_effects.specs.declared.row.Demand.{Demand}
use Rattle.jc_effects.specs.Row.{meets, all_meet}

module _ (below : ClassName → ClassName → Bool) {X : Type 0} (f : X → Demand) where
  -- the points from one on
  one_point : (xs : List X) (ts : List Ty) (i : ℕ) (x : X) (t : Ty) → i < length xs → length xs ≡ length ts
      → all_meet below (map f (drop i xs)) (drop i ts)
      ≡ meets below (f (get_or xs i x)) (get_or ts i t) && all_meet below (map f (drop (i + 1) xs)) (drop (i + 1) ts)
  one_point (a ∷ xs) (b ∷ ts) zero x t lt e = refl
  one_point (a ∷ xs) (b ∷ ts) (suc i) x t lt e = search (arith, one_point xs ts i x t (omega arith) (omega arith))
  one_point u ts i x t lt e = absurd (omega arith)

  pub goes_on : (xs : List X) (ts : List Ty) (i : ℕ) (x : X) (t : Ty) (total : Bool) → i < length xs → length xs ≡ length ts
      → meets below (f (get_or xs i x)) (get_or ts i t) ≡ true → all_meet below (map f (drop i xs)) (drop i ts) ≡ total
      → all_meet below (map f (drop (i + 1) xs)) (drop (i + 1) ts) ≡ total
  goes_on xs ts i x t total lt e h so_far =
      let one : all_meet below (map f (drop i xs)) (drop i ts) ≡ all_meet below (map f (drop (i + 1) xs)) (drop (i + 1) ts) =
      one_point xs ts i x t lt e ∙ ap (λ (b : Bool). b && all_meet below (map f (drop (i + 1) xs)) (drop (i + 1) ts)) h in
      sym one ∙ so_far

  pub stops : (xs : List X) (ts : List Ty) (i : ℕ) (x : X) (t : Ty) (total : Bool) → i < length xs → length xs ≡ length ts
      → meets below (f (get_or xs i x)) (get_or ts i t) ≡ false → all_meet below (map f (drop i xs)) (drop i ts) ≡ total
      → false ≡ total
  stops xs ts i x t total lt e h so_far =
      let one : all_meet below (map f (drop i xs)) (drop i ts) ≡ false =
      one_point xs ts i x t lt e ∙ ap (λ (b : Bool). b && all_meet below (map f (drop (i + 1) xs)) (drop (i + 1) ts)) h in
      sym one ∙ so_far
