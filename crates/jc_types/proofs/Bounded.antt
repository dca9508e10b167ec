-- How high a state is at most.
use Rattle.std.proofs.Common.{ℕ, ◌+◌, ◌*◌, ◌≤◌, Bool, List, [], ◌∷◌, length, arith}
use Rattle.std.proofs.lemmas.List.Sums.{sum_by-cons}
use Rattle.std.specs.List.{sum_by}
use Rattle.jc_classes.specs.Subtype.{IsClassLattice}
use Rattle.jc_names.specs.declared.name.ClassName.{ClassName}
use Rattle.jc_types.specs.declared.ty.Ty.{Ty}
use Rattle.jc_types.specs.Ty.{height_of}
use Rattle.jc_types.specs.PrivateHeight.{height_at_most}
use Rattle.jc_types.specs.State.{Types, height_of_types}

module _ (below : ClassName → ClassName → Bool) (common : ClassName → ClassName → ClassName) (above : ClassName → ℕ) (most : ℕ) (lattice : IsClassLattice below common above most) where
  all_at_most : (ts : List Ty) → sum_by (height_of above most) ts ≤ length ts * (3 + most)
  all_at_most [] = omega arith
  all_at_most (t ∷ ts) = grind (arith, sum_by-cons (height_of above most) t ts, height_at_most below common above most lattice t, all_at_most ts)

  pub types_at_most : (s : Types) → height_of_types above most s ≤ (length s.locals + length s.operands) * (3 + most)
  types_at_most s = grind (arith, all_at_most s.locals, all_at_most s.operands)
