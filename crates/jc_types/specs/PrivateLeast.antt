-- Private. The join of two types is below every type above both, for a lattice of classes. It stands here since the
-- impl of `Lattice` cites nothing else of its crate.
use Rattle.std.proofs.Common.{◌≡◌, ℕ, Bool, true, arith}
use Rattle.jc_classes.specs.Subtype.{IsClassLattice}
use Rattle.jc_names.specs.declared.name.ClassName.{ClassName}
use Rattle.jc_types.specs.declared.ty.Ty.{Ty}
use Rattle.jc_types.specs.Ty.{is_below, join_of}

module _ (below : ClassName → ClassName → Bool) (common : ClassName → ClassName → ClassName) (above : ClassName → ℕ)
    (most : ℕ) (lattice : IsClassLattice below common above most) where
  pub least : (a b e : Ty) → is_below below a e ≡ true → is_below below b e ≡ true
      → is_below below (join_of common a b) e ≡ true
  least a b e h k = grind (arith, lattice.least)
