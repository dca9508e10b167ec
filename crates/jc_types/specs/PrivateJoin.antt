-- Private. The join of two types is above both, for a lattice of classes. It stands here since the impl of `Lattice`
-- cites nothing else of its crate.
use Rattle.std.proofs.Common.{◌≡◌, ℕ, Bool, true, arith}
use Rattle.jc_classes.specs.Subtype.{IsClassLattice}
use Rattle.jc_names.specs.declared.name.ClassName.{ClassName}
use Rattle.jc_types.specs.declared.ty.Ty.{Ty}
use Rattle.jc_types.specs.Ty.{is_below, join_of}

module _ (below : ClassName → ClassName → Bool) (common : ClassName → ClassName → ClassName) (above : ClassName → ℕ)
    (most : ℕ) (lattice : IsClassLattice below common above most) where
  pub above_one : (a b : Ty) → is_below below a (join_of common a b) ≡ true
  above_one a b = grind (arith, lattice.order.reflexive, lattice.object, lattice.first)

  pub above_other : (a b : Ty) → is_below below b (join_of common a b) ≡ true
  above_other a b = grind (arith, lattice.order.reflexive, lattice.object, lattice.second)
