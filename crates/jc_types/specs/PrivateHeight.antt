-- Private. The heights of types fall upward and are bounded, for a lattice of classes. It stands here since the impl of
-- `Lattice` cites nothing else of its crate.
use Rattle.std.proofs.Common.{◌≡◌, ℕ, ◌+◌, ◌<◌, ◌≤◌, ◌⊎◌, inl, inr, Bool, true, false, ap, ◌∙◌, arith}
use Rattle.std.proofs.lemmas.Bool.{cases_lt}
use Rattle.jc_api.specs.declared.class.ApiClass.TheVariants.{Object}
use Rattle.jc_classes.specs.Subtype.{IsClassLattice}
use Rattle.jc_names.specs.declared.name.ClassName.{ClassName}
use Rattle.jc_names.specs.declared.name.ClassName.TheVariants.{Api}
use Rattle.jc_types.specs.PrivateOrder.{below_both}
use Rattle.jc_types.specs.declared.ty.Ty.{Ty}
use Rattle.jc_types.specs.Ty.{is_below, height_of}

module _ (below : ClassName → ClassName → Bool) (common : ClassName → ClassName → ClassName) (above : ClassName → ℕ)
    (most : ℕ) (lattice : IsClassLattice below common above most) where
  pub height_at_most : (t : Ty) → height_of above most t ≤ 3 + most
  height_at_most t = grind (arith, lattice.bounded)

  class_falls : (c d : ClassName) → below c d ≡ true → below d c ≡ false → above d < above c
  class_falls c d h k =
      lattice.falls c d h (λ is. let back : below d c ≡ true = ap (below d) is ∙ lattice.order.reflexive d in cc)

  -- no class has fewer above it than Object
  object_lowest : (c : ClassName) → above (Api Object) ≤ above c
  object_lowest c = by_case (cases_lt (above c) (above (Api Object)))
    where
      by_case : (above c < above (Api Object)) ⊎ (above (Api Object) ≤ above c) → above (Api Object) ≤ above c
      by_case (inl less) =
          let down = lattice.falls c (Api Object) (lattice.object c) (λ is.
          let same : above c ≡ above (Api Object) = ap above is in omega (arith, less, same)) in
          omega (arith, less, down)
      by_case (inr le) = le

  -- whatever is above Object is Object
  above_object : (d : ClassName) → below (Api Object) d ≡ true → above d ≡ above (Api Object)
  above_object d h = ap above (lattice.order.antisymmetric d (Api Object) (lattice.object d) h)

  pub height_falls : (a b : Ty) → is_below below a b ≡ true → is_below below b a ≡ false
      → height_of above most b < height_of above most a
  height_falls a b h k = grind (arith, lattice.bounded, class_falls, object_lowest, above_object)

  -- heights don't grow upward
  pub height_no_more : (a b : Ty) → is_below below a b ≡ true → height_of above most b ≤ height_of above most a
  height_no_more a b h = grind (arith, height_falls, below_both below lattice.order)
