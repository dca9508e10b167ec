-- Private. The order of types is a partial order for an order of classes: the laws of the impl of `Lattice`. They stand
-- here since an impl cites nothing else of its crate.
use Rattle.std.proofs.Common.{◌≡◌, Bool, true, arith}
use Rattle.jc_classes.specs.Subtype.{IsOrder}
use Rattle.jc_names.specs.declared.name.ClassName.{ClassName}
use Rattle.jc_types.specs.declared.ty.Ty.{Ty}
use Rattle.jc_types.specs.declared.ty.Ty.TheVariants.{Class, ReferenceArray}
use Rattle.jc_types.specs.Ty.{is_below}

module _ (below : ClassName → ClassName → Bool) (order : IsOrder below) where
  pub below_self : (t : Ty) → is_below below t t ≡ true
  below_self t = grind (arith, order.reflexive)

  pub below_both : (a b : Ty) → is_below below a b ≡ true → is_below below b a ≡ true → a ≡ b
  below_both a b h k = grind (arith, order.antisymmetric)

  objects_through : (a : Ty) (c d : ClassName) → is_below below a (Class c) ≡ true → below c d ≡ true
      → is_below below a (Class d) ≡ true
  objects_through a c d h k = grind (arith, λ (x : ClassName). order.transitive x c d)

  components_through : (a : Ty) (c d : ClassName) → is_below below a (ReferenceArray c) ≡ true → below c d ≡ true
      → is_below below a (ReferenceArray d) ≡ true
  components_through a c d h k = grind (arith, λ (x : ClassName). order.transitive x c d)

  pub below_through : (a b c : Ty) → is_below below a b ≡ true → is_below below b c ≡ true → is_below below a c ≡ true
  below_through a (Class c) (Class d) h k = objects_through a c d h k
  below_through a (ReferenceArray c) (ReferenceArray d) h k = components_through a c d h k
  below_through a b c h k = grind arith
