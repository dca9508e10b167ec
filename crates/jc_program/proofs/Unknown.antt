-- What a class is below that isn't there.
use Rattle.std.proofs.Common.{◌≡◌, ℕ, suc, ◌||◌, Bool, false, List, [], Option, None, ap, arith}
use Rattle.jc_api.specs.declared.class.ApiClass.TheVariants.{Object}
use Rattle.jc_cap_desc.specs.Shape.{Shape}
use Rattle.jc_classes.specs.Subtype.{is_subtype, is_subtype_within}
use Rattle.jc_classes.specs.Walk.{most_classes}
use Rattle.jc_classes.specs.World.{class_at, interfaces_of, superclass_of}
use Rattle.jc_names.specs.Names.{is_same_name}
use Rattle.jc_names.specs.declared.name.ClassName.{ClassName}
use Rattle.jc_names.specs.declared.name.ClassName.TheVariants.{Api}
use Rattle.jc_program.proofs.Chaining.{most_is}

module _ (world : List Shape) (c : ClassName) (none : class_at world c ≡ None) where
  no_superclass : superclass_of world c ≡ None
  no_superclass = grind (arith, Option)

  no_interface : interfaces_of world c ≡ []
  no_interface = grind (arith, Option)

  first_alone : (b : Bool) → (b || false || false) ≡ b
  first_alone b = grind arith

  itself_alone : (n m : ℕ) (d : ClassName) → n ≡ suc m → is_subtype_within world n c d ≡ is_same_name c d
  itself_alone n m d one = grind (arith, no_superclass, no_interface, first_alone)

  pub below_itself : (d : ClassName) → is_subtype world c d ≡ (is_same_name (Api Object) d || is_same_name c d)
  below_itself d = ap (λ b. is_same_name (Api Object) d || b) (itself_alone most_classes 17_084 d most_is)
