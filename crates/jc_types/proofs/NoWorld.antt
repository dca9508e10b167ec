-- The order where there are no classes.
use Rattle.std.proofs.Common.{◌≡◌, ℕ, suc, ◌||◌, Bool, false, List, [], None, refl, ap, ◌∙◌, arith}
use Rattle.std.specs.Option.{option_map_or}
use Rattle.jc_cap_desc.specs.Shape.{Shape}
use Rattle.jc_api.specs.declared.class.ApiClass.TheVariants.{Object}
use Rattle.jc_names.specs.Names.{is_same_name}
use Rattle.jc_classes.specs.Subtype.{is_at_or_above, is_class_below}
use Rattle.jc_classes.specs.Walk.{most_classes}
use Rattle.jc_classes.specs.World.{superclass_of}
use Rattle.jc_names.specs.declared.name.ClassName.{ClassName}
use Rattle.jc_names.specs.declared.name.ClassName.TheVariants.{Api}

pub most_is : most_classes ≡ suc 17_084
unfolding most_classes
most_is = refl

-- the world without packages
abbrev nothing : List Shape
nothing = []

no_superclass : (c : ClassName) → superclass_of nothing c ≡ None
no_superclass c = grind arith

or_false : (b : Bool) → (b || false) ≡ b
or_false b = grind arith

one_class : (n : ℕ) (d c : ClassName) → is_at_or_above nothing (suc n) d c ≡ is_same_name c d
one_class n d c = ap (λ o. is_same_name c d || option_map_or (is_at_or_above nothing n d) o false) (no_superclass c) ∙ or_false (is_same_name c d)

pub name_below : (c d : ClassName) → is_class_below nothing c d ≡ (is_same_name (Api Object) d || is_same_name c d)
name_below c d = ap (λ b. is_same_name (Api Object) d || b) (ap (λ n. is_at_or_above nothing n d c) most_is ∙ one_class 17_084 d c)
