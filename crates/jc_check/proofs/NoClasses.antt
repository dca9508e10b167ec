-- The order where there are no classes.
use Rattle.std.proofs.Common.{◌≡◌, suc, true, List, [], None, refl, ap, ◌∙◌, arith}
use Rattle.std.specs.Option.{option_map_or}
use Rattle.jc_cap_desc.specs.Shape.{Shape}
use Rattle.jc_api.specs.declared.class.ApiClass.TheVariants.{Object}
use Rattle.jc_classes.specs.Subtype.{IsOrder, IsOrderly, Lists, comes_to_end, is_class_below}
use Rattle.jc_classes.specs.Walk.{most_classes}
use Rattle.jc_classes.specs.World.{superclass_of}
use Rattle.jc_names.specs.declared.name.ClassName.{ClassName}
use Rattle.jc_names.specs.declared.name.ClassName.TheVariants.{Api}

-- the world without packages
abbrev pub nothing : List Shape
nothing = []

most_is : most_classes ≡ suc 17_084
unfolding most_classes
most_is = refl

no_superclass : (c : ClassName) → superclass_of nothing c ≡ None
no_superclass c = grind arith

lists_none : (c i : ClassName) → Lists nothing c i → ⊥
lists_none c i h1 = grind arith

ends : (c : ClassName) → comes_to_end nothing most_classes c ≡ true
ends c = ap (λ n. comes_to_end nothing n c) most_is ∙ ap (λ o. option_map_or (comes_to_end nothing 17_084) o true) (no_superclass c)

pub orderly : IsOrderly nothing
orderly = record { ends = ends; interfaces = λ c i h. absurd (lists_none c i h) }

-- it is an order, as the laws of tables say
pub ordered : ((world : List Shape) → IsOrderly world → superclass_of world (Api Object) ≡ None → IsOrder (is_class_below world)) → IsOrder (is_class_below nothing)
ordered tables = tables nothing orderly (no_superclass (Api Object))
