use Rattle.std.proofs.Common.{◌≤◌, List, length, sym, subst}
use Rattle.jc_cap_desc.specs.Shape.{ClassShape}
use Rattle.jc_classes.proofs.Numbering.{few_classes}
use Rattle.jc_classes.specs.Limits.{most_classes_of_one}
use Rattle.jc_classes.proofs.api.api_shape.Goals as goal

pub new-requires : goal.new-requires
new-requires c = subst (λ (xs : List ClassShape). length xs ≤ most_classes_of_one) (sym c.in_ok-classes.ensures) (few_classes c.args.binding.now c.args.which)
