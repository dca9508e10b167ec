use Rattle.std.proofs.Common.{sym, ◌==◌, ◌∙◌}
use Rattle.jc_cap_desc.specs.Shape.{ClassShape}
use Rattle.jc_classes.proofs.Placing.{found_there}
use Rattle.jc_classes.proofs.shape.PackageShape.class_in.Goals as goal

pub returns : goal.returns
returns c = c.class_with.ensures ∙ sym (found_there (λ (k : ClassShape). k.offset == c.args.offset) c.args.self.now.classes c.in_ok-index.index (sym c.index_of.ensures.found ∙ c.in_ok-index.was))
