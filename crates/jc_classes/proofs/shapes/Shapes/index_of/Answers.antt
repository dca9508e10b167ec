use Rattle.std.proofs.Common.{◌==◌, ap, ◌∙◌}
use Rattle.std.specs.List.{position}
use Rattle.std.specs.Option.{option_and_then}
use Rattle.jc_cap_desc.specs.Shape.{ClassShape, Shape}
use Rattle.jc_names.specs.Names.{offset_of}
use Rattle.jc_classes.proofs.shapes.Shapes.index_of.Goals as goal

pub returns : goal.returns
returns c =
    c.index_of.ensures.found
    ∙ ap (λ n. position (λ (k : ClassShape). k.offset == n) c.in_ok-shape.shape.now.classes) c.offset.ensures
    ∙ ap (option_and_then (λ (s : Shape). position (λ (k : ClassShape). k.offset == offset_of c.args.class) s.classes)) c.in_ok-shape.ensures.found
