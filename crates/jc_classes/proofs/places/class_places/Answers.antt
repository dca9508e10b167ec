use Rattle.std.proofs.Common.{◌==◌, ◌∙◌, arith}
use Rattle.jc_cap_desc.specs.Shape.{ClassShape}
use Rattle.jc_classes.proofs.Placing.{all_from}
use Rattle.jc_classes.proofs.places.class_places.Goals as goal

pub returns : goal.returns
returns c = λ i. c.loop-left.invariant.behind i ∙ all_from (λ (k : ClassShape). k.offset == i) c.args.classes.now c.loop-left.left (omega (arith, c.loop-left-test.false))
