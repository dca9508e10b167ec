use Rattle.jc_link.proofs.SharedBytes.{classes_next}
use Rattle.jc_link.proofs.statics.TakenBytes.of_package.Goals as goal

pub loop-class-preserved : goal.loop-class-preserved
loop-class-preserved c =
    classes_next c.classes-class-items.result.now c.loop-class.class-index c.class-item.result
    c.fields.result.now c.loop-class.taken c.take_all.new.self c.loop-class-test.true c.class-item.is c.fields.ensures
    c.loop-class.invariant c.take_all.ensures
