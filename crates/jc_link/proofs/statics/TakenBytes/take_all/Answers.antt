use Rattle.jc_link.proofs.SharedBytes.{taken_next}
use Rattle.jc_link.proofs.statics.TakenBytes.take_all.Goals as goal

pub loop-field-preserved : goal.loop-field-preserved
loop-field-preserved c =
    taken_next c.args.fields.now c.loop-field.field-index c.field-item.result c.args.self.now c.loop-field.self
    c.take_static.new.self c.loop-field-test.true c.field-item.is c.loop-field.invariant c.take_static.ensures
