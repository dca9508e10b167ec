use Rattle.jc_link.proofs.SharedBytes.{one_among}
use Rattle.jc_link.proofs.StaticOffsets.{past_field}
use Rattle.jc_link.proofs.statics.first_bad_among.Goals as goal

pub loop-field-preserved : goal.loop-field-preserved
loop-field-preserved c all are among =
    let one = one_among c.args.fields.now c.loop-field.field-index c.field-item.result all c.loop-field-test.true
    c.field-item.is among in
    rw c.earlier-first.ensures
    (past_field c.args.statics.now all _ c.loop-field.first c.args.fields.now c.loop-field.field-index
    (c.loop-field.invariant all are among)
    c.field-item.result c.bad_offset.result c.loop-field-test.true c.field-item.is
    (c.bad_offset.ensures all are one))
