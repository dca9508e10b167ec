use Rattle.std.proofs.Common.{sym}
use Rattle.jc_link.proofs.Finding.{here, behind}
use Rattle.jc_link.proofs.fields.static_field_in.Goals as goal

pub returns-in-Some : goal.returns-in-Some
returns-in-Some c =
    here _ _ c.classes-class-items.result.now c.loop-class.class-index c.class-item.result c.fields.result.now c.loop-class.invariant c.loop-class-test.true c.class-item.is c.fields.ensures _ (sym c.in-Some.ensures)

pub loop-class-preserved : goal.loop-class-preserved
loop-class-preserved c =
    behind _ _ c.classes-class-items.result.now c.loop-class.class-index c.class-item.result c.fields.result.now c.loop-class.invariant c.loop-class-test.true c.class-item.is c.fields.ensures
    (sym (rw c.in_default.is at c.static_field_among.ensures))
