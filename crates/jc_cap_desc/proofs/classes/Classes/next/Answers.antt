use Rattle.jc_cap_desc.proofs.Ahead.{first_ahead, more_ahead, more_rows, passed_over}
use Rattle.jc_cap_desc.specs.Shape.{class_shape}
use Rattle.jc_cap_desc.proofs.classes.Classes.next.Goals as goal

pub class_of-requires-clause-among : goal.class_of-requires-clause-among
class_of-requires-clause-among c =
    first_ahead _ _ _ c.next-ahead.result c.loop-placed.invariant.ahead c.next-ahead.ensures.some

pub invariant_of-self : goal.invariant_of-self
invariant_of-self c =
    let far = c.loop-placed.invariant in
    let taken = c.next-ahead in (
      far.typed,
      more_rows _ _ _ c.in-Some.placed c.in-Some.ensures.some far.rows,
      more_ahead _ _ _ taken.result far.ahead taken.ensures.some taken.ensures.none,
    )

pub loop-placed-preserved : goal.loop-placed-preserved
loop-placed-preserved c =
    let far = c.loop-placed.invariant in
    let taken = c.next-ahead in
    let inside = c.loop-placed.self-inside in
    record {
      all = passed_over (class_shape inside.info.now inside.bodies.now) _ _ _ c.in-Some.placed c.class_of.result far.all
          c.in-Some.ensures.some c.class_of.ensures c.in_default-class_of.is;
      typed = far.typed;
      rows = more_rows _ _ _ c.in-Some.placed c.in-Some.ensures.some far.rows;
      ahead = more_ahead _ _ _ taken.result far.ahead taken.ensures.some taken.ensures.none;
    }
