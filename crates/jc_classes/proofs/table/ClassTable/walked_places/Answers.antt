use Rattle.std.proofs.Common.{sym, ◌∙◌, arith}
use Rattle.jc_classes.proofs.Askers.{comes_round, ends_here, goes_on, not_home, without_steps}
use Rattle.jc_classes.proofs.Walking.{most_is, one_less}
use Rattle.jc_classes.proofs.table.ClassTable.walked_places.Goals as goal

pub returns-in-None : goal.returns-in-None
returns-in-None c =
    λ token asker else visible less. ends_here _ _ asker token _ _ _
    (c.loop-steps.invariant token asker (c.and-places.ensures.more asker else) visible) _
    (one_less c.loop-steps.steps c.loop-steps-test.true) visible
    (not_home _ _ asker (rw (← c.home-in-loop-steps.ensures) c.and-places.ensures.has) else)
    (sym c.superclass_of.ensures ∙ c.in-None.is)

pub returns-then-is : goal.returns-then-is
returns-then-is c =
    λ token asker else visible less. comes_round _ _ asker token _ _ _
    (c.loop-steps.invariant token asker (c.and-places.ensures.more asker else) visible) _
    (one_less c.loop-steps.steps c.loop-steps-test.true) visible
    (not_home _ _ asker (rw (← c.home-in-loop-steps.ensures) c.and-places.ensures.has) else) _
    (sym c.superclass_of.ensures ∙ c.in-Some.is) (sym c.is.ensures ∙ c.if-is.true)

pub loop-steps-preserved : goal.loop-steps-preserved
loop-steps-preserved c =
    λ token asker else visible. goes_on _ _ asker token _ _ _
    (c.loop-steps.invariant token asker (c.and-places.ensures.more asker else) visible) _
    (one_less c.loop-steps.steps c.loop-steps-test.true) visible
    (not_home _ _ asker (rw (← c.home-in-loop-steps.ensures) c.and-places.ensures.has) else) _
    (sym c.superclass_of.ensures ∙ c.in-Some.is) c.anchor_behind-anchor.result c.anchor_behind-anchor.ensures

pub returns : goal.returns
returns c =
    λ token asker else visible less. without_steps _ _ asker token _ _ _
    (c.loop-steps.invariant token asker else visible) (omega (arith, c.loop-steps-test.false, most_is))
