use Rattle.std.proofs.Common.{sym, ◌∙◌, arith}
use Rattle.jc_classes.proofs.Asking.{begins, comes_round, ends_here, goes_on, without_steps}
use Rattle.jc_classes.proofs.Walking.{most_is, one_less}
use Rattle.jc_classes.proofs.table.ClassTable.walked_methods.Goals as goal

pub loop-steps-init : goal.loop-steps-init
loop-steps-init c = grind (arith, begins)

pub returns-in-None : goal.returns-in-None
returns-in-None c =
    λ i less. ends_here _ _ _ _ _ _ _ i _ (c.loop-steps.invariant.1 i less) _ _
    (one_less c.loop-steps.steps c.loop-steps-test.true) (c.ask_class.ensures.each i less) c.ask_class.ensures.none
    (sym c.ask_class.ensures.above ∙ c.in-None.is)

pub returns-then-is : goal.returns-then-is
returns-then-is c =
    λ i less. comes_round _ _ _ _ _ _ _ i _ (c.loop-steps.invariant.1 i less) _ _
    (one_less c.loop-steps.steps c.loop-steps-test.true) (c.ask_class.ensures.each i less) c.ask_class.ensures.none
    c.in-Some.above (sym c.ask_class.ensures.above ∙ c.in-Some.is) (sym c.is.ensures ∙ c.if-is.true)

pub loop-steps-preserved : goal.loop-steps-preserved
loop-steps-preserved c = (
  c.ask_class.ensures.full,
  λ i less. goes_on _ _ _ _ _ _ _ i _ (c.loop-steps.invariant.1 i less) _ _
      (one_less c.loop-steps.steps c.loop-steps-test.true) (c.ask_class.ensures.each i less) c.ask_class.ensures.none
      c.in-Some.above c.anchor_behind-anchor.result (sym c.ask_class.ensures.above ∙ c.in-Some.is)
      c.anchor_behind-anchor.ensures,
)

pub returns : goal.returns
returns c =
    λ i less. without_steps _ _ _ _ _ _ _ i _ (c.loop-steps.invariant.1 i less)
    (omega (arith, c.loop-steps-test.false, most_is))
