use Rattle.std.proofs.Common.{◌-◌, sym, ap, subst, ◌∙◌}
use Rattle.std.specs.List.{list_any}
use Rattle.jc_link.specs.Inherited.{breaks_interface, breaks_row, rows_along}
use Rattle.jc_link.specs.PrivateRows.{IsOnRows}
use Rattle.jc_classes.specs.Walk.{most_classes}
use Rattle.jc_link.proofs.Rows.{from_start, broken_here, broken_nowhere, comes_round, goes_on}
use Rattle.jc_link.proofs.Superclasses.{one_less, all_left, none_left}
use Rattle.jc_link.proofs.inherited.breaks_row_along.Goals as goal

pub loop-steps-init : goal.loop-steps-init
loop-steps-init c =
    let world = c.args.class.now.world in
    let class = c.args.class.now.class in
    subst (λ at. IsOnRows (breaks_row world class) world at at (most_classes - 0) (breaks_interface world class))
    (sym c.name-at.ensures)
    (from_start (breaks_row world class) world _ class _
    (ap (λ n. list_any (breaks_row world class) (rows_along world n class)) all_left))

pub returns-then-breaks_row_of : goal.returns-then-breaks_row_of
returns-then-breaks_row_of c =
    broken_here (breaks_row c.args.class.now.world c.args.class.now.class) c.args.class.now.world c.loop-steps.anchor c.loop-steps.at
    _ _ _ (one_less c.loop-steps.steps c.loop-steps-test.true) c.loop-steps.invariant
    (sym c.breaks_row_of.ensures ∙ c.if-breaks_row_of.true)

pub returns-in-None : goal.returns-in-None
returns-in-None c =
    broken_nowhere (breaks_row c.args.class.now.world c.args.class.now.class) c.args.class.now.world c.loop-steps.anchor c.loop-steps.at
    _ _ _ (one_less c.loop-steps.steps c.loop-steps-test.true) c.loop-steps.invariant
    (sym c.breaks_row_of.ensures ∙ c.if-breaks_row_of.false) (rw c.table.ensures at (sym c.superclass_of.ensures ∙ c.in-None.is))

pub returns-then-is : goal.returns-then-is
returns-then-is c =
    comes_round (breaks_row c.args.class.now.world c.args.class.now.class) c.args.class.now.world c.loop-steps.anchor c.loop-steps.at
    _ _ _ (one_less c.loop-steps.steps c.loop-steps-test.true) c.loop-steps.invariant
    c.in-Some.above (sym c.breaks_row_of.ensures ∙ c.if-breaks_row_of.false)
    (rw c.table.ensures at (sym c.superclass_of.ensures ∙ c.in-Some.is)) (sym c.is.ensures ∙ c.if-is.true)

pub loop-steps-preserved : goal.loop-steps-preserved
loop-steps-preserved c =
    goes_on (breaks_row c.args.class.now.world c.args.class.now.class) c.args.class.now.world c.loop-steps.anchor c.loop-steps.at
    _ _ _ (one_less c.loop-steps.steps c.loop-steps-test.true) c.loop-steps.invariant
    c.in-Some.above (sym c.breaks_row_of.ensures ∙ c.if-breaks_row_of.false)
    (rw c.table.ensures at (sym c.superclass_of.ensures ∙ c.in-Some.is)) c.anchor_behind-anchor.result c.anchor_behind-anchor.ensures

pub returns : goal.returns
returns c =
    sym
    (ap (λ n. list_any (breaks_row c.args.class.now.world c.args.class.now.class) (rows_along c.args.class.now.world n c.loop-steps.at))
    (none_left c.loop-steps.steps c.loop-steps-test.false))
    ∙ c.loop-steps.invariant.so_far
