use Rattle.std.proofs.Common.{◌≤◌, ap, subst, sym, ◌∙◌, arith}
use Rattle.jc_classes.proofs.Jumping.{jumps_right, stands_right, steps_right}
use Rattle.jc_classes.specs.Subtype.{is_at_or_above}
use Rattle.jc_classes.specs.Walk.{most_classes}
use Rattle.jc_classes.specs.declared.tables.Jump.{Jump}
use Rattle.jc_classes.proofs.table.ClassTable.jumps_to.Goals.{then-jump-depth, else-jump-depth+in_ok-at}
use Rattle.jc_classes.proofs.table.ClassTable.jumps_to.Goals as goal

pub returns-then-depth : goal.returns-then-depth
returns-then-depth c =
    c.is.ensures
    ∙ stands_right c.args.self.now c.loop.at c.args.above c.in_ok-table.table.now c.in_ok-table_of.field-0.now
    c.in_ok-table.ensures.right c.in_ok-table_of.ensures.right
    (omega (arith, c.if-depth.true, c.depth.ensures, c.depth-depth.ensures))
    ∙ c.loop.invariant

pub loop-preserved : goal.loop-preserved
loop-preserved c =
    elim c.if-jump-depth.branch [
      | then-jump-depth w ↦
          let leads = c.in_ok-table.ensures.right.jump in
          ap (is_at_or_above c.args.self.now most_classes c.args.above)
          (w.at-is ∙ ap (λ (j : Jump). j.to) w.jump-then-jump-depth.ensures)
          ∙ jumps_right c.args.self.now c.loop.at c.args.above c.in_ok-table.table.now c.in_ok-table_of.field-0.now
          c.in_ok-table.ensures.right c.in_ok-table_of.ensures.right c.in_ok-table.table.now.jump leads
          (subst (λ (j : Jump). c.in_ok-table_of.field-0.now.depth ≤ j.depth) c.jump.ensures
          (omega (arith, w.if-jump-depth.true, c.depth-depth.ensures)))
          ∙ c.loop.invariant
      | else-jump-depth+in_ok-at w ↦
          ap (is_at_or_above c.args.self.now most_classes c.args.above) w.at-is
          ∙ steps_right c.args.self.now c.loop.at c.args.above c.in_ok-table.table.now c.in_ok-table_of.field-0.now
          c.in_ok-table.ensures.right c.in_ok-table_of.ensures.right _ (sym w.superclass_of.ensures ∙ w.in_ok-at.was)
          (omega (arith, c.if-depth.false, c.depth.ensures, c.depth-depth.ensures))
          ∙ c.loop.invariant
    ]
