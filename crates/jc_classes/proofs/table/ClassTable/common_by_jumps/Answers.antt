use Rattle.std.proofs.Common.{◌≡◌, false, ap, subst, sym, ◌∙◌, arith}
use Rattle.jc_classes.proofs.Meeting.{meets, meets_nowhere}
use Rattle.jc_classes.proofs.Nearest.{jumps_apart, none_there, steps_apart}
use Rattle.jc_classes.proofs.Walking.{most_is}
use Rattle.jc_classes.specs.Subtype.{common_class, is_class_below}
use Rattle.jc_classes.specs.Walk.{most_classes}
use Rattle.jc_classes.specs.declared.tables.Jump.{Jump}
use Rattle.jc_classes.proofs.table.ClassTable.common_by_jumps.Goals.{then-is_class_below-2, else-is_class_below-2}
use Rattle.jc_classes.proofs.table.ClassTable.common_by_jumps.Goals as goal

pub returns-then-is_class_below : goal.returns-then-is_class_below
returns-then-is_class_below c =
    meets c.args.self.now c.loop.at c.args.other most_classes 17_084 _ (omega (arith, most_is)) c.loop.invariant
    (sym c.is_class_below.ensures ∙ c.if-is_class_below.true)

pub returns-in_default : goal.returns-in_default
returns-in_default c =
    meets_nowhere c.args.self.now c.loop.at c.args.other most_classes 17_084 _ (omega (arith, most_is)) c.loop.invariant
    (sym c.is_class_below.ensures ∙ c.if-is_class_below.false)
    (sym c.superclass_of-in-loop.ensures ∙ c.in_default.is)

pub loop-preserved : goal.loop-preserved
loop-preserved c =
    let of = c.in_ok-table_of-2.ensures.right in
    elim c.if-is_class_below-2.branch [
      | then-is_class_below-2 w ↦
          ap (λ at. common_class c.args.self.now at c.args.other) w.at-is
          ∙ steps_apart c.args.self.now c.loop.at c.args.other c.in-Some.superclass _ of
          (sym c.superclass_of-in-loop.ensures ∙ c.in-Some.is)
          (sym c.is_class_below.ensures ∙ c.if-is_class_below.false)
          ∙ c.loop.invariant
      | else-is_class_below-2 w ↦
          let apart = subst (λ (j : Jump). is_class_below c.args.self.now c.args.other j.to ≡ false) c.jump-jump.ensures
          (sym c.is_class_below-in-loop.ensures ∙ w.if-is_class_below-2.false) in
          ap (λ at. common_class c.args.self.now at c.args.other) (w.at-is ∙ ap (λ (j : Jump). j.to) c.jump-jump.ensures)
          ∙ jumps_apart c.args.self.now c.args.other _ c.in_ok-table_of.ensures.right
          (sym c.superclass_of.ensures ∙ none_there _ (sym c.is_some.ensures ∙ c.if-is_some.false)) c.loop.at _ of apart
          ∙ c.loop.invariant
    ]
