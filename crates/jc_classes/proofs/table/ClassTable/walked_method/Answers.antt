use Rattle.std.proofs.Common.{sym, ◌∙◌, arith}
use Rattle.jc_classes.specs.Methods.{virtual_visit}
use Rattle.jc_classes.proofs.Rounds.{from_start, walk_round, walk_on}
use Rattle.jc_classes.proofs.Walking.{gives, ends, most_is, one_less, all_steps, no_steps}
use Rattle.jc_classes.proofs.table.ClassTable.walked_method.Goals as goal

pub loop-steps-init : goal.loop-steps-init
loop-steps-init c = from_start (virtual_visit c.args.self.now c.args.asker c.args.token) c.args.self.now _ c.args.class _ (all_steps (virtual_visit c.args.self.now c.args.asker c.args.token) c.args.self.now c.args.class)

pub returns-in-Gives : goal.returns-in-Gives
returns-in-Gives c = grind (arith, gives, one_less)

pub returns-in-Ends : goal.returns-in-Ends
returns-in-Ends c = grind (arith, ends, one_less)

pub returns-then-is : goal.returns-then-is
returns-then-is c =
    walk_round (virtual_visit c.args.self.now c.args.asker c.args.token) c.args.self.now c.loop-steps.anchor c.loop-steps.at c.in-On.above _ _ _ (one_less c.loop-steps.steps c.loop-steps-test.true) c.loop-steps.invariant
    (sym c.method_step.ensures ∙ c.in-On.is) (sym c.is.ensures ∙ c.if-is.true)

pub loop-steps-preserved : goal.loop-steps-preserved
loop-steps-preserved c =
    walk_on (virtual_visit c.args.self.now c.args.asker c.args.token) c.args.self.now c.loop-steps.anchor c.loop-steps.at c.in-On.above _ _ _ (one_less c.loop-steps.steps c.loop-steps-test.true) c.loop-steps.invariant
    (sym c.method_step.ensures ∙ c.in-On.is) c.anchor_behind-anchor.result c.anchor_behind-anchor.ensures

pub returns : goal.returns
returns c = no_steps (virtual_visit c.args.self.now c.args.asker c.args.token) c.args.self.now _ _ c.loop-steps.at (omega (arith, c.loop-steps-test.false, most_is)) c.loop-steps.invariant.so_far
