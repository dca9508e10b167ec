use Rattle.std.proofs.Common.{suc, ap, sym, subst, ◌∙◌}
use Rattle.std.specs.Option.{option_map}
use Rattle.jc_classes.proofs.Jumping.{leads_from}
use Rattle.jc_classes.specs.PrivateTables.{LeadsUp, depth_above}
use Rattle.jc_classes.proofs.shapes.Shapes.jump_of.Goals as goal

pub returns-in-Some-above : goal.returns-in-Some-above
returns-in-Some-above c =
    subst (λ depth. LeadsUp c.args.self.now c.args.class depth c.jump_from.result)
    (sym (c.requires.depth ∙ ap (λ above. suc (depth_above (option_map (λ t. t.now) above))) c.in-Some-above.is))
    (leads_from c.args.self.now c.args.class c.in-Some.superclass c.in-Some-above.table.now.depth c.jump_from.result
    (sym c.in-Some.ensures) c.jump_from.ensures)
