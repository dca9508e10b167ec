use Rattle.std.proofs.Common.{sym, subst, ap, ◌∙◌}
use Rattle.std.specs.Option.{option_map}
use Rattle.jc_classes.proofs.Jumping.{leads_nowhere, leads_on}
use Rattle.jc_classes.specs.PrivateTables.{IsTabled, LeadsUp}
use Rattle.jc_classes.specs.declared.tables.Jump.{Jump}
use Rattle.jc_classes.proofs.shapes.Shapes.jump_from.Goals as goal

pub returns-in-Some : goal.returns-in-Some
returns-in-Some c =
    let to = ap (λ (j : Jump). j.to) c.jump.ensures in
    subst (LeadsUp c.args.self.now c.args.above c.args.table.now.depth) (sym c.jump-in-Some.ensures)
    (leads_on c.args.self.now c.args.above c.args.table.now c.in-Some.far.now c.requires.tabled
    (subst (λ at. IsTabled c.args.self.now at c.in-Some.far.now) to
    (c.requires.making.right c.jump.result.to _
    (sym c.table_so_far.ensures ∙ ap (option_map (λ t. t.now)) c.in-Some.is))))

pub returns-in-Some-2 : goal.returns-in-Some-2
returns-in-Some-2 c =
    subst (λ depth. LeadsUp c.args.self.now c.args.above depth (record { to = c.args.above; depth = c.depth.result }))
    c.depth.ensures (leads_nowhere c.args.self.now c.args.above c.depth.result)
