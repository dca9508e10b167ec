use Rattle.std.proofs.Common.{sym}
use Rattle.jc_classes.proofs.Tabling.{some_above}
use Rattle.jc_classes.proofs.shapes.Shapes.table_above.Goals as goal

pub returns-in-Some-table_so_far-clause-right : goal.returns-in-Some-table_so_far-clause-right
returns-in-Some-table_so_far-clause-right c =
    some_above c.args.self.now c.args.class c.in-Some.above c.in-Some-table_so_far.table.now (sym c.in-Some.ensures) (c.requires.right c.in-Some.above _ (sym c.in-Some-table_so_far.ensures))
