use Rattle.std.proofs.Common.{sym, subst}
use Rattle.jc_classes.proofs.Tabling.{tables_grow}
use Rattle.jc_classes.specs.PrivateTables.{AreBefore}
use Rattle.jc_classes.proofs.table.ClassTable.put_package.Goals as goal

pub put_tables-requires : goal.put_tables-requires
put_tables-requires c =
    subst (λ world. AreBefore world c.self.inside.tables.items) (sym c.in_ok-put.ensures.done)
    (tables_grow c.self.inside.shapes c.args.shape c.self.inside.tables.items c.self.invariant)
