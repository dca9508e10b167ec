use Rattle.std.proofs.Common.{sym, ◌∙◌}
use Rattle.jc_link.proofs.RowsAbove.{looked_at, own_are_all}
use Rattle.jc_link.proofs.above.keeps_rows_above.Goals as goal

pub returns-then-is_one_of : goal.returns-then-is_one_of
returns-then-is_one_of c e =
    let above = c.in-Some.above in
    let up = rw c.name.ensures at (rw c.table.ensures at (sym c.superclass_of.ensures ∙ c.in-Some.is)) in
    own_are_all c.args.class.now.world c.args.class.now.class above up
    (looked_at c.args.class.now.world c.args.class.now.home above c.args.before.now c.requires
    (rw c.home.ensures at (sym c.is_one_of.ensures ∙ c.if-is_one_of.true))) (c.find_same.ensures e above up)
