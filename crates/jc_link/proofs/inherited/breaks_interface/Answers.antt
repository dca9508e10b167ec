use Rattle.jc_link.proofs.Rows.{none_to_break}
use Rattle.jc_link.proofs.inherited.breaks_interface.Goals as goal

pub returns-then-not-may_list : goal.returns-then-not-may_list
returns-then-not-may_list c =
    none_to_break c.args.class.now.world c.args.class.now.class c.may_list.result
    (rw c.name.ensures at (rw c.table.ensures at c.may_list.ensures)) c.if-not-may_list.true
