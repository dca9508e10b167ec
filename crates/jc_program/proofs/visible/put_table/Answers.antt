use Rattle.std.proofs.Common.{arith}
use Rattle.jc_program.proofs.Sharing.{head_behind, none_kept, table_kept}
use Rattle.jc_program.proofs.Showing.{put_has}
use Rattle.jc_program.proofs.visible.put_table.Goals as goal

pub returns-in_err-called-clause-kept : goal.returns-in_err-called-clause-kept
returns-in_err-called-clause-kept c = none_kept c.args.tables.now

pub returns-in_err-number-clause-kept : goal.returns-in_err-number-clause-kept
returns-in_err-number-clause-kept c = grind (arith, none_kept)

pub put-requires : goal.put-requires
put-requires c = grind (arith, head_behind)

pub returns-clause-has : goal.returns-clause-has
returns-clause-has c = grind (arith, put_has)

pub returns-clause-kept : goal.returns-clause-kept
returns-clause-kept c =
    rw (c.in_ok-number.ensures.done) (table_kept c.args.tables.now _ _ c.behind-next.ensures.chained)
