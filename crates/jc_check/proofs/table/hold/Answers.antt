use Rattle.std.proofs.Common.{arith}
use Rattle.jc_check.proofs.Standing.{held_new, held_again}
use Rattle.jc_check.proofs.table.hold.Goals as goal

pub returns-in-Start-clause-table : goal.returns-in-Start-clause-table
returns-in-Start-clause-table c rules m listing claims claim table number pc begin fits = held_new rules m listing claims claim c.args.marks.now c.args.pc c.args.number table number pc fits c.requires.within c.in-Start.is

pub returns-in-Inside : goal.returns-in-Inside
returns-in-Inside c = search (arith, held_again)
