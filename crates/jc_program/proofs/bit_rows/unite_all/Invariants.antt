use Rattle.std.proofs.Common.{◌++◌, take}
use Rattle.jc_program.specs.PrivateBitRow.{AreUnited}
use Rattle.jc_program.specs.PrivateBitRows.{is_any_listed}
use Rattle.jc_program.proofs.bit_rows.unite_all.Given as goal

abbrev pub invariant-loop-at : goal.invariant-loop-at
invariant-loop-at l = AreUnited (is_any_listed (l.made ++ l.rows) (take l.at l.numbers)) l.initial.row l.row l.changed
