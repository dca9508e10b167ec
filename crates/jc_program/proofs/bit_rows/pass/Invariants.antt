use Rattle.std.proofs.Common.{◌≡◌, ◌++◌, length}
use Rattle.jc_program.specs.PrivateBitRows.{ArePassed, IsRightAbove}
use Rattle.jc_program.proofs.bit_rows.pass.Given as goal

abbrev pub invariant-loop-at : goal.invariant-loop-at
invariant-loop-at l = record {
  count : length l.rows ≡ length l.initial.rows;
  passed : ArePassed (IsRightAbove (length l.made) l.at l.above) (l.made ++ l.initial.rows) (l.made ++ l.rows)
      l.changed;
}
