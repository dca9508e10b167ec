use Rattle.std.proofs.Common.{◌≡◌, ◌++◌, length}
use Rattle.jc_program.specs.PrivateBitRows.{AreRisen, IsRightAbove, unset_in}
use Rattle.jc_program.proofs.bit_rows.settle.Given as goal

abbrev pub invariant-loop : goal.invariant-loop
invariant-loop l = record {
  count : length l.rows ≡ length l.initial.rows;
  risen : AreRisen (IsRightAbove (length l.made) (length l.above) l.above) (l.made ++ l.initial.rows)
      (l.made ++ l.rows);
}

abbrev pub decreases-loop : goal.decreases-loop
decreases-loop l = unset_in (l.made ++ l.rows)
