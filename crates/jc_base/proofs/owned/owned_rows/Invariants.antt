use Rattle.std.proofs.Common.{◌≡◌, ◌++◌, length}
use Rattle.jc_base.proofs.owned.owned_rows.Given as goal

-- the rows that were taken and those that are left are all rows
abbrev pub invariant-loop-row : goal.invariant-loop-row
invariant-loop-row g l = l.owned.items ++ l.left ≡ l.rows

abbrev pub decreases-loop-row : goal.decreases-loop-row
decreases-loop-row g l = length l.left
