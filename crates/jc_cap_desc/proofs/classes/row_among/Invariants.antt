use Rattle.std.proofs.Common.{◌≡◌, length}
use Rattle.std.specs.List.{find}
use Rattle.jc_cap_desc.specs.Across.{is_row_of}
use Rattle.jc_cap_desc.proofs.classes.row_among.Given as goal

-- what is left says the same of all
abbrev pub invariant-loop-row : goal.invariant-loop-row
invariant-loop-row l = find (is_row_of l.offset) l.rows ≡ find (is_row_of l.offset) l.left

abbrev pub decreases-loop-row : goal.decreases-loop-row
decreases-loop-row l = length l.left
