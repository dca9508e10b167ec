use Rattle.std.proofs.Common.{length}
use Rattle.jc_cap_desc.specs.PrivateRecordRows.{AreNamed}
use Rattle.jc_cap_desc.proofs.across.offsets_named.Given as goal

abbrev pub invariant-loop-row : goal.invariant-loop-row
invariant-loop-row l = AreNamed l.starts l.named l.rows l.left

abbrev pub decreases-loop-row : goal.decreases-loop-row
decreases-loop-row l = length l.left
