use Rattle.std.proofs.Common.{length}
use Rattle.jc_cap_desc.specs.PrivateOffsets.{PassedSoFar}
use Rattle.jc_cap_desc.specs.PrivateTypes.{is_any}
use Rattle.jc_cap_desc.proofs.type_descriptors.starts_of.Given as goal

abbrev pub invariant-loop-placed : goal.invariant-loop-placed
invariant-loop-placed l = PassedSoFar is_any l.types l.starts l.starts l.left

abbrev pub decreases-loop-placed : goal.decreases-loop-placed
decreases-loop-placed l = length l.left
