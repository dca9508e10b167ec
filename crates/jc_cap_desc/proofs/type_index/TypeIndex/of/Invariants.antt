use Rattle.std.proofs.Common.{length}
use Rattle.jc_cap_desc.specs.PrivateTypes.{IndexedSoFar}
use Rattle.jc_cap_desc.proofs.type_index.TypeIndex.of.Given as goal

abbrev pub invariant-loop-placed : goal.invariant-loop-placed
invariant-loop-placed l = IndexedSoFar l.types l.index l.left

abbrev pub decreases-loop-placed : goal.decreases-loop-placed
decreases-loop-placed l = length l.left
