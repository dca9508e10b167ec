use Rattle.std.proofs.Common.{List, ℕ, length, map}
use Rattle.jc_cap_desc.specs.PrivateFreshNumbers.{Holds}
use Rattle.jc_cap_desc.proofs.FreshNumbers.{IsSoFar}
use Rattle.jc_cap_desc.proofs.across.offsets_are_fresh.Given as goal

abbrev pub invariant-loop-method : goal.invariant-loop-method
invariant-loop-method l =
    (before : List ℕ) → Holds l.fn.seen before → IsSoFar l.seen before (map (λ m. m.offset) l.methods) (map (λ m. m.offset) l.left)

abbrev pub decreases-loop-method : goal.decreases-loop-method
decreases-loop-method l = length l.left
