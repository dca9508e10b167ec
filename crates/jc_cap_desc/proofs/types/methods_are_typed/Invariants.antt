use Rattle.std.proofs.Common.{◌≡◌, length}
use Rattle.jc_cap_desc.specs.PrivateTypes.{IndexesTypes, PlacedTypes}
use Rattle.jc_cap_desc.specs.Types.{methods_are_typed}
use Rattle.jc_cap_desc.proofs.types.methods_are_typed.Given as goal

-- what is left says the same of all
abbrev pub invariant-loop-method : goal.invariant-loop-method
invariant-loop-method l = (types : PlacedTypes) → IndexesTypes l.index types → methods_are_typed types l.methods ≡ methods_are_typed types l.left

abbrev pub decreases-loop-method : goal.decreases-loop-method
decreases-loop-method l = length l.left
