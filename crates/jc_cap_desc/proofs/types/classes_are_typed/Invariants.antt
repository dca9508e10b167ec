use Rattle.std.proofs.Common.{◌≡◌, length}
use Rattle.jc_cap_desc.specs.PrivateTypes.{IndexesTypes, PlacedTypes}
use Rattle.jc_cap_desc.specs.Types.{classes_are_typed}
use Rattle.jc_cap_desc.proofs.types.classes_are_typed.Given as goal

-- what is left says the same of all
abbrev pub invariant-loop-row : goal.invariant-loop-row
invariant-loop-row l = (types : PlacedTypes) → IndexesTypes l.index types → classes_are_typed types l.rows ≡ classes_are_typed types l.left

abbrev pub decreases-loop-row : goal.decreases-loop-row
decreases-loop-row l = length l.left
