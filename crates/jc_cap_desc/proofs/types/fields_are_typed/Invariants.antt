use Rattle.std.proofs.Common.{◌≡◌, length}
use Rattle.jc_cap_desc.specs.PrivateTypes.{IndexesTypes, PlacedTypes}
use Rattle.jc_cap_desc.specs.Types.{fields_are_typed}
use Rattle.jc_cap_desc.proofs.types.fields_are_typed.Given as goal

-- what is left says the same of all
abbrev pub invariant-loop-field : goal.invariant-loop-field
invariant-loop-field l = (types : PlacedTypes) → IndexesTypes l.index types → fields_are_typed types l.this l.fields ≡ fields_are_typed types l.this l.left

abbrev pub decreases-loop-field : goal.decreases-loop-field
decreases-loop-field l = length l.left
