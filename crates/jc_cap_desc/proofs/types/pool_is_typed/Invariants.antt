use Rattle.std.proofs.Common.{◌≡◌, drop}
use Rattle.jc_cap_desc.specs.PrivateTypes.{IndexesTypes, PlacedTypes}
use Rattle.jc_cap_desc.specs.Types.{pool_is_typed}
use Rattle.jc_cap_desc.proofs.types.pool_is_typed.Given as goal

-- what is left says the same of all
abbrev pub invariant-loop-at : goal.invariant-loop-at
invariant-loop-at l = (types : PlacedTypes) → IndexesTypes l.index types → pool_is_typed types l.offsets ≡ pool_is_typed types (drop l.at l.offsets)
