use Rattle.std.proofs.Common.{◌≡◌, length}
use Rattle.std.specs.List.{filter_map}
use Rattle.jc_cap_desc.specs.Shape.{field_shape}
use Rattle.jc_cap_desc.proofs.fields.Fields.next.Given as goal

-- the rows that are left give all fields
abbrev pub invariant-loop-row : goal.invariant-loop-row
invariant-loop-row l = l.fn.self ≡ filter_map (field_shape l.self-inside.types.now) l.self-inside.left

abbrev pub decreases-loop-row : goal.decreases-loop-row
decreases-loop-row l = length l.self-inside.left
