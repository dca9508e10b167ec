use Rattle.std.proofs.Common.{◌≡◌, length}
use Rattle.std.specs.List.{filter_map}
use Rattle.jc_cap_desc.specs.Shape.{body_of_method}
use Rattle.jc_cap_desc.proofs.bodies.MethodBodies.next.Given as goal

-- the rows that are left give all methods with code
abbrev pub invariant-loop-row : goal.invariant-loop-row
invariant-loop-row l = l.fn.self ≡ filter_map (body_of_method l.self-inside.methods.now) l.self-inside.left

abbrev pub decreases-loop-row : goal.decreases-loop-row
decreases-loop-row l = length l.self-inside.left
