use Rattle.std.proofs.Common.{◌≡◌, ◌+◌, length}
use Rattle.std.specs.List.{list_all}
use Rattle.jc_cap_desc.specs.Across.{stays_inside}
use Rattle.jc_cap_desc.proofs.standing.all_stay_inside.Given as goal

-- what is left says the same of all
abbrev pub invariant-loop-handler : goal.invariant-loop-handler
invariant-loop-handler l = list_all (stays_inside l.first (l.first + l.count)) l.handlers ≡ list_all (stays_inside l.first (l.first + l.count)) l.left

abbrev pub decreases-loop-handler : goal.decreases-loop-handler
decreases-loop-handler l = length l.left
