use Rattle.std.proofs.Common.{◌≡◌, ◌≤◌, ◌-◌, length, take}
use Rattle.jc_types.proofs.ranges.same_in_front.Given as goal

abbrev pub invariant-loop-count : goal.invariant-loop-count
invariant-loop-count l = record { within : l.count ≤ length l.new; same : take l.count l.old ≡ take l.count l.new }

abbrev pub decreases-loop-count : goal.decreases-loop-count
decreases-loop-count l = length l.new - l.count
