use Rattle.std.proofs.Common.{◌≡◌, ◌≤◌, ◌-◌, length, drop}
use Rattle.jc_types.proofs.ranges.same_from.Given as goal

abbrev pub invariant-loop-behind : goal.invariant-loop-behind
invariant-loop-behind l = record {
  ordered : l.first ≤ l.behind;
  within : l.behind ≤ length l.new;
  same : drop l.behind l.old ≡ drop l.behind l.new;
}

abbrev pub decreases-loop-behind : goal.decreases-loop-behind
decreases-loop-behind l = l.behind - l.first
