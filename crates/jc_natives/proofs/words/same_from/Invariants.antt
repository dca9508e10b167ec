use Rattle.std.proofs.Common.{◌≡◌, ◌-◌, ◌≤◌, length, take}
use Rattle.jc_natives.proofs.words.same_from.Given as goal

abbrev pub invariant-loop-start : goal.invariant-loop-start
invariant-loop-start l = record {
  within : l.start ≤ length l.one;
  same : take l.start l.one ≡ take l.start l.other;
}

abbrev pub decreases-loop-start : goal.decreases-loop-start
decreases-loop-start l = length l.one - l.start
