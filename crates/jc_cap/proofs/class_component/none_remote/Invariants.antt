use Rattle.std.proofs.Common.{◌≡◌, length}
use Rattle.jc_cap.specs.ClassComponent.{none_remote}
use Rattle.jc_cap.proofs.class_component.none_remote.Given as goal

-- what is left says the same of all
abbrev pub invariant-loop-placed : goal.invariant-loop-placed
invariant-loop-placed l = none_remote l.records ≡ none_remote l.left

abbrev pub decreases-loop-placed : goal.decreases-loop-placed
decreases-loop-placed l = length l.left
