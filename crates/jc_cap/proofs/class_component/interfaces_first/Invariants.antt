use Rattle.std.proofs.Common.{◌≡◌, length, if◌then◌else◌}
use Rattle.jc_cap.specs.ClassComponent.{all_classes, interfaces_first}
use Rattle.jc_cap.proofs.class_component.interfaces_first.Given as goal

-- what is left says the same of all: behind a class that only classes are left
abbrev pub invariant-loop-placed : goal.invariant-loop-placed
invariant-loop-placed l = interfaces_first l.records ≡ (if l.seen then all_classes l.left else interfaces_first l.left)

abbrev pub decreases-loop-placed : goal.decreases-loop-placed
decreases-loop-placed l = length l.left
