use Rattle.std.proofs.Common.{◌≡◌, ℕ, ◌==◌, ◌≤◌, drop, length}
use Rattle.std.specs.List.{position_from}
use Rattle.jc_classes.specs.PrivatePlaces.{place_at}
use Rattle.jc_classes.proofs.places.class_places.Given as goal

abbrev pub invariant-loop-left : goal.invariant-loop-left
invariant-loop-left l = record {
  within : l.left ≤ length l.classes;
  behind : (i : ℕ) → place_at l.places.items i ≡ position_from (λ k. k.offset == i) l.left (drop l.left l.classes);
}

abbrev pub decreases-loop-left : goal.decreases-loop-left
decreases-loop-left l = l.left
