use Rattle.std.proofs.Common.{◌≡◌, ℕ, ◌==◌, ◌≤◌, drop, length}
use Rattle.std.specs.List.{position_from}
use Rattle.jc_classes.specs.PrivatePlaces.{place_at, place_or}
use Rattle.jc_classes.proofs.places.put_methods.Given as goal

abbrev pub invariant-loop-left : goal.invariant-loop-left
invariant-loop-left l = record {
  within : l.left ≤ length l.methods;
  behind : (i : ℕ) → place_at l.places.items i ≡ place_or l.class (position_from (λ m. m.offset == i) l.left (drop l.left l.methods)) (place_at l.initial.places.items i);
}

abbrev pub decreases-loop-left : goal.decreases-loop-left
decreases-loop-left l = l.left
