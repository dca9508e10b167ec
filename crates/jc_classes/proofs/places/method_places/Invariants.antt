use Rattle.std.proofs.Common.{◌≡◌, ℕ, ◌≤◌, drop, length}
use Rattle.std.specs.Option.{option_and_then}
use Rattle.jc_classes.specs.PrivatePlaces.{place_at, first_method, led_to}
use Rattle.jc_classes.proofs.places.method_places.Given as goal

abbrev pub invariant-loop-left : goal.invariant-loop-left
invariant-loop-left l = record {
  within : l.left ≤ length l.classes;
  behind : (i : ℕ) → option_and_then (led_to l.classes) (place_at l.places.items i) ≡ first_method i (drop l.left l.classes);
}

abbrev pub decreases-loop-left : goal.decreases-loop-left
decreases-loop-left l = l.left
