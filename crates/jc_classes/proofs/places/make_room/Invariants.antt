use Rattle.std.proofs.Common.{◌≡◌, ℕ, ◌+◌, ◌-◌, length}
use Rattle.jc_classes.specs.PrivatePlaces.{place_at}
use Rattle.jc_classes.proofs.places.make_room.Given as goal

abbrev pub invariant-loop-places : goal.invariant-loop-places
invariant-loop-places g l = (i : ℕ) → place_at l.places.items i ≡ place_at l.initial.places.items i

abbrev pub decreases-loop-places : goal.decreases-loop-places
decreases-loop-places g l = l.offset + 1 - length l.places.items
