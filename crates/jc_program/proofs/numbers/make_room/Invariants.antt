use Rattle.std.proofs.Common.{◌≡◌, ℕ, ◌+◌, ◌-◌, length}
use Rattle.jc_program.specs.PrivateLaid.{place_at}
use Rattle.jc_program.proofs.numbers.make_room.Given as goal

abbrev pub invariant-loop-places : goal.invariant-loop-places
invariant-loop-places l = (i : ℕ) → place_at l.places.items i ≡ place_at l.initial.places.items i

abbrev pub decreases-loop-places : goal.decreases-loop-places
decreases-loop-places l = l.offset + 1 - length l.places.items
