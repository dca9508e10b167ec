use Rattle.std.proofs.Common.{◌≡◌, ℕ, ◌<◌, false, Some, slice_get}
use Rattle.jc_types.specs.State.{StateWithRoom}
use Rattle.jc_verify.specs.declared.place.Place.{Place}
use Rattle.jc_verify.proofs.settle.has_changed.Given as goal

abbrev pub invariant-loop-number : goal.invariant-loop-number
invariant-loop-number l = (n : ℕ) (p : Place StateWithRoom) → n < l.number → slice_get l.places n ≡ Some p → p.changed ≡ false
