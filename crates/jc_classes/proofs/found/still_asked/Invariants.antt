use Rattle.std.proofs.Common.{◌≡◌, ◌-◌, ◌<◌, ◌≤◌, ℕ, false, slice_index_or}
use Rattle.jc_classes.proofs.found.still_asked.Given as goal

abbrev pub invariant-loop-less : goal.invariant-loop-less
invariant-loop-less l = (i : ℕ) → l.count - l.less ≤ i → i < l.count → slice_index_or l.asks i false ≡ false
