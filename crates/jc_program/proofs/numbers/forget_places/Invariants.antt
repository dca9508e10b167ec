use Rattle.std.proofs.Common.{◌≡◌, length}
use Rattle.jc_program.specs.PrivateLaid.{AreForgotten, place_at}
use Rattle.jc_program.proofs.numbers.forget_places.Given as goal

abbrev pub invariant-loop-at : goal.invariant-loop-at
invariant-loop-at l = record {
  count : length l.places.items ≡ length l.fn.places.items;
  done : AreForgotten l.count l.at (λ i none. place_at l.fn.places.items i) (λ i none. place_at l.places.items i);
}
