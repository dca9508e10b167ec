use Rattle.std.proofs.Common.{◌≡◌, ℕ, ◌<◌, length}
use Rattle.jc_classes.specs.PrivatePlaces.{place_at}
use Rattle.jc_classes.specs.PrivateTables.{row_entry}
use Rattle.jc_classes.proofs.shapes.Shapes.row_made.Given as goal

abbrev pub invariant-loop-token : goal.invariant-loop-token
invariant-loop-token l = record {
  count : length l.methods.items ≡ l.token;
  so_far : (i : ℕ) → i < l.token → place_at l.methods.items i ≡ row_entry l.self l.home l.table l.above i;
}
