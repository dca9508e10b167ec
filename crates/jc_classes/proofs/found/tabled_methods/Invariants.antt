use Rattle.std.proofs.Common.{◌≡◌, ◌+◌, ◌<◌, ℕ, length}
use Rattle.jc_classes.specs.Methods.{found_at}
use Rattle.jc_classes.specs.PrivateTables.{entry_in}
use Rattle.jc_classes.proofs.found.tabled_methods.Given as goal

abbrev pub invariant-loop-place : goal.invariant-loop-place
invariant-loop-place l =
    (length l.methods ≡ 128)
    × ((i : ℕ) → i < l.place → found_at l.methods i ≡ entry_in l.table (l.first + i) l.asker)
