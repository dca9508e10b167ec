use Rattle.std.proofs.Common.{◌≡◌, ℕ, ◌<◌, length}
use Rattle.jc_program.specs.BitRow.{has_bit}
use Rattle.jc_program.specs.Supertypes.{is_listed}
use Rattle.jc_program.proofs.supertypes.copies_of.Given as goal

abbrev pub invariant-loop : goal.invariant-loop
invariant-loop l = record {
  count : length l.rows.items ≡ l.counter;
  alike : (k m : ℕ) → k < l.counter → is_listed l.rows.items k m ≡ has_bit l.row m;
}
