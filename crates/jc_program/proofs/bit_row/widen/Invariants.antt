use Rattle.std.proofs.Common.{◌≡◌, ℕ, ◌≤◌, length}
use Rattle.jc_program.specs.BitRow.{has_bit}
use Rattle.jc_program.proofs.bit_row.widen.Given as goal

abbrev pub invariant-loop : goal.invariant-loop
invariant-loop l = record {
  same : (n : ℕ) → has_bit l.words.items n ≡ has_bit l.initial.words.items n;
  count : length l.words.items ≡ l.counter;
  few : length l.initial.words.items ≤ 1024 → l.counter ≤ 1024;
}
