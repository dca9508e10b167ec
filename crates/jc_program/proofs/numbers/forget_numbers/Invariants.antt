use Rattle.std.proofs.Common.{◌≡◌, length}
use Rattle.jc_program.specs.PrivateLaid.{AreForgotten, number_in}
use Rattle.jc_program.proofs.numbers.forget_numbers.Given as goal

abbrev pub invariant-loop-at : goal.invariant-loop-at
invariant-loop-at l = record {
  count : length l.tables.items ≡ length l.fn.tables.items;
  done : AreForgotten l.count l.at (number_in l.fn.tables.items) (number_in l.tables.items);
}
