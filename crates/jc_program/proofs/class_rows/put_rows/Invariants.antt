use Rattle.std.proofs.Common.{◌≡◌, length, take}
use Rattle.jc_program.specs.PrivateClassRows.{HaveRows}
use Rattle.jc_program.proofs.class_rows.put_rows.Given as goal

abbrev pub invariant-loop-at : goal.invariant-loop-at
invariant-loop-at l = record {
  rows : HaveRows l.table l.classes l.at l.rows.items;
  begins : take (length l.initial.rows.items) l.rows.items ≡ l.initial.rows.items;
}
