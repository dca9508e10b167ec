use Rattle.std.proofs.Common.{◌≡◌, ◌++◌, drop, length, take}
use Rattle.std.specs.List.{filter_map}
use Rattle.jc_program.specs.InterfaceRows.{index_row}
use Rattle.jc_program.proofs.interfaces.put_rows.Given as goal

abbrev pub invariant-loop-row : goal.invariant-loop-row
invariant-loop-row l = record {
  rows : l.rows ++ filter_map (index_row l.table l.classes l.home) (drop l.row-index l.listed)
      ≡ l.fn.rows ++ filter_map (index_row l.table l.classes l.home) l.listed;
  begins : take (length l.fn.rows) l.rows ≡ l.fn.rows;
}
