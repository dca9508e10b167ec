-- Private. Rows of interfaces in one array, and the virtual tokens of all rows in another.
use Rattle.std.specs.Prelude.{ℕ, ◌+◌, ◌≤◌, ◌≡◌, List, Some, map, slice_get}
use Rattle.jc_program.specs.InterfaceRows.{ClassInterfaces, IndexRow}
use Rattle.jc_program.specs.PrivateLaid.{part}
use Rattle.jc_program.specs.declared.interfaces.ListingClass.{ListingClass}
use Rattle.jc_program.specs.declared.tables.TableRow.{TableRow}

-- an interface's row, with its part of the tokens
abbrev pub index_row_in : List ℕ → TableRow → IndexRow
index_row_in tokens row = record { interface = row.key; indexes = part tokens row.start row.length }

abbrev pub index_rows_in : List ℕ → List TableRow → List IndexRow
index_rows_in tokens rows = map (index_row_in tokens) rows

-- a class, with its part of the rows
abbrev pub class_in : List IndexRow → ListingClass → ClassInterfaces
class_in rows c = record { rows = part rows c.start c.count; superclass = c.superclass }

abbrev pub classes_in : List IndexRow → List ListingClass → List ClassInterfaces
classes_in rows classes = map (class_in rows) classes

-- the rows of each class lie within the first `count` rows
abbrev pub LieWithinRows : ℕ → List ListingClass → Type 0
LieWithinRows count classes = (n : ℕ) (c : ListingClass) → slice_get classes n ≡ Some c → c.start + c.count ≤ count
