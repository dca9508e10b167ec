-- Private. Rows of classes during their construction.
use Rattle.std.specs.Prelude.{◌≡◌, ℕ, ◌<◌, List, Some, length, slice_get}
use Rattle.jc_cap_desc.specs.Shape.{Shape}
use Rattle.jc_names.specs.declared.name.ClassName.{ClassName}
use Rattle.jc_program.specs.ClassRows.{class_row_of, row_at}
use Rattle.jc_program.specs.declared.class_rows.ClassRow.{ClassRow}

-- each of the first `made` classes has its row
pub record HaveRows (world : List Shape) (names : List ClassName) (made : ℕ) (rows : List ClassRow) : Type 0 where
  pub count : length rows ≡ made
  pub there : (number : ℕ) (c : ClassName) → number < made → slice_get names number ≡ Some c
      → row_at rows number ≡ class_row_of world c
