-- The limits of a world's size.
use Rattle.std.specs.Prelude.{◌≡◌, ℕ, ◌≤◌, Some, List, length, slice_get}
use Rattle.jc_cap_desc.specs.Shape.{Shape}

-- 64 loaded packages, one more while it is bound to them, and the two of the API
abbrev pub most_packages : ℕ
most_packages = 67

-- classes and interfaces of one package: each has a row, and a byte counts the rows
abbrev pub most_classes_of_one : ℕ
most_classes_of_one = 255

-- a world within both limits
pub record IsSmall (world : List Shape) : Type 0 where
  pub packages : length world ≤ most_packages
  pub classes : (i : ℕ) (shape : Shape) → slice_get world i ≡ Some shape → length shape.classes ≤ most_classes_of_one
