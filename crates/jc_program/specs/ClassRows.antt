-- What a machine needs to know of a class, by its number (Java Card Virtual Machine Specification, new,
-- invokeinterface; Java Card Runtime Environment Specification, Shareable Interfaces).
use Rattle.std.specs.Prelude.{◌≡◌, ℕ, ◌+◌, false, List, Some, slice_get, unwrap_or}
use Rattle.jc_api.specs.declared.class.ApiClass.TheVariants.{Shareable}
use Rattle.jc_cap_desc.specs.Shape.{Shape}
use Rattle.jc_classes.specs.Subtype.{is_interface_at, is_subtype}
use Rattle.jc_classes.specs.Walk.{most_classes}
use Rattle.jc_link.specs.Named.{cells_above, size_of}
use Rattle.jc_names.specs.declared.name.ClassName.{ClassName}
use Rattle.jc_names.specs.declared.name.ClassName.TheVariants.{Api}
use Rattle.jc_program.specs.declared.class_rows.ClassRow.{ClassRow}

-- how many cells an object of a class takes: those that its superclasses and the class itself declare
abbrev pub cells_of : List Shape → ClassName → ℕ
cells_of world c = cells_above world most_classes c + size_of world c

-- the row of a class: its cells, whether it is an interface, and whether it is Shareable or below it
abbrev pub class_row_of : List Shape → ClassName → ClassRow
class_row_of world c = record {
  cells = cells_of world c;
  is_interface = is_interface_at world c;
  is_shareable = is_subtype world c (Api Shareable);
}

-- the row of a number that no class has
abbrev pub no_row : ClassRow
no_row = record { cells = 0; is_interface = false; is_shareable = false }

-- the row at a number
abbrev pub row_at : List ClassRow → ℕ → ClassRow
row_at rows number = unwrap_or (slice_get rows number) no_row

-- the rows of classes are right
abbrev pub AreClassRows : List Shape → List ClassName → List ClassRow → Type 0
AreClassRows world names rows =
    (number : ℕ) (c : ClassName) → slice_get names number ≡ Some c → row_at rows number ≡ class_row_of world c
