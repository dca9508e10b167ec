-- The interfaces that classes list in their own records, by numbers (Java Card Virtual Machine Specification, CAP file
-- format: Class component; invokeinterface).
use Rattle.std.specs.Prelude.{◌≡◌, ℕ, zero, suc, ◌==◌, List, [], map, Option, None, slice_get}
use Rattle.std.specs.List.{filter_map, find}
use Rattle.std.specs.Option.{option_and_then, option_map, option_map_or, option_or}
use Rattle.jc_cap.specs.Interfaces.{Implemented}
use Rattle.jc_cap_desc.specs.Shape.{Shape}
use Rattle.jc_classes.specs.Record.{interface_rows}
use Rattle.jc_classes.specs.Walk.{most_classes}
use Rattle.jc_classes.specs.World.{class_at, class_named, superclass_of}
use Rattle.jc_names.specs.Names.{home_of}
use Rattle.jc_names.specs.declared.name.ClassName.{ClassName}
use Rattle.jc_program.specs.Classes.{class_number}

-- an interface's number, and the virtual tokens under which a class has its methods
pub record IndexRow : Type 0 where
  pub interface : ℕ
  pub indexes : List ℕ

-- the rows of a class's own record, and the number of its superclass
pub record ClassInterfaces : Type 0 where
  pub rows : List IndexRow
  pub superclass : Option ℕ

-- ---- what a class has

-- the row for an interface, if the interface has a number
abbrev pub index_row : List Shape → List ClassName → ℕ → Implemented → Option IndexRow
index_row world names home row = option_map (λ n. record { interface = n; indexes = row.indexes })
    (option_and_then (class_number names) (class_named world home row.interface))

-- the rows of a class's own record; none if there is no such class
abbrev pub own_rows : List Shape → ClassName → List Implemented
own_rows world c = option_map_or (λ k. interface_rows k.body) (class_at world c) []

abbrev pub class_interfaces : List Shape → List ClassName → ClassName → ClassInterfaces
class_interfaces world names c = record {
  rows = filter_map (index_row world names (home_of c)) (own_rows world c);
  superclass = option_and_then (class_number names) (superclass_of world c);
}

-- the rows of classes are right
abbrev pub AreInterfaceRows : List Shape → List ClassName → List ClassInterfaces → Type 0
AreInterfaceRows world names classes = classes ≡ map (class_interfaces world names) names

-- ---- the nearest class that lists an interface

-- the virtual tokens of an interface's methods, from the first row with the interface
abbrev pub indexes_in : List IndexRow → ℕ → Option (List ℕ)
indexes_in rows interface = option_map (λ r. r.indexes) (find (λ r. r.interface == interface) rows)

-- the same for a class or its nearest superclass with such a row, among at most `steps` classes
abbrev pub indexes_from : List ClassInterfaces → ℕ → ℕ → ℕ → Option (List ℕ)
indexes_from classes interface zero number = None
indexes_from classes interface (suc steps) number = option_and_then
    (λ c. option_or (indexes_in c.rows interface)
    (option_and_then (indexes_from classes interface steps) c.superclass))
    (slice_get classes number)

abbrev pub indexes_at : List ClassInterfaces → ℕ → ℕ → Option (List ℕ)
indexes_at classes interface number = indexes_from classes interface most_classes number
