-- Private. The offsets at which interfaces' records begin, as a set of numbers.
use Rattle.std.specs.Prelude.{◌≡◌, ℕ, ◌<◌, Bool, false, not, List}
use Rattle.std.specs.Option.{option_map_or}
use Rattle.jc_base.specs.NumberSet.{has_number}
use Rattle.jc_base.specs.PlacedRows.{row_at}
use Rattle.jc_base.specs.declared.placed_rows.Placed.{Placed}
use Rattle.jc_cap.specs.ClassComponent.{is_class}
use Rattle.jc_cap.specs.declared.record.Record.{Record}

abbrev pub is_interface_record : Record → Bool
is_interface_record r = not (is_class r.body)

-- whether an interface's record begins at an offset
abbrev pub begins_interface : List (Placed Record) → ℕ → Bool
begins_interface records n = option_map_or is_interface_record (row_at n records) false

-- a set of the offsets at which interfaces' records begin
abbrev pub HoldsInterfaces : List ℕ → List (Placed Record) → Type 0
HoldsInterfaces words records = (n : ℕ) → n < 65536 → has_number words n ≡ begins_interface records n
