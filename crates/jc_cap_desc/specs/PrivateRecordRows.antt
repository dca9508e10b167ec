-- Private. The offsets of records, and those of the records that rows name, as sets of numbers.
use Rattle.std.specs.Prelude.{◌≡◌, ℕ, ◌<◌, ◌+◌, ◌==◌, ◌&&◌, Bool, true, List, Option, Some, None, nat_lt}
use Rattle.std.specs.Prelude.{is_some, slice_get, if◌then◌else◌}
use Rattle.std.specs.List.{list_all}
use Rattle.jc_base.specs.NumberSet.{has_number}
use Rattle.jc_base.specs.PlacedRows.{row_at}
use Rattle.jc_base.specs.declared.class_ref.ClassRef.{ClassRef}
use Rattle.jc_base.specs.declared.class_ref.ClassRef.TheVariants.{Internal, External}
use Rattle.jc_base.specs.declared.placed_rows.Placed.{Placed}
use Rattle.jc_cap.specs.declared.record.Record.{Record}
use Rattle.jc_cap_desc.specs.Across.{count_rows, record_of}
use Rattle.jc_cap_desc.specs.declared.class_row.ClassRow.{ClassRow}

-- a set of the offsets at which records begin
abbrev pub HoldsRecords : List ℕ → List (Placed Record) → Type 0
HoldsRecords words records = (n : ℕ) → n < 65536 → has_number words n ≡ is_some (row_at n records)

abbrev pub is_any_record : Record → Bool
is_any_record r = true

-- the offset of the record that a row names
abbrev pub offset_named : ClassRow → Option ℕ
offset_named row = named row.this
  where
    named : ClassRef → Option ℕ
    named (Internal offset) = Some offset
    named (External import class) = None

-- whether a number is in a set; a number above 65,535 isn't
abbrev pub is_in : List ℕ → ℕ → Bool
is_in words n = nat_lt n 65536 && has_number words n

-- each record has exactly one row
abbrev pub each_has_row : List (Placed Record) → List ClassRow → Bool
each_has_row records rows = list_all (λ p. count_rows p.offset rows == 1) records

-- a row is one of some rows, and each of some rows is one of others
abbrev pub IsAmong : ClassRow → List ClassRow → Type 0
IsAmong row rows = (n : ℕ) × (slice_get rows n ≡ Some row)

abbrev pub AreAmong : List ClassRow → List ClassRow → Type 0
AreAmong some rows = (n : ℕ) (row : ClassRow) → slice_get some n ≡ Some row → IsAmong row rows

-- each row names a record
abbrev pub all_recorded : List (Placed Record) → List ClassRow → Bool
all_recorded records rows = list_all (λ row. is_some (record_of records row)) rows

-- for each offset, the set and the rows that are left count as many rows as all rows have there; and all rows name
-- records if and only if those left do
pub record AreNamed (starts named : List ℕ) (rows left : List ClassRow) : Type 0 where
  pub counted : (n : ℕ) → (if is_in named n then 1 else 0) + count_rows n left ≡ count_rows n rows
  pub recorded : (records : List (Placed Record)) → HoldsRecords starts records
      → all_recorded records rows ≡ all_recorded records left
