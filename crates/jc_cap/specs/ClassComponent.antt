-- The Class component (Java Card Virtual Machine Specification, CAP file format: Class component) of formats 2.1 and
-- 2.2.
use Rattle.std.specs.Prelude.{ℕ, ◌+◌, Bool, true, false, List, [], ◌∷◌, Result, Ok, Err, if◌then◌else◌}
use Rattle.jc_base.specs.Cursor.{next_u2, next_bytes, field}
use Rattle.jc_base.specs.PlacedRows.{placed_rows}
use Rattle.jc_base.specs.Results.{◌>>=◌}
use Rattle.jc_base.specs.Tag.{class_tag}
use Rattle.jc_base.specs.declared.fault.LoadFault.{LoadFault}
use Rattle.jc_base.specs.declared.fault.LoadFault.TheVariants.{Malformed}
use Rattle.jc_base.specs.declared.placed_rows.Placed.{Placed}
use Rattle.jc_cap.specs.declared.header.Format.{Format}
use Rattle.jc_cap.specs.declared.header.Format.TheVariants.{TwoOne, TwoTwo}
use Rattle.jc_cap.specs.Record.{next_record}
use Rattle.jc_cap.specs.declared.record.RecordBody.{RecordBody}
use Rattle.jc_cap.specs.declared.record.RecordBody.TheVariants.{Interface, Class}
use Rattle.jc_cap.specs.declared.record.Record.{Record}

-- the offset of the first record: in format 2.2 after a pool of signatures, which begins with its length
unfoldable pub first_record : Format → List ℕ → Result ℕ LoadFault
first_record TwoOne info = Ok 0
first_record TwoTwo info = do
  size ← field class_tag (next_u2 info)
  pool ← field class_tag (next_bytes size.value size.rest)
  Ok (2 + size.value)

-- a class's record
abbrev pub is_class : RecordBody → Bool
is_class (Interface r) = false
is_class (Class r) = true

-- all are classes' records
abbrev pub all_classes : List (Placed Record) → Bool
all_classes [] = true
all_classes (p ∷ records) = if is_class p.row.body then all_classes records else false

-- interfaces' records, and after them classes'
abbrev pub interfaces_first : List (Placed Record) → Bool
interfaces_first [] = true
interfaces_first (p ∷ records) = if is_class p.row.body then all_classes records else interfaces_first records

-- none is remote
abbrev pub none_remote : List (Placed Record) → Bool
none_remote [] = true
none_remote (p ∷ records) = if p.row.is_remote then false else none_remote records

-- consecutive records up to the end, those of interfaces first
unfoldable pub layout_of : Format → List ℕ → Result (List (Placed Record)) LoadFault
layout_of format info = do
  first ← first_record format info
  records ← placed_rows next_record first info
  if interfaces_first records then Ok records else Err (Malformed class_tag)

-- the records, none of them remote
abbrev pub classes_of : Format → List ℕ → Result (List (Placed Record)) LoadFault
classes_of format info =
    layout_of format info >>= λ records. if none_remote records then Ok records else Err (Malformed class_tag)
