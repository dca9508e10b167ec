-- Private. An index of type descriptors: the offsets at which they begin, as sets of numbers.
use Rattle.std.specs.Prelude.{◌≡◌, ℕ, ◌<◌, Bool, true, false, List}
use Rattle.std.specs.Option.{option_and_then, option_map_or, is_some}
use Rattle.jc_base.specs.NumberSet.{has_number}
use Rattle.jc_base.specs.PlacedRows.{row_at}
use Rattle.jc_base.specs.Signature.{Signature}
use Rattle.jc_base.specs.declared.class_ref.ClassRef.{ClassRef}
use Rattle.jc_base.specs.declared.placed_rows.Placed.{Placed}
use Rattle.jc_cap.specs.Descriptor.{field_type_of}
use Rattle.jc_cap_desc.specs.Across.{is_install_signature}
use Rattle.jc_cap_desc.specs.PrivateOffsets.{PassedSoFar}
use Rattle.jc_cap_desc.specs.declared.type_index.TypeIndex.{TypeIndex}

-- descriptors, each at its offset
abbrev pub PlacedTypes : Type 0
PlacedTypes = List (Placed (Signature ClassRef))

-- a set of the offsets at which descriptors begin
abbrev pub HasStarts : List ℕ → PlacedTypes → Type 0
HasStarts starts types = (n : ℕ) → n < 65536 → has_number starts n ≡ is_some (row_at n types)

-- sets of the offsets of all descriptors, of those of fields, and of those of install methods
pub record IndexesTypes (index : TypeIndex) (types : PlacedTypes) : Type 0 where
  pub starts : HasStarts index.starts types
  pub fields : (n : ℕ) → n < 65536
      → has_number index.fields n ≡ is_some (option_and_then field_type_of (row_at n types))
  pub installs : (n : ℕ) → n < 65536
      → has_number index.installs n ≡ option_map_or is_install_signature (row_at n types) false

abbrev pub is_any : Signature ClassRef → Bool
is_any s = true

abbrev pub is_fields : Signature ClassRef → Bool
is_fields s = is_some (field_type_of s)

-- the same, for the descriptors before those left
pub record IndexedSoFar (types : PlacedTypes) (index : TypeIndex) (left : PlacedTypes) : Type 0 where
  pub any : PassedSoFar is_any types index.starts index.starts left
  pub fields : PassedSoFar is_fields types index.starts index.fields left
  pub installs : PassedSoFar is_install_signature types index.starts index.installs left
