-- Private. The install methods, by their offsets.
use Rattle.std.specs.Prelude.{◌≡◌, ℕ, ◌==◌, ◌&&◌, Bool, List}
use Rattle.std.specs.List.{list_any}
use Rattle.jc_base.specs.NumberSet.{has_number}
use Rattle.jc_cap_desc.specs.Across.{installs}
use Rattle.jc_cap_desc.specs.PrivateTypes.{PlacedTypes}
use Rattle.jc_cap_desc.specs.declared.class_row.MethodRow.{MethodRow}

-- whether one of these methods stands at an offset and is an install method
abbrev pub installs_at : PlacedTypes → List MethodRow → ℕ → Bool
installs_at types methods n = list_any (λ m. m.offset == n && installs types m) methods

-- a set of the offsets of the install methods
abbrev pub HoldsInstalls : List ℕ → PlacedTypes → List MethodRow → Type 0
HoldsInstalls words types methods = (n : ℕ) → has_number words n ≡ installs_at types methods n
