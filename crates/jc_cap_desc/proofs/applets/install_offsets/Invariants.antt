use Rattle.std.proofs.Common.{◌≡◌, ◌||◌, ℕ, List, length}
use Rattle.jc_base.specs.NumberSet.{has_number}
use Rattle.jc_base.specs.declared.placed_rows.Placed.{Placed}
use Rattle.jc_cap.specs.declared.record.Record.{Record}
use Rattle.jc_cap_desc.specs.Across.{class_methods}
use Rattle.jc_cap_desc.specs.PrivateApplets.{installs_at}
use Rattle.jc_cap_desc.specs.PrivateInterfaceRows.{HoldsInterfaces}
use Rattle.jc_cap_desc.specs.PrivateTypes.{IndexesTypes, PlacedTypes}
use Rattle.jc_cap_desc.proofs.applets.install_offsets.Given as goal

-- what is in the set, or installs in the rows that are left
abbrev pub invariant-loop-row : goal.invariant-loop-row
invariant-loop-row l =
    (records : List (Placed Record)) (types : PlacedTypes) → HoldsInterfaces l.interfaces records → IndexesTypes l.index types
    → (n : ℕ) → (has_number l.set n || installs_at types (class_methods records l.left) n) ≡ installs_at types (class_methods records l.rows) n

abbrev pub decreases-loop-row : goal.decreases-loop-row
decreases-loop-row l = length l.left
