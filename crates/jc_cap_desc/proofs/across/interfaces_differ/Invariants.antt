use Rattle.std.proofs.Common.{◌≡◌, ◌||◌, List, length, map, not}
use Rattle.std.specs.List.{list_all}
use Rattle.jc_base.specs.declared.placed_rows.Placed.{Placed}
use Rattle.jc_cap.specs.declared.record.Record.{Record}
use Rattle.jc_cap_desc.specs.Across.{are_distinct, is_interface_row}
use Rattle.jc_cap_desc.specs.PrivateInterfaceRows.{HoldsInterfaces}
use Rattle.jc_cap_desc.proofs.across.interfaces_differ.Given as goal

-- what is left says the same of all
abbrev pub invariant-loop-row : goal.invariant-loop-row
invariant-loop-row l =
    (records : List (Placed Record)) → HoldsInterfaces l.interfaces records
    → list_all (λ row. not (is_interface_row records row) || are_distinct (map (λ m. m.token) row.methods)) l.rows
    ≡ list_all (λ row. not (is_interface_row records row) || are_distinct (map (λ m. m.token) row.methods)) l.left

abbrev pub decreases-loop-row : goal.decreases-loop-row
decreases-loop-row l = length l.left
