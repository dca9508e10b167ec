use Rattle.std.proofs.Common.{◌≡◌, ◌&&◌, List, length}
use Rattle.std.specs.List.{list_all}
use Rattle.jc_base.specs.declared.placed_rows.Placed.{Placed}
use Rattle.jc_cap.specs.declared.record.Record.{Record}
use Rattle.jc_cap_desc.specs.Across.{class_methods, is_described, stands_inside}
use Rattle.jc_cap_desc.specs.PrivateInterfaceRows.{HoldsInterfaces}
use Rattle.jc_cap_desc.proofs.standing.methods_standing.Given as goal

-- what is left says the same of all
abbrev pub invariant-loop-row : goal.invariant-loop-row
invariant-loop-row l = record {
  inside : (records : List (Placed Record)) → HoldsInterfaces l.interfaces records
      → (l.standing.inside && list_all (stands_inside l.methods) (class_methods records l.left))
      ≡ list_all (stands_inside l.methods) (class_methods records l.rows);
  described : (records : List (Placed Record)) → HoldsInterfaces l.interfaces records
      → (l.standing.described && list_all (is_described l.methods) (class_methods records l.left))
      ≡ list_all (is_described l.methods) (class_methods records l.rows);
}

abbrev pub decreases-loop-row : goal.decreases-loop-row
decreases-loop-row l = length l.left
