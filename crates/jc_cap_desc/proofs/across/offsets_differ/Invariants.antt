use Rattle.std.proofs.Common.{List, [], length, map}
use Rattle.jc_base.specs.declared.placed_rows.Placed.{Placed}
use Rattle.jc_cap.specs.declared.record.Record.{Record}
use Rattle.jc_cap_desc.specs.Across.{class_methods}
use Rattle.jc_cap_desc.specs.PrivateInterfaceRows.{HoldsInterfaces}
use Rattle.jc_cap_desc.proofs.FreshNumbers.{IsSoFar}
use Rattle.jc_cap_desc.proofs.across.offsets_differ.Given as goal

abbrev pub invariant-loop-row : goal.invariant-loop-row
invariant-loop-row l =
    (records : List (Placed Record)) → HoldsInterfaces l.interfaces records
    → IsSoFar l.seen [] (map (λ m. m.offset) (class_methods records l.rows)) (map (λ m. m.offset) (class_methods records l.left))

abbrev pub decreases-loop-row : goal.decreases-loop-row
decreases-loop-row l = length l.left
