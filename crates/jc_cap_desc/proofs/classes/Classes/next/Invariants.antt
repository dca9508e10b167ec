use Rattle.std.proofs.Common.{◌≡◌, true, length}
use Rattle.std.specs.List.{filter_map}
use Rattle.jc_cap_desc.specs.PrivateRecordRows.{AreAmong, each_has_row}
use Rattle.jc_cap_desc.specs.Shape.{class_shape}
use Rattle.jc_cap_desc.specs.Types.{classes_are_typed}
use Rattle.jc_cap_desc.proofs.classes.Classes.next.Given as goal

-- the records that are left give all classes, all rows have their types, each record that is left has one row, and the
-- rows that are ahead are rows
abbrev pub invariant-loop-placed : goal.invariant-loop-placed
invariant-loop-placed l = record {
  all : l.fn.self ≡ filter_map (class_shape l.self-inside.info.now l.self-inside.bodies.now) l.self-inside.left;
  typed : classes_are_typed l.self-inside.info.now.types l.self-inside.info.now.classes ≡ true;
  rows : each_has_row l.self-inside.left l.self-inside.info.now.classes ≡ true;
  ahead : AreAmong l.self-inside.ahead l.self-inside.info.now.classes;
}

abbrev pub decreases-loop-placed : goal.decreases-loop-placed
decreases-loop-placed l = length l.self-inside.left
