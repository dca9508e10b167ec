use Rattle.std.proofs.Common.{◌≡◌, ◌≤◌, ◌*◌, ◌^◌, take}
use Rattle.std.specs.List.{sum_by}
use Rattle.jc_classes.specs.Subtype.{classes_above}
use Rattle.jc_classes.specs.Walk.{most_classes}
use Rattle.jc_types.specs.Ty.{height_of}
use Rattle.jc_types.proofs.height.height_of_all.Given as goal

abbrev pub invariant-loop-index : goal.invariant-loop-index
invariant-loop-index l = record {
  sum : l.total ≡ sum_by (height_of (classes_above l.table) most_classes) (take l.index l.types);
  small : l.total ≤ l.index * 2 ^ 32;
}
