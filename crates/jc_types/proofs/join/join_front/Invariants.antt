use Rattle.std.proofs.Common.{◌≡◌, ◌++◌, length, take, drop}
use Rattle.jc_classes.specs.Subtype.{common_class}
use Rattle.jc_types.specs.State.{joined_all}
use Rattle.jc_types.proofs.join.join_front.Given as goal

abbrev pub invariant-loop-index : goal.invariant-loop-index
invariant-loop-index l = record {
  joined : take l.index l.types ++ joined_all (common_class l.table) (drop l.index l.types) (drop l.index l.others) ≡ joined_all (common_class l.table) l.fn.types l.others;
  same : length l.types ≡ length l.fn.types;
}
