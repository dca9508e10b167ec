use Rattle.std.proofs.Common.{length}
use Rattle.jc_cap_desc.specs.PrivateInterfaceRows.{is_interface_record}
use Rattle.jc_cap_desc.specs.PrivateOffsets.{PassedSoFar}
use Rattle.jc_cap_desc.specs.PrivateRecordRows.{is_any_record}
use Rattle.jc_cap_desc.proofs.interfaces.record_offsets.Given as goal

abbrev pub invariant-loop-placed : goal.invariant-loop-placed
invariant-loop-placed l = record {
  all : PassedSoFar is_any_record l.records l.starts l.starts l.left;
  interfaces : PassedSoFar is_interface_record l.records l.starts l.interfaces l.left;
}

abbrev pub decreases-loop-placed : goal.decreases-loop-placed
decreases-loop-placed l = length l.left
