use Rattle.std.proofs.Common.{arith}
use Rattle.jc_cap_desc.proofs.Testing.{class_in_front, interface_in_front, some_more}
use Rattle.jc_cap_desc.proofs.standing.methods_standing.Goals as goal

pub loop-row-preserved-then-not-is_interface_row : goal.loop-row-preserved-then-not-is_interface_row
loop-row-preserved-then-not-is_interface_row c = grind (arith, some_more, class_in_front)

pub loop-row-preserved : goal.loop-row-preserved
loop-row-preserved c = grind (arith, interface_in_front)
