use Rattle.std.proofs.Common.{arith}
use Rattle.jc_cap_desc.proofs.Installing.{class_more}
use Rattle.jc_cap_desc.proofs.Testing.{interface_in_front}
use Rattle.jc_cap_desc.proofs.applets.install_offsets.Goals as goal

pub loop-row-preserved-then-not-is_interface_row : goal.loop-row-preserved-then-not-is_interface_row
loop-row-preserved-then-not-is_interface_row c records types holds is n = grind (arith, class_more)

pub loop-row-preserved : goal.loop-row-preserved
loop-row-preserved c records types holds is n = grind (arith, interface_in_front)
