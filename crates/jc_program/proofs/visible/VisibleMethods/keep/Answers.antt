use Rattle.std.proofs.Common.{arith, take}
use Rattle.std.proofs.lemmas.List.{take-map}
use Rattle.jc_program.proofs.Parting.{take_get_at}
use Rattle.jc_program.proofs.Sharing.{lists_kept}
use Rattle.jc_program.proofs.visible.VisibleMethods.keep.Goals as goal

pub returns : goal.returns
returns c = grind (arith, take, take-map, take_get_at, lists_kept)
