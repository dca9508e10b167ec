use Rattle.std.proofs.Common.{arith, slice_get}
use Rattle.std.proofs.lemmas.Option.{slice_get-get_or}
use Rattle.jc_program.proofs.Climbing.{above_more}
use Rattle.jc_program.proofs.supertypes.lists_above.Goals as goal

pub loop-at-preserved : goal.loop-at-preserved
loop-at-preserved c = grind (arith, above_more, slice_get, slice_get-get_or)
