use Rattle.std.proofs.Common.{arith}
use Rattle.jc_natives.proofs.Parts.{same_skips}
use Rattle.jc_natives.proofs.words.are_same_words.Goals as goal

pub loop-at-init : goal.loop-at-init
loop-at-init c = grind (arith, same_skips)
