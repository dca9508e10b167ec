use Rattle.std.proofs.Common.{arith}
use Rattle.jc_natives.proofs.Parts.{order_skips}
use Rattle.jc_natives.proofs.words.order_of_words.Goals as goal

pub loop-at-init : goal.loop-at-init
loop-at-init c = grind (arith, order_skips)
