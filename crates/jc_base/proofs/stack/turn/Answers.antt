use Rattle.std.proofs.Common.{arith, rules}
use Rattle.jc_base.proofs.StackLemmas.{turned_more, turned_none}
use Rattle.jc_base.proofs.stack.turn.Goals as goal

pub loop-init : goal.loop-init
loop-init g c = record { so_far = turned_none c.args.window.now; same = search rules }

pub loop-preserved : goal.loop-preserved
loop-preserved g c = grind (arith, turned_more)
