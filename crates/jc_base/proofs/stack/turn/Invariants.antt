use Rattle.std.proofs.Common.{◌≡◌, length}
use Rattle.jc_base.specs.PrivateStack.{turned}
use Rattle.jc_base.proofs.stack.turn.Given as goal

abbrev pub invariant-loop : goal.invariant-loop
invariant-loop g l = record {
  so_far : l.window ≡ turned l.counter l.fn.window;
  same : length l.window ≡ length l.fn.window;
}
