use Rattle.std.proofs.Common.{◌≤◌, length}
use Rattle.jc_verify.specs.PrivateSettled.{IsSwept}
use Rattle.jc_verify.specs.PrivateTurns.{IsCounted}
use Rattle.jc_verify.specs.PrivateWork.{HaveRoom}
use Rattle.jc_verify.proofs.settle.sweep_backwards.Given as goal

abbrev pub invariant-loop-number : goal.invariant-loop-number
invariant-loop-number l = record {
  swept : IsSwept l.flow.linked.now l.flow.method.now l.flow.numbers.now l.number (length l.fn.places) l.fn.places l.places;
  within : l.number ≤ length l.places;
  counted : IsCounted l.flow.linked.now 0 l.fn.places l.places l.fn.followed l.followed;
  room : HaveRoom l.flow l.caught l.state;
}

abbrev pub decreases-loop-number : goal.decreases-loop-number
decreases-loop-number l = l.number
