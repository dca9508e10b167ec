use Rattle.jc_check.specs.Typing.{Typing}
use Rattle.jc_verify.specs.PrivateFlow.{IsUnder, IsUpper, Risen, left_in}
use Rattle.jc_verify.specs.PrivateSettled.{IsSettled}
use Rattle.jc_verify.specs.PrivateTurns.{IsCounted}
use Rattle.jc_verify.specs.PrivateWork.{HaveRoom, IsAtWork}
use Rattle.jc_verify.proofs.settle.settle.Given as goal

abbrev pub invariant-loop-places : goal.invariant-loop-places
invariant-loop-places l = record {
  risen : Risen l.flow.linked.now l.flow.method.now l.flow.numbers.now l.fn.places l.places;
  under : (typing : Typing) → IsUpper l.flow.linked.now l.flow.method.now typing → IsUnder l.flow.linked.now l.flow.numbers.now l.fn.places typing → IsUnder l.flow.linked.now l.flow.numbers.now l.places typing;
  work : IsAtWork l.flow l.places;
  settled : IsSettled l.flow.linked.now l.flow.method.now l.flow.numbers.now l.places;
  counted : IsCounted l.flow.linked.now 0 l.fn.places l.places l.fn.followed l.followed;
  room : HaveRoom l.flow l.caught l.state;
}

abbrev pub decreases-loop-places : goal.decreases-loop-places
decreases-loop-places l = left_in l.flow.linked.now l.flow.method.now l.places
