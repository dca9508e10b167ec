use Rattle.std.proofs.Common.{◌-◌, length}
use Rattle.jc_check.specs.Typing.{Typing}
use Rattle.jc_verify.specs.PrivateSeen.{HaveSeen}
use Rattle.jc_verify.specs.PrivateWork.{Bears, ClosedFrom, GoesOn, HasTaken, HaveRoom}
use Rattle.jc_verify.proofs.flow.follow.Given as goal

abbrev pub invariant-loop-instr : goal.invariant-loop-instr
invariant-loop-instr l = record {
  taken : HasTaken l.flow (λ typing. ClosedFrom l.flow l.pc l.state.types typing → ClosedFrom l.flow l.start l.fn.state.types typing) (Bears l.flow l.start l.fn.state.types) l.fn.places l.places;
  bears : (typing : Typing) → Bears l.flow l.start l.fn.state.types typing → Bears l.flow l.pc l.state.types typing;
  next : GoesOn l.flow l.pc l.state.types;
  room : HaveRoom l.flow l.caught l.state;
  seen : HaveSeen l.flow l.places l.seen;
}

abbrev pub decreases-loop-instr : goal.decreases-loop-instr
decreases-loop-instr l = length l.flow.method.now.code - l.pc
