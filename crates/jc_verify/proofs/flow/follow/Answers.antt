use Rattle.jc_verify.proofs.Denying.{denial_of, denies_on}
use Rattle.jc_verify.proofs.Reaching.{decoded_there, flows_within}
use Rattle.jc_verify.proofs.Seeing.{nothing_seen}
use Rattle.jc_verify.proofs.Taking.{follow_end, follow_on, taken_none}
use Rattle.jc_verify.proofs.flow.follow.Goals as goal

pub loop-instr-init : goal.loop-instr-init
loop-instr-init c = record {
  taken = taken_none c.requires.work (λ typing h. h);
  bears = λ typing bears. bears;
  next = record { flows = c.requires.flows; within = flows_within c.requires.work.sound c.args.start c.args.state.now.types c.requires.flows };
  room = c.requires.room;
  seen = nothing_seen c.args.flow.now c.nothing-seen.result c.nothing-seen.ensures;
}

pub visit-requires-clause-stands : goal.visit-requires-clause-stands
visit-requires-clause-stands c = record {
  sound = c.requires.work.sound;
  flows = c.loop-instr.invariant.next.flows;
  decoded = rw c.from.ensures at c.in-Some.ensures.some;
}

pub loop-instr-preserved : goal.loop-instr-preserved
loop-instr-preserved c =
    let visited = c.in-Ok-true.ensures.visited in
    let on = c.in-Ok-true.field-0-test in
    record {
      taken = follow_on c.loop-instr.invariant.taken c.loop-instr.invariant.bears visited on;
      bears = λ typing bears. visited.bears on typing (c.loop-instr.invariant.bears typing bears);
      next = visited.next on;
      room = c.in-Ok-true.ensures.room;
      seen = c.in-Ok-true.ensures.seen;
    }

pub returns-in-Ok-false-clause-taken : goal.returns-in-Ok-false-clause-taken
returns-in-Ok-false-clause-taken c = follow_end c.loop-instr.invariant.taken c.loop-instr.invariant.bears c.in-Ok-false.ensures.visited c.in-Ok-false.field-0-test

pub returns-in-None-clause-refused : goal.returns-in-None-clause-refused
returns-in-None-clause-refused c =
    absurd ((rw c.from.ensures at c.in-None.ensures.none) (decoded_there c.requires.work.sound c.loop-instr.pc c.loop-instr.state.types c.loop-instr.invariant.next.flows))

pub returns-in-Err-clause-refused : goal.returns-in-Err-clause-refused
returns-in-Err-clause-refused c =
    rw c.told_at-in-Err.ensures
    (denies_on (denial_of c.in-Err.ensures.refused) (λ typing carrier under bears. (c.loop-instr.invariant.taken.least typing under bears, c.loop-instr.invariant.bears typing bears)))
