use Rattle.std.proofs.Common.{length, ◌-◌}
use Rattle.jc_check.specs.FirstFault.{walk}
use Rattle.jc_check.specs.PrivateInput.{ForListing}
use Rattle.jc_check.specs.PrivateMarks.{HasRoom, flowing}
use Rattle.jc_check.specs.PrivateSeen.{HasSeen}
use Rattle.jc_check.proofs.Walking.{IsLeft}
use Rattle.jc_check.proofs.pass.walk_code.Given as goal

abbrev pub invariant-loop-pc : goal.invariant-loop-pc
invariant-loop-pc g l = record {
  room : HasRoom l.input.method.now l.state;
  seen : HasSeen (g.R.CheckRules.rules l.rules) l.input l.seen;
  left : ForListing (g.R.CheckRules.rules l.rules) l.input (λ listing.
      IsLeft (g.R.CheckRules.rules l.rules) l.input.method.now listing l.input.claims.now
      (flowing l.live l.state.types) l.pc
      (walk (g.R.CheckRules.rules l.rules) l.input.method.now listing l.input.claims.now
      (flowing l.fn.live l.fn.state.types) listing));
}

abbrev pub decreases-loop-pc : goal.decreases-loop-pc
decreases-loop-pc g l = length l.input.method.now.code - l.pc
