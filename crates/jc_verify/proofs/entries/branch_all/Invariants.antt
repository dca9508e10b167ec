use Rattle.std.specs.List.{Contains}
use Rattle.jc_verify.specs.PrivateLive.{AreEnteredBy, HasLed, IsBranchIn}
use Rattle.jc_verify.proofs.Passing.{AreMet}
use Rattle.jc_verify.proofs.entries.branch_all.Given as goal

abbrev pub invariant-loop-index : goal.invariant-loop-index
invariant-loop-index l = HasLed (AreMet IsBranchIn l.targets l.index) (AreEnteredBy (Contains l.targets) l.starts) l.fn.followed l.followed
