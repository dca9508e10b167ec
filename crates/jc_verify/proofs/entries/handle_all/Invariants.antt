use Rattle.jc_verify.specs.PrivateLive.{AreFoundBy, HasLed, IsCaughtIn}
use Rattle.jc_verify.proofs.Passing.{AreMet}
use Rattle.jc_verify.proofs.entries.handle_all.Given as goal

abbrev pub invariant-loop-index : goal.invariant-loop-index
invariant-loop-index l = HasLed (AreMet (λ f. IsCaughtIn f l.pc) l.handlers l.index) (AreFoundBy l.handlers l.pc) l.fn.followed l.followed
