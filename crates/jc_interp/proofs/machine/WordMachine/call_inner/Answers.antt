use Rattle.std.proofs.Common.{ap, sym, ◌∙◌}
use Rattle.jc_interp.specs.PrivateDone.{with_store}
use Rattle.jc_interp.specs.PrivateNatives.{done_with, inner_end}
use Rattle.jc_interp.proofs.machine.WordMachine.call_inner.Goals as goal

pub returns-in-Returned-clause-calls : goal.returns-in-Returned-clause-calls
returns-in-Returned-clause-calls g c = record {
  after = record { store = c.call_member.new.store; runtime = g.N.Natives.kept c.call_member.new.natives };
  outcome = c.call_member.result;
  answer = c.call_member.ensures;
  goes_on = ap (λ d. done_with d (g.N.Natives.kept c.call_member.new.natives))
      (c.native_gives.ensures.is
      ∙ sym (ap (λ o. inner_end c.args.here.now c.args.words o (with_store c.args.self.now c.call_member.new.store))
      c.in-Returned.is));
}
