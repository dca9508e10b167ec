use Rattle.std.proofs.Common.{ap, subst, sym, ◌∙◌}
use Rattle.jc_machine.specs.declared.natives.WordOutcome.TheVariants.{CallsBack}
use Rattle.jc_interp.specs.PrivateDone.{denies, done, throws, with_store}
use Rattle.jc_interp.specs.PrivateNatives.{EndsNative, done_with, native_gives, state_of}
use Rattle.jc_interp.proofs.machine.WordMachine.call_native.Goals as goal

pub returns-in-Returned-clause-calls : goal.returns-in-Returned-clause-calls
returns-in-Returned-clause-calls g c =
    let kept = g.N.Natives.kept c.ask.new.natives in
    let u = with_store c.args.self.now c.ask.new.self.store in
    record {
      after = state_of c.ask.new.self kept;
      outcome = c.ask.result;
      answer = c.ask.ensures.answer;
      goes_on = subst (EndsNative g.N.Natives.meaning c.args.here.now c.args.words u kept
          (done_with (done c.native_gives.new.self c.native_gives.result) kept)) (sym c.in-Returned.is)
          (ap (λ d. done_with d kept) (c.native_gives.ensures.is
          ∙ ap (native_gives c.args.here.now c.args.words c.in-Returned.value) c.ask.ensures.frames));
    }

pub returns-in-Thrown-clause-calls : goal.returns-in-Thrown-clause-calls
returns-in-Thrown-clause-calls g c =
    let kept = g.N.Natives.kept c.ask.new.natives in
    let u = with_store c.args.self.now c.ask.new.self.store in
    record {
      after = state_of c.ask.new.self kept;
      outcome = c.ask.result;
      answer = c.ask.ensures.answer;
      goes_on = subst (EndsNative g.N.Natives.meaning c.args.here.now c.args.words u kept
          (done_with (throws c.in-Thrown.object c.ask.new.self) kept)) (sym c.in-Thrown.is)
          (ap (λ v. done_with (throws c.in-Thrown.object v) kept) c.ask.ensures.frames);
    }

pub returns-in-AccessDenied-clause-calls : goal.returns-in-AccessDenied-clause-calls
returns-in-AccessDenied-clause-calls g c =
    let kept = g.N.Natives.kept c.ask.new.natives in
    let u = with_store c.args.self.now c.ask.new.self.store in
    record {
      after = state_of c.ask.new.self kept;
      outcome = c.ask.result;
      answer = c.ask.ensures.answer;
      goes_on = subst (EndsNative g.N.Natives.meaning c.args.here.now c.args.words u kept
          (done_with (denies c.in-AccessDenied.denied c.ask.new.self) kept)) (sym c.in-AccessDenied.is)
          (ap (λ v. done_with (denies c.in-AccessDenied.denied v) kept) c.ask.ensures.frames);
    }

pub returns-in-CallsBack-clause-calls : goal.returns-in-CallsBack-clause-calls
returns-in-CallsBack-clause-calls g c =
    let kept = g.N.Natives.kept c.ask.new.natives in
    let u = with_store c.args.self.now c.ask.new.self.store in
    let d = done_with (done c.call_back.new.self c.call_back.result) (g.N.Natives.kept c.call_back.new.natives) in
    record {
      after = state_of c.ask.new.self kept;
      outcome = c.ask.result;
      answer = c.ask.ensures.answer;
      goes_on = subst (EndsNative g.N.Natives.meaning c.args.here.now c.args.words u kept d) (sym c.in-CallsBack.is)
          (subst (λ v. EndsNative g.N.Natives.meaning c.args.here.now c.args.words v kept d
          (CallsBack c.in-CallsBack.callback)) c.ask.ensures.frames
          (record { few = c.call_back.ensures.few; calls = c.call_back.ensures.calls }));
    }
