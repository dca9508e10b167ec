use Rattle.std.proofs.Common.{Some, None, refl, subst, arith}
use Rattle.jc_machine.specs.WordNatives.{Answers, IfDone}
use Rattle.jc_machine.specs.declared.natives.AtOnce.{AtOnce}
use Rattle.jc_machine.specs.declared.natives.WordOutcome.TheVariants.{Returned}
use Rattle.jc_interp.specs.PrivateNatives.{state_of}
use Rattle.jc_interp.proofs.NativeCalls.{called}
use Rattle.jc_interp.proofs.TopFrames.{left_runs, replaced_runs, same_runs}
use Rattle.jc_interp.proofs.machine.WordMachine.done_at_once.Goals as goal

pub returns-in-Gives-clause-calls : goal.returns-in-Gives-clause-calls
returns-in-Gives-clause-calls g c h next context done =
    let call = called c.args.member c.arguments-arguments.result h in
    let kept = g.N.Natives.kept c.call_at_once.new.self in
    let is = c.call_at_once.ensures.answered call refl refl context in
    record {
      after = record { store = c.call_at_once.new.store; runtime = kept };
      outcome = Returned (Some c.in-Gives.word);
      answer = record {
        call = call;
        member_is = refl;
        arguments_are = c.arguments-arguments.ensures;
        active_is = refl;
        previous_is = refl;
        selected_is = refl;
        answered = subst (λ (o : AtOnce). IfDone o (λ value. Answers g.N.Natives.meaning h.world.now call
            (state_of c.args.self.now (g.N.Natives.kept c.args.natives.now))
            (record { store = c.call_at_once.new.store; runtime = kept }) (Returned value))) c.in-Gives.is is;
        classes = c.call_at_once.ensures.classes;
        limits = c.call_at_once.ensures.limits;
      };
      goes_on = grind arith;
    }

pub returns-in-GivesNothing-clause-calls : goal.returns-in-GivesNothing-clause-calls
returns-in-GivesNothing-clause-calls g c h next context done =
    let call = called c.args.member c.arguments-arguments.result h in
    let kept = g.N.Natives.kept c.call_at_once.new.self in
    let is = c.call_at_once.ensures.answered call refl refl context in
    record {
      after = record { store = c.call_at_once.new.store; runtime = kept };
      outcome = Returned (None);
      answer = record {
        call = call;
        member_is = refl;
        arguments_are = c.arguments-arguments.ensures;
        active_is = refl;
        previous_is = refl;
        selected_is = refl;
        answered = subst (λ (o : AtOnce). IfDone o (λ value. Answers g.N.Natives.meaning h.world.now call
            (state_of c.args.self.now (g.N.Natives.kept c.args.natives.now))
            (record { store = c.call_at_once.new.store; runtime = kept }) (Returned value))) c.in-GivesNothing.is is;
        classes = c.call_at_once.ensures.classes;
        limits = c.call_at_once.ensures.limits;
      };
      goes_on = grind arith;
    }

pub returns-in-Gives-clause-runs : goal.returns-in-Gives-clause-runs
returns-in-Gives-clause-runs g c = grind (arith, replaced_runs)

pub returns-in-GivesNothing-clause-runs : goal.returns-in-GivesNothing-clause-runs
returns-in-GivesNothing-clause-runs g c = grind (arith, left_runs)

pub returns-in-NotAtOnce-clause-runs : goal.returns-in-NotAtOnce-clause-runs
returns-in-NotAtOnce-clause-runs g c = same_runs c.args.self.now _ refl
