use Rattle.std.proofs.lemmas.Bool.{OnTrue_at, OnTrue_from}
use Rattle.jc_interp.specs.Following.{WordState}
use Rattle.jc_interp.specs.PrivateDone.{done}
use Rattle.jc_interp.proofs.FirstCalls.{method_may_begin, method_runs, method_runs_out, method_shows}
use Rattle.jc_interp.proofs.FirstCalls.{other_end}
use Rattle.jc_interp.proofs.machine.WordMachine.call_method.Goals as goal

pub run-requires : goal.run-requires
run-requires g c =
    let w = c.args.world.now in
    let p = c.args.program.now in
    let natives = g.N.Natives.meaning in
    let before : WordState g.N.Natives.Kept =
    record { machine = c.args.self.now; kept = g.N.Natives.kept c.args.natives.now } in
    let laws = c.accepted_packages_are_type_safe.ensures in
    record {
      may_begin =
          method_may_begin w p natives c.args.selected c.args.steps c.args.call.now before
          (λ accepted program. c.tables_are_known.ensures w accepted program) c.law.ensures
          (record { calls = laws.calls; first = laws.first }) c.args.number c.requires.method
          (done c.enter_first.new.self c.enter_first.result) c.enter_first.ensures c.in-GoesOn.is c.requires.may_call;
    }

pub returns-in-GoesOn-clause-call : goal.returns-in-GoesOn-clause-call
returns-in-GoesOn-clause-call g c =
    let w = c.args.world.now in
    let p = c.args.program.now in
    let natives = g.N.Natives.meaning in
    let before : WordState g.N.Natives.Kept =
    record { machine = c.args.self.now; kept = g.N.Natives.kept c.args.natives.now } in
    let laws = c.accepted_packages_are_type_safe.ensures in
    method_runs w p natives c.args.selected c.args.steps c.args.call.now before
    (λ accepted program. c.tables_are_known.ensures w accepted program) c.law.ensures
    (record { calls = laws.calls; first = laws.first }) c.args.number c.requires.method
    (done c.enter_first.new.self c.enter_first.result) c.enter_first.ensures c.in-GoesOn.is
    (record { machine = c.run.new.self; kept = g.N.Natives.kept c.run.new.natives }) c.run.result c.run.ensures.run

pub returns-in-Throws-clause-call : goal.returns-in-Throws-clause-call
returns-in-Throws-clause-call g c =
    let w = c.args.world.now in
    let p = c.args.program.now in
    let natives = g.N.Natives.meaning in
    let before : WordState g.N.Natives.Kept =
    record { machine = c.args.self.now; kept = g.N.Natives.kept c.args.natives.now } in
    let laws = c.accepted_packages_are_type_safe.ensures in
    rw c.lacking.ensures (method_runs_out w p natives c.args.selected c.args.steps c.args.call.now before
    (λ accepted program. c.tables_are_known.ensures w accepted program) c.law.ensures
    (record { calls = laws.calls; first = laws.first }) c.args.number c.requires.method
    (done c.enter_first.new.self c.enter_first.result) c.enter_first.ensures
    (other_end c.enter_first.result c.in-Throws.is))

pub returns-in-GoesOn-clause-shown : goal.returns-in-GoesOn-clause-shown
returns-in-GoesOn-clause-shown g c = OnTrue_from c.run.new.shown.is_there _ (λ there.
    let w = c.args.world.now in
    let p = c.args.program.now in
    let natives = g.N.Natives.meaning in
    let before : WordState g.N.Natives.Kept =
    record { machine = c.args.self.now; kept = g.N.Natives.kept c.args.natives.now } in
    let laws = c.accepted_packages_are_type_safe.ensures in
    method_shows w p natives c.args.selected c.args.steps c.args.call.now before
    (λ accepted program. c.tables_are_known.ensures w accepted program) c.law.ensures
    (record { calls = laws.calls; first = laws.first }) c.args.number c.requires.method
    (done c.enter_first.new.self c.enter_first.result) c.enter_first.ensures c.in-GoesOn.is c.run.new.shown
    (OnTrue_at there c.run.ensures.shown))
