use Rattle.jc_interp.specs.Following.{WordState}
use Rattle.jc_interp.proofs.FirstCalls.{never_nothing}
use Rattle.jc_interp.proofs.machine.WordMachine.make_call.Goals as goal

pub returns-in-Nothing-clause-call : goal.returns-in-Nothing-clause-call
returns-in-Nothing-clause-call g c =
    let before : WordState g.N.Natives.Kept =
    record { machine = c.args.self.now; kept = g.N.Natives.kept c.args.natives.now } in
    never_nothing c.args.world.now c.args.program.now g.N.Natives.meaning c.args.selected c.args.steps c.args.call.now
    before (λ accepted program. c.tables_are_known.ensures c.args.world.now accepted program) c.in-Nothing.is before _
