use Rattle.jc_interp.proofs.TopFrames.{replaced_runs}
use Rattle.jc_interp.proofs.machine.WordMachine.gives.Goals as goal

pub returns-clause-runs : goal.returns-clause-runs
returns-clause-runs c =
    replaced_runs c.args.count c.args.word c.args.here.now.next_pc c.args.self.now _ c.replace.ensures
