use Rattle.jc_interp.proofs.MadeArrays.{loaded_words}
use Rattle.jc_interp.proofs.machine.WordMachine.load.Goals as goal

pub returns-clause-done : goal.returns-clause-done
returns-clause-done c =
    loaded_words c.args.self.now c.make_arrays.new.store c.push.new.self c.args.number c.args.body.now
    c.args.words.items c.make_arrays.result c.in_ok-push.ensures.done c.make_arrays.ensures.made
    c.make_arrays.ensures.full
