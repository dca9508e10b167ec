use Rattle.std.proofs.Common.{Some, subst, sym, ◌∙◌}
use Rattle.jc_interp.specs.PrivateDone.{done}
use Rattle.jc_interp.specs.PrivateNatives.{CallsBackBy, done_with, callback_words}
use Rattle.jc_interp.proofs.machine.WordMachine.call_back.Goals as goal

pub returns-clause-calls : goal.returns-clause-calls
returns-clause-calls g c =
    let h = c.args.here.now in
    let u = c.args.self.now in
    let kept = g.N.Natives.kept c.args.natives.now in
    let d = done_with (done c.call_callee.new.self c.call_callee.result) (g.N.Natives.kept c.call_callee.new.natives) in
    subst (CallsBackBy g.N.Natives.meaning h c.args.words (callback_words c.args.callback.now) u kept d)
    (sym c.in-Some.is ∙ c.called_back.ensures)
    (subst (λ xs. CallsBackBy g.N.Natives.meaning h c.args.words xs u kept d (Some c.in-Some.callee))
    (c.as_slice.ensures.value ∙ c.arguments_of-arguments.ensures.words) c.call_callee.ensures.calls)
