use Rattle.std.proofs.Common.{◌+◌, map}
use Rattle.std.proofs.lemmas.Result.{err_from_is_err_and}
use Rattle.std.proofs.lemmas.List.{map_push}
use Rattle.jc_cert.specs.Cert.{stated}
use Rattle.jc_cert.specs.PrivateReading.{next_stated}
use Rattle.jc_cert.proofs.Repeats.{goes_on, refuses, is_done}
use Rattle.jc_cert.proofs.reading.read_states.Goals as goal

pub returns-in_err-state : goal.returns-in_err-state
returns-in_err-state c =
    let p = err_from_is_err_and c.from_residual.result c.from_residual.ensures.1 in
    rw (p.1, p.2) (refuses next_stated (λ s. s.pc + 1) c.in_err-state.field-0.0 _ (map stated c.loop.states.items) c.args.count c.loop.counter c.loop.least c.loop.cursor c.loop-test.true c.in_err-state.ensures c.loop.invariant)

pub loop-preserved : goal.loop-preserved
loop-preserved c = rw (c.in_ok-push.ensures.items, map_push stated c.loop.states.items c.in_ok-state.state, c.from-least.ensures)
    (goes_on next_stated (λ s. s.pc + 1) _ (map stated c.loop.states.items) c.args.count c.loop.counter c.loop.least c.loop.cursor (stated c.in_ok-state.state) c.read_state.new.cursor c.loop-test.true c.in_ok-state.ensures c.loop.invariant)

pub returns : goal.returns
returns c = is_done next_stated (λ s. s.pc + 1) _ (map stated c.loop.states.items) c.args.count c.loop.counter c.loop.least c.loop.cursor c.loop-test.false c.loop.invariant
