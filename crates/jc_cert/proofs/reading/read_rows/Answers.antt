use Rattle.std.proofs.Common.{◌+◌}
use Rattle.std.proofs.lemmas.Result.{err_from_is_err_and}
use Rattle.std.proofs.lemmas.List.{map_push}
use Rattle.jc_cert.specs.Cert.{row, rows}
use Rattle.jc_cert.specs.PrivateReading.{next_row}
use Rattle.jc_cert.proofs.Repeats.{goes_on, refuses, is_done}
use Rattle.jc_cert.proofs.reading.read_rows.Goals as goal

pub returns-in_err-method : goal.returns-in_err-method
returns-in_err-method c =
    let p = err_from_is_err_and c.from_residual.result c.from_residual.ensures.1 in
    rw (p.1, p.2) (refuses next_row (λ r. r.offset + 1) c.in_err-method.field-0.0 _ (rows c.loop.methods.items) c.args.count c.loop.counter c.loop.least c.loop.cursor c.loop-test.true c.in_err-method.ensures c.loop.invariant)

pub loop-preserved : goal.loop-preserved
loop-preserved c = rw (c.in_ok-push.ensures.items, map_push row c.loop.methods.items c.in_ok-method.method, c.from-least.ensures)
    (goes_on next_row (λ r. r.offset + 1) _ (rows c.loop.methods.items) c.args.count c.loop.counter c.loop.least c.loop.cursor (row c.in_ok-method.method) c.read_row.new.cursor c.loop-test.true c.in_ok-method.ensures c.loop.invariant)

pub returns : goal.returns
returns c = is_done next_row (λ r. r.offset + 1) _ (rows c.loop.methods.items) c.args.count c.loop.counter c.loop.least c.loop.cursor c.loop-test.false c.loop.invariant
