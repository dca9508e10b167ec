use Rattle.std.proofs.Common.{map, arith}
use Rattle.std.proofs.lemmas.Result.{err_from_is_err_and}
use Rattle.jc_cert.specs.Cert.{stated}
use Rattle.jc_check.proofs.Verdicts.{accepted, refused, refused_handlers, refused_or_memory, stopped}
use Rattle.jc_check.proofs.method_check.check_code.Goals as goal

pub returns-in_err-mark_starts-clause-refused : goal.returns-in_err-mark_starts-clause-refused
returns-in_err-mark_starts-clause-refused g c = grind (arith, err_from_is_err_and, stopped, map)

pub returns-in_err-stand_handlers-clause-refused : goal.returns-in_err-stand_handlers-clause-refused
returns-in_err-stand_handlers-clause-refused g c =
    let rules = g.R.CheckRules.rules c.args.rules.now in
    let p = err_from_is_err_and c.from_residual-in_err-stand_handlers.result c.from_residual-in_err-stand_handlers.ensures.1 in
    let l = c.in_ok-mark_starts.ensures.ok in
    rw (p.1, p.2) (refused_handlers rules c.args.method.now l.0 (map stated c.args.states.now) c.in_err-stand_handlers.field-0.0 l.1.whole c.requires.some (rw c.handlers.ensures at (c.in_err-stand_handlers.ensures rules c.args.method.now l.0 _ l.1)))

pub returns-in_err-claims-clause-refused : goal.returns-in_err-claims-clause-refused
returns-in_err-claims-clause-refused g c =
    let rules = g.R.CheckRules.rules c.args.rules.now in
    let p = err_from_is_err_and c.from_residual-in_err-claims.result c.from_residual-in_err-claims.ensures.1 in
    let l = c.in_ok-mark_starts.ensures.ok in
    rw (p.1, p.2) (refused_or_memory rules c.args.method.now l.0 (map stated c.args.states.now) c.mark_starts.new.marks c.in_err-claims.field-0.0 c.requires.some l.1 (rw c.handlers.ensures at (c.in_ok-stand_handlers.ensures rules c.args.method.now l.0 _ l.1)) c.in_err-claims.ensures.err)

pub returns-in_err-check_flow-clause-refused : goal.returns-in_err-check_flow-clause-refused
returns-in_err-check_flow-clause-refused g c =
    let rules = g.R.CheckRules.rules c.args.rules.now in
    let p = err_from_is_err_and c.from_residual-in_err-check_flow.result c.from_residual-in_err-check_flow.ensures.1 in
    let l = c.in_ok-mark_starts.ensures.ok in
    let handlers = rw c.handlers.ensures at (c.in_ok-stand_handlers.ensures rules c.args.method.now l.0 _ l.1) in
    let t = c.in_ok-claims.ensures.ok l.0 l.1 in
    rw (p.1, p.2) (refused rules c.in_err-check_flow.field-0.0 c.args.method.now l.0 (map stated c.args.states.now) c.in_ok-claims.claims.items l.1.whole c.requires.some handlers t.0 (rw c.deref.ensures.value at (c.in_err-check_flow.ensures l.0 (rw c.deref.ensures.value t.1))))

pub returns-clause-accepted : goal.returns-clause-accepted
returns-clause-accepted g c =
    let rules = g.R.CheckRules.rules c.args.rules.now in
    let l = c.in_ok-mark_starts.ensures.ok in
    let handlers = rw c.handlers.ensures at (c.in_ok-stand_handlers.ensures rules c.args.method.now l.0 _ l.1) in
    let t = c.in_ok-claims.ensures.ok l.0 l.1 in
    accepted rules c.listing_laws.ensures c.args.method.now l.0 (map stated c.args.states.now) c.in_ok-claims.claims.items l.1.whole handlers t.0 (rw c.deref.ensures.value at (c.in_ok-check_flow.ensures l.0 (rw c.deref.ensures.value t.1)))
