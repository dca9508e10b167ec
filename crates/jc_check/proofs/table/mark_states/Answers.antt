use Rattle.std.proofs.Common.{map, ◌∙◌, arith}
use Rattle.std.proofs.lemmas.List.{length-map}
use Rattle.std.proofs.lemmas.Result.{err_from_is_err_and}
use Rattle.jc_cert.specs.Cert.{stated}
use Rattle.jc_check.proofs.Standing.{all_states, more_states, row_there, told_states}
use Rattle.jc_check.proofs.table.mark_states.Goals as goal

pub returns-in_err-claim-clause-err : goal.returns-in_err-claim-clause-err
returns-in_err-claim-clause-err g c =
    let p = err_from_is_err_and c.from_residual-in_err-claim.result c.from_residual-in_err-claim.ensures.1 in
    let at = row_there c.args.states.now c.loop-index.index c.index-states-index.result c.loop-index-test.true c.index-states-index.is in
    rw (p.1, p.2) (told_states (g.R.CheckRules.rules c.args.rules.now) c.args.method.now (map stated c.args.states.now) c.loop-index.index c.loop-index.claims.items c.args.marks.now c.loop-index.marks (stated c.index-states-index.result) c.in_err-claim.field-0.0 at
    c.in_err-claim.ensures.err c.loop-index.invariant.0)

pub loop-index-preserved : goal.loop-index-preserved
loop-index-preserved g c =
    let at = row_there c.args.states.now c.loop-index.index c.index-states-index.result c.loop-index-test.true c.index-states-index.is in
    let n = c.loop-index.invariant.1 in let more = c.push_reserved.ensures.len in (
      (λ listing table. rw c.push_reserved.ensures.items (more_states (g.R.CheckRules.rules c.args.rules.now) c.args.method.now listing (map stated c.args.states.now) c.loop-index.index c.loop-index.claims.items c.loop-index.marks c.hold.new.marks (stated c.index-states-index.result) c.in_ok-claim.claim at
          (c.in_ok-claim.ensures.ok listing c.loop-index.claims.items) (rw c.from.ensures at c.hold.ensures.table) (c.loop-index.invariant.0 listing table))),
      omega (arith, n, more),
      c.push_reserved.ensures.capacity ∙ c.loop-index.invariant.2,
    )

pub returns-clause-ok : goal.returns-clause-ok
returns-clause-ok g c listing table = grind (arith, all_states, map, length-map)
