use Rattle.std.proofs.Common.{sym, ◌∙◌}
use Rattle.jc_cert.specs.Cert.{stated}
use Rattle.jc_check.proofs.Standing.{no_start, stands_as}
use Rattle.jc_check.proofs.table.stand_state.Goals as goal

pub returns-then-not-begins_at-clause-err : goal.returns-then-not-begins_at-clause-err
returns-then-not-begins_at-clause-err g c =
    let rules = g.R.CheckRules.rules c.args.rules.now in
    rw c.mismatch.ensures (λ listing claims table.
    no_start rules c.args.method.now listing (stated c.args.row.now) (rw c.from.ensures at (sym (c.begins_at.ensures.begins rules c.args.method.now listing claims table) ∙ c.if-not-begins_at.true)))

pub returns-in-Some-clause-ok : goal.returns-in-Some-clause-ok
returns-in-Some-clause-ok g c listing claims table =
    let rules = g.R.CheckRules.rules c.args.rules.now in
    stands_as rules c.args.method.now listing (stated c.args.row.now) c.in-Some.claim
    (rw c.from.ensures at (sym (c.begins_at.ensures.begins rules c.args.method.now listing claims table) ∙ c.if-not-begins_at.false)) (sym c.fits.ensures ∙ c.if-not-fits.false) (sym c.in_ok-claim.ensures ∙ c.in-Some.is)
