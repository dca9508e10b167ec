use Rattle.std.proofs.Common.{ℤ, List, ap, ◌∙◌, arith}
use Rattle.std.specs.Prelude.{pos}
use Rattle.std.proofs.lemmas.Option.{slice_get-get_or}
use Rattle.std.proofs.lemmas.Result.{err_from_is_err_and}
use Rattle.jc_check.specs.FirstFault.{all_arrive}
use Rattle.jc_check.proofs.Branches.{goes_on, stops}
use Rattle.jc_check.proofs.pass.arrive_all.Goals as goal

pub returns-in_err-arrive : goal.returns-in_err-arrive
returns-in_err-arrive g c listing table =
    let rules = g.R.CheckRules.rules c.args.rules.now in
    let p = err_from_is_err_and c.from_residual.result c.from_residual.ensures.1 in
    let at = slice_get-get_or c.targets-targets.result c.loop-index.index (pos 0) (omega (arith, c.loop-index-test.true, c.len-index-end.ensures)) in
    let e = stops rules listing c.args.input.now.claims.now c.args.state.now.types c.targets-targets.result c.loop-index.index _ _ c.in_err-arrive.field-0.0 at (c.in_err-arrive.ensures listing table _ at) (c.loop-index.invariant listing table) in
    rw (p.1, p.2) (e ∙ ap (λ (ts : List ℤ). all_arrive rules listing c.args.input.now.claims.now c.args.state.now.types ts) c.targets-targets.ensures)

pub loop-index-preserved : goal.loop-index-preserved
loop-index-preserved g c listing table =
    let at = slice_get-get_or c.targets-targets.result c.loop-index.index (pos 0) (omega (arith, c.loop-index-test.true, c.len-index-end.ensures)) in
    goes_on (g.R.CheckRules.rules c.args.rules.now) listing c.args.input.now.claims.now c.args.state.now.types c.targets-targets.result c.loop-index.index _ _ at (c.in_ok-arrive.ensures listing table _ at) (c.loop-index.invariant listing table)
