use Rattle.std.proofs.Common.{rules, ◌+◌, length, arith, ap, sym, ◌∙◌}
use Rattle.std.proofs.lemmas.Result.{err_from_is_err_and}
use Rattle.jc_api.specs.Binding.{with_lines}
use Rattle.jc_api.proofs.Lines.{lines_few, lines_on, lines_refused, lines_done}
use Rattle.jc_api.proofs.draft.Draft.take_text.Goals as goal

pub loop-line-init : goal.loop-line-init
loop-line-init c =
    let few = lines_few c.args.text.now (search rules) in
    (omega (arith, few, ap length c.new-lines.ensures), ap (with_lines 1 c.args.self.now) (sym c.new-lines.ensures))

pub overflow_add-number : goal.overflow_add-number
overflow_add-number c = let few = c.loop-line.invariant.0 in let more = ap length c.in-Some.ensures.some in omega arith

pub loop-line-preserved : goal.loop-line-preserved
loop-line-preserved c =
    let few = c.loop-line.invariant.0 in
    let more = ap length c.in-Some.ensures.some in
    (omega arith, c.loop-line.invariant.1 ∙ lines_on (c.loop-line.number + 1) _ _ _ _ _ c.in-Some.ensures.some c.in_ok-take_line.ensures.ok)

pub returns-in_err-take_line-clause-err : goal.returns-in_err-take_line-clause-err
returns-in_err-take_line-clause-err c =
    let gone = c.loop-line.invariant.1 ∙ lines_refused (c.loop-line.number + 1) _ _ _ _ _ c.in-Some.ensures.some c.in_err-take_line.ensures.err in
    let p = err_from_is_err_and c.from_residual.result c.from_residual.ensures.1 in
    rw (p.1, p.2) gone

pub returns-clause-ok : goal.returns-clause-ok
returns-clause-ok c = c.loop-line.invariant.1 ∙ lines_done (c.loop-line.number + 1) c.loop-line.self c.loop-line.lines c.in_default.ensures.none.0
