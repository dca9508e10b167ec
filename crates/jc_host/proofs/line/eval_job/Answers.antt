use Rattle.std.proofs.Common.{◌∙◌, sym, subst, codes}
use Rattle.clap.specs.Words.{found_of, rows_of}
use Rattle.clap.proofs.WalkLemmas.{first_value-rows}
use Rattle.jc_host.specs.Line.{Finds, IsEvalOf}
use Rattle.jc_host.proofs.Lines.{no_code, no_cert, no_steps}
use Rattle.jc_host.proofs.line.eval_job.Goals as goal

pub returns-in_err-code : goal.returns-in_err-code
returns-in_err-code c =
    let found = found_of c.args.found.now in
    subst (λ o. Finds o (IsEvalOf (rows_of found))) (sym c.from_residual.ensures)
    (no_code (rows_of found) (sym (first_value-rows found (codes "CODE")) ∙ sym c.in_err-code.ensures))

pub returns-in_err-cert : goal.returns-in_err-cert
returns-in_err-cert c =
    let found = found_of c.args.found.now in
    subst (λ o. Finds o (IsEvalOf (rows_of found))) (sym c.from_residual-in_err-cert.ensures)
    (no_cert (rows_of found) (sym (first_value-rows found (codes "CERT")) ∙ sym c.in_err-cert.ensures))

pub returns-in_err-steps : goal.returns-in_err-steps
returns-in_err-steps c =
    let found = found_of c.args.found.now in
    subst (λ o. Finds o (IsEvalOf (rows_of found))) (sym c.from_residual-in_err-steps.ensures)
    (no_steps (rows_of found) c.in_err-steps.ensures)

pub returns : goal.returns
returns c =
    let found = found_of c.args.found.now in (
      sym (first_value-rows found (codes "CODE")) ∙ sym c.in_ok-code.ensures,
      sym (first_value-rows found (codes "CERT")) ∙ sym c.in_ok-cert.ensures,
      c.in_ok-steps.ensures,
    )
