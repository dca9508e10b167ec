use Rattle.std.proofs.Common.{◌∙◌, sym, subst, codes}
use Rattle.clap.specs.Words.{found_of, rows_of}
use Rattle.clap.proofs.WalkLemmas.{first_value-rows}
use Rattle.jc_host.specs.Line.{Finds, IsRunOf}
use Rattle.jc_host.proofs.Lines.{no_script}
use Rattle.jc_host.proofs.line.run_job.Goals as goal

pub returns-in_err-script : goal.returns-in_err-script
returns-in_err-script c =
    let found = found_of c.args.found.now in
    subst (λ o. Finds o (IsRunOf (rows_of found))) (sym c.from_residual.ensures)
    (no_script (rows_of found) (sym (first_value-rows found (codes "SCRIPT")) ∙ sym c.in_err-script.ensures))

pub returns : goal.returns
returns c =
    let found = found_of c.args.found.now in
    (sym (first_value-rows found (codes "SCRIPT")) ∙ sym c.in_ok-script.ensures, c.in_ok-card.ensures)
