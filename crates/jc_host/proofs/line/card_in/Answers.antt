use Rattle.std.proofs.Common.{◌∙◌, sym, subst, codes}
use Rattle.clap.specs.Words.{found_of, rows_of}
use Rattle.clap.proofs.WalkLemmas.{first_value-rows}
use Rattle.jc_host.specs.Line.{Finds, IsCardOf}
use Rattle.jc_host.proofs.line.card_in.Goals as goal

pub returns-in_err-limits : goal.returns-in_err-limits
returns-in_err-limits c =
    subst (λ o. Finds o (IsCardOf (rows_of (found_of c.args.found.now)))) (sym c.from_residual.ensures)
    (λ card said. c.in_err-limits.ensures card.limits said.limits)

pub returns : goal.returns
returns c = record {
  limits = c.in_ok-limits.ensures;
  binding = sym (first_value-rows (found_of c.args.found.now) (codes "binding")) ∙ sym c.get_str-binding.ensures;
  explains = c.flag_in-explains.ensures;
}
