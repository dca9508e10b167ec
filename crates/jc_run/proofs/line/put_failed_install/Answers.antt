use Rattle.std.proofs.Common.{ℕ, List, ◌++◌, codes, ap, append_assoc, ◌∙◌}
use Rattle.jc_run.specs.Answer.{status_text}
use Rattle.jc_run.proofs.line.put_failed_install.Goals as goal

pub returns-clause-items : goal.returns-clause-items
returns-clause-items c =
    c.put_status.ensures.items ∙ ap (λ (l : List ℕ). l ++ status_text c.args.status) c.put_bytes.ensures.items
    ∙ append_assoc c.args.line.now.items (codes "24 InstallFailed ") (status_text c.args.status)
