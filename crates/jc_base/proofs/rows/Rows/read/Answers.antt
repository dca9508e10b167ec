use Rattle.std.proofs.Common.{List, ℕ, ap, sym, ◌∙◌}
use Rattle.jc_base.specs.PrivateRows.{rest_of}
use Rattle.jc_base.specs.Rows.{repeat}
use Rattle.jc_base.proofs.rows.Rows.read.Goals as goal

pub invariant_of-result : goal.invariant_of-result
invariant_of-result g c =
    (_, ap (λ (w : List ℕ). rest_of (repeat g.R.Row.next_row c.args.count w)) c.again-start.ensures ∙ sym c.in_ok-skip.ensures)
