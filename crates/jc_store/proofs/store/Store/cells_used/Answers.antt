use Rattle.std.proofs.Common.{ap, ◌∙◌, ◌+◌}
use Rattle.jc_store.proofs.Rows.{cells_counted}
use Rattle.jc_store.proofs.store.Store.cells_used.Goals as goal

pub returns : goal.returns
returns c = ap (λ n. c.self.inside.used + n) c.len.ensures ∙ cells_counted c.self.invariant c.self.view_is
