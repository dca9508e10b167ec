use Rattle.std.proofs.Common.{ℕ, ◌-◌, ◌∷◌, ap, sym, ◌∙◌}
use Rattle.jc_base.specs.PlacedRows.{placed_in}
use Rattle.jc_base.specs.PrivatePlacedRows.{listed}
use Rattle.jc_base.proofs.PlacedLemmas.{has_first}
use Rattle.jc_base.proofs.placed_rows.PlacedRows.next.Goals as goal

pub invariant_of-self : goal.invariant_of-self
invariant_of-self g c =
    let i = c.self.invariant in
    let h = has_first g.R.Row.next_row g.met.R.PlacedRow.shrinks c.self.inside.total (g.S.Source.left c.self.inside.left) _ i.0 i.1 (ap g.R.Row.next_row (sym c.again-source.ensures) ∙ c.in-Ok.ensures) in
    (h.within, h.all)

pub returns-clause-some : goal.returns-clause-some
returns-clause-some g c =
    let i = c.self.invariant in
    let h = has_first g.R.Row.next_row g.met.R.PlacedRow.shrinks c.self.inside.total (g.S.Source.left c.self.inside.left) _ i.0 i.1 (ap g.R.Row.next_row (sym c.again-source.ensures) ∙ c.in-Ok.ensures) in
    sym c.self.view_is ∙ h.rows ∙ ap (λ (n : ℕ). record { offset = c.self.inside.total - n; row = c.in-Ok.row } ∷ listed (placed_in g.R.Row.next_row c.self.inside.total c.self.inside.total (g.S.Source.left c.next_row.new.source))) (sym c.len-2.ensures)
