use Rattle.std.proofs.Common.{ℕ, ◌-◌, Some, drop, sym, ap, ◌∙◌}
use Rattle.jc_base.proofs.Binding.{the_ok}
use Rattle.jc_base.proofs.PlacedLemmas.{known_left}
use Rattle.jc_base.proofs.placed_rows.PlacedRows.known_at.Goals as goal

pub returns-in_default : goal.returns-in_default
returns-in_default g c a at =
    let i = c.self.invariant in
    let left = g.S.Source.left c.self.inside.left in
    let row = known_left g.R.Row.next_row g.met.R.PlacedRow.shrinks g.met.R.FrontRow.in_front c.self.inside.total c.args.offset a left _ i.0 i.1 c.self.view_is at in
    let count = c.saturating_sub.ensures ∙ ap (λ (n : ℕ). c.args.offset - (c.self.inside.total - n)) c.len.ensures in
    let source = c.behind-source.ensures ∙ ap (λ n. drop n left) count in
    let none = sym (ap g.R.Row.next_row source ∙ row.read) ∙ c.in_default.ensures in
    absurd cc

pub returns : goal.returns
returns g c a at =
    let i = c.self.invariant in
    let left = g.S.Source.left c.self.inside.left in
    let row = known_left g.R.Row.next_row g.met.R.PlacedRow.shrinks g.met.R.FrontRow.in_front c.self.inside.total c.args.offset a left _ i.0 i.1 c.self.view_is at in
    let count = c.saturating_sub.ensures ∙ ap (λ (n : ℕ). c.args.offset - (c.self.inside.total - n)) c.len.ensures in
    let source = c.behind-source.ensures ∙ ap (λ n. drop n left) count in
    ap (λ r. Some r.value) (the_ok _ _ (sym c.in-Ok.ensures ∙ ap g.R.Row.next_row source ∙ row.read))
