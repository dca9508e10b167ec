use Rattle.std.proofs.Common.{ℕ, ◌-◌, sym, ap, ◌∙◌, arith}
use Rattle.jc_base.proofs.PlacedLemmas.{seeks_first, seeks_on, found_here, not_found, seeks_there}
use Rattle.jc_base.proofs.placed_rows.PlacedRows.at.Goals as goal

pub loop-self-init : goal.loop-self-init
loop-self-init g c = let i = c.self.invariant in seeks_first g.R.Row.next_row g.met.R.PlacedRow.shrinks c.self.inside.total c.args.offset (g.S.Source.left c.self.inside.left) _ _ c.again-source.ensures i.0 i.1 c.self.view_is

pub loop-self-smaller : goal.loop-self-smaller
loop-self-smaller g c = g.met.R.PlacedRow.shrinks _ _ c.in-Ok.ensures

pub loop-self-preserved : goal.loop-self-preserved
loop-self-preserved g c = seeks_on g.R.Row.next_row g.met.R.PlacedRow.shrinks c.self.inside.total c.args.offset _ _ _ c.loop-self.invariant c.in-Ok.ensures (λ e. c.if-here-offset.false (ap (λ (n : ℕ). c.self.inside.total - n) c.len-in-loop-self.ensures ∙ e))

pub returns-then-here-offset : goal.returns-then-here-offset
returns-then-here-offset g c = found_here g.R.Row.next_row g.met.R.PlacedRow.shrinks c.self.inside.total c.args.offset _ _ _ c.loop-self.invariant c.in-Ok.ensures (ap (λ (n : ℕ). c.self.inside.total - n) (sym c.len-in-loop-self.ensures) ∙ c.if-here-offset.true)

pub returns-in_default : goal.returns-in_default
returns-in_default g c = absurd (seeks_there g.R.Row.next_row g.met.R.PlacedRow.shrinks c.self.inside.total c.args.offset _ _ _ c.loop-self.invariant (omega arith) c.in_default.ensures)

pub returns : goal.returns
returns g c = not_found g.R.Row.next_row g.met.R.PlacedRow.shrinks c.self.inside.total c.args.offset _ _ c.loop-self.invariant (omega arith)
