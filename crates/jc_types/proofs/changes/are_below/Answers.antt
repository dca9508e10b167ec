use Rattle.jc_types.proofs.Points.{other_lengths, goes_on, stops}
use Rattle.std.proofs.Common.{sym, ◌∙◌}
use Rattle.jc_types.proofs.changes.are_below.Goals as goal

pub returns-then-lower-upper : goal.returns-then-lower-upper
returns-then-lower-upper g c = sym (other_lengths _ c.args.lower.now c.args.upper.now c.if-lower-upper.true)

pub returns-then-not-is_below : goal.returns-then-not-is_below
returns-then-not-is_below g c = stops _ c.args.lower.now c.args.upper.now c.loop-index.index _ c.loop-index-test.true c.if-lower-upper.false (sym c.is_below.ensures ∙ c.if-not-is_below.true) c.loop-index.invariant

pub loop-index-preserved : goal.loop-index-preserved
loop-index-preserved g c = goes_on _ c.args.lower.now c.args.upper.now c.loop-index.index _ c.loop-index-test.true c.if-lower-upper.false (sym c.is_below.ensures ∙ c.if-not-is_below.false) c.loop-index.invariant
