use Rattle.std.proofs.Common.{sym, ◌∙◌}
use Rattle.jc_types.proofs.Points.{other_lengths}
use Rattle.jc_types.proofs.Ranging.{within_range}
use Rattle.jc_types.proofs.ranges.are_below_within.Goals as goal

pub returns-then-lower-upper : goal.returns-then-lower-upper
returns-then-lower-upper g c old agree below_old = sym (other_lengths _ c.args.lower.now c.args.upper.now c.if-lower-upper.true)

pub returns : goal.returns
returns g c old agree below_old = c.are_below.ensures ∙ within_range _ c.args.range old c.args.lower.now c.args.upper.now agree c.if-lower-upper.false below_old
