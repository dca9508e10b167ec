use Rattle.std.proofs.Common.{◌≡◌, ◌-◌}
use Rattle.jc_base.specs.PrivateRows.{rest_of}
use Rattle.jc_base.specs.Rows.{repeat}
use Rattle.jc_base.proofs.rows.skip.Given as goal

abbrev pub invariant-loop : goal.invariant-loop
invariant-loop g l = rest_of (repeat g.R.Row.next_row (l.count - l.counter) (g.S.Source.left l.source)) ≡ rest_of (repeat g.R.Row.next_row l.fn.count (g.S.Source.left l.fn.source))
