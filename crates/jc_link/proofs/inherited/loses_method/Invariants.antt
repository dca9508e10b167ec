use Rattle.std.proofs.Common.{◌≡◌, ◌-◌}
use Rattle.std.specs.List.{list_any, range_with_len}
use Rattle.jc_link.specs.Inherited.{loses_at, loses_method}
use Rattle.jc_link.proofs.inherited.loses_method.Given as goal

abbrev pub invariant-loop-token : goal.invariant-loop-token
invariant-loop-token l = list_any (loses_at l.class.world l.class.home l.class.class) (range_with_len l.token (256 - l.token)) ≡ loses_method l.class.world l.class.home l.class.class
