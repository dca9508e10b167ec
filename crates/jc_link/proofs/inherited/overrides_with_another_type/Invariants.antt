use Rattle.std.proofs.Common.{◌≡◌, ◌-◌}
use Rattle.std.specs.List.{list_any, range_with_len}
use Rattle.jc_link.specs.Inherited.{retypes_at, overrides_with_another_type}
use Rattle.jc_link.proofs.inherited.overrides_with_another_type.Given as goal

abbrev pub invariant-loop-token : goal.invariant-loop-token
invariant-loop-token l = list_any (retypes_at l.class.world l.class.home l.class.class) (range_with_len l.token (256 - l.token)) ≡ overrides_with_another_type l.class.world l.class.home l.class.class
