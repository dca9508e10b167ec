use Rattle.std.proofs.Common.{◌≡◌, ◌-◌}
use Rattle.std.specs.List.{find, range_with_len}
use Rattle.jc_link.specs.Pool.{is_mistyped_at}
use Rattle.jc_link.proofs.stated.first_mistyped_of.Given as goal

-- the first is among those that are left
abbrev pub invariant-loop-index : goal.invariant-loop-index
invariant-loop-index l =
    find (is_mistyped_at l.table l.home l.linked.body) (range_with_len 0 l.count)
    ≡ find (is_mistyped_at l.table l.home l.linked.body) (range_with_len l.index (l.count - l.index))
