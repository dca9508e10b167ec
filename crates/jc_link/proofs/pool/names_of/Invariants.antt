use Rattle.std.proofs.Common.{◌≡◌, ◌-◌, false, slice_get, take}
use Rattle.std.specs.List.{find, range_with_len}
use Rattle.std.specs.Option.{option_map_or}
use Rattle.jc_link.specs.Pool.{is_unresolved}
use Rattle.jc_link.specs.PrivateNames.{AreNamed}
use Rattle.jc_link.proofs.pool.names_of.Given as goal

-- the names of the entries before it, and the first that names nothing is among those that are left
abbrev pub invariant-loop-index : goal.invariant-loop-index
invariant-loop-index l = record {
  named : AreNamed l.table l.home (take l.index l.linked.body.pool) l.names.items;
  first : find (λ i. option_map_or (is_unresolved l.table l.home) (slice_get l.linked.body.pool i) false)
      (range_with_len 0 l.count)
      ≡ find (λ i. option_map_or (is_unresolved l.table l.home) (slice_get l.linked.body.pool i) false)
      (range_with_len l.index (l.count - l.index));
}
