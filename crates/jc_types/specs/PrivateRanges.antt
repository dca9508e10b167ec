-- Private. Locals that two states have in common outside of a range.
use Rattle.std.specs.Prelude.{◌≡◌, ◌≤◌, List, length, take, drop}
use Rattle.jc_types.specs.declared.ranges.LocalRange.{LocalRange}
use Rattle.jc_types.specs.declared.ty.Ty.{Ty}

-- as many types in both, equal before a range and after it
pub record AgreeOutside (range : LocalRange) (old new : List Ty) : Type 0 where
  pub count : length old ≡ length new
  pub ordered : range.first ≤ range.behind
  pub within : range.behind ≤ length new
  pub before : take range.first old ≡ take range.first new
  pub after : drop range.behind old ≡ drop range.behind new
