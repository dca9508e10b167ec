use Rattle.std.proofs.Common.{◌≡◌, ◌+◌, ◌-◌}
use Rattle.std.specs.List.{list_any, range_with_len}
use Rattle.jc_link.specs.Inherited.{leaves_at, leaves_package_abstract}
use Rattle.jc_link.proofs.inherited.leaves_package_abstract.Given as goal

abbrev pub invariant-loop-place : goal.invariant-loop-place
invariant-loop-place l =
    list_any (leaves_at l.table l.fn.class l.asker) (range_with_len (128 + l.place) (256 - (128 + l.place)))
    ≡ leaves_package_abstract l.table l.fn.class l.asker
