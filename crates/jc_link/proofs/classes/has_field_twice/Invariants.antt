use Rattle.std.proofs.Common.{◌≡◌, not, length}
use Rattle.std.specs.List.{filter_map}
use Rattle.jc_cap_desc.specs.Across.{are_distinct}
use Rattle.jc_link.specs.Classes.{instance_token, has_field_twice}
use Rattle.jc_link.proofs.classes.has_field_twice.Given as goal

abbrev pub invariant-loop-first : goal.invariant-loop-first
invariant-loop-first l = not (are_distinct (filter_map instance_token l.rest)) ≡ has_field_twice l.found

abbrev pub decreases-loop-first : goal.decreases-loop-first
decreases-loop-first l = length l.rest
