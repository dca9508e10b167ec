use Rattle.std.proofs.Common.{◌≡◌, ◌&&◌, length}
use Rattle.std.specs.List.{list_all}
use Rattle.jc_cap_desc.specs.Across.{is_described, stands_inside}
use Rattle.jc_cap_desc.proofs.standing.with_methods.Given as goal

-- what is left says the same of all
abbrev pub invariant-loop-row : goal.invariant-loop-row
invariant-loop-row l = record {
  inside : (l.standing.inside && list_all (stands_inside l.methods) l.left)
      ≡ (l.fn.before.inside && list_all (stands_inside l.methods) l.rows);
  described : (l.standing.described && list_all (is_described l.methods) l.left)
      ≡ (l.fn.before.described && list_all (is_described l.methods) l.rows);
}

abbrev pub decreases-loop-row : goal.decreases-loop-row
decreases-loop-row l = length l.left
