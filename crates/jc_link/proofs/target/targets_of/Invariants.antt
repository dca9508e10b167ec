use Rattle.std.proofs.Common.{◌≡◌, map, Some, take}
use Rattle.jc_link.specs.Target.{target_of}
use Rattle.jc_link.proofs.target.targets_of.Given as goal

-- the targets of the names before it
abbrev pub invariant-loop-named : goal.invariant-loop-named
invariant-loop-named l = map Some l.targets.items ≡ map (target_of l.table) (take l.named-index l.names)
