use Rattle.std.proofs.Common.{◌≡◌, length}
use Rattle.std.specs.List.{list_all}
use Rattle.jc_cap_desc.specs.PrivateRecordRows.{is_in}
use Rattle.jc_cap_desc.proofs.across.records_are_in.Given as goal

-- what is left says the same of all
abbrev pub invariant-loop-placed : goal.invariant-loop-placed
invariant-loop-placed l = list_all (λ p. is_in l.set p.offset) l.records ≡ list_all (λ p. is_in l.set p.offset) l.left

abbrev pub decreases-loop-placed : goal.decreases-loop-placed
decreases-loop-placed l = length l.left
