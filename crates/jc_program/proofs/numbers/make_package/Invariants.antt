use Rattle.std.proofs.Common.{◌≡◌, ℕ, ◌+◌, ◌-◌, length}
use Rattle.jc_program.specs.PrivateLaid.{number_in}
use Rattle.jc_program.proofs.numbers.make_package.Given as goal

abbrev pub invariant-loop-alloc : goal.invariant-loop-alloc
invariant-loop-alloc l = (p i : ℕ) → number_in l.tables.items p i ≡ number_in l.initial.tables.items p i

abbrev pub decreases-loop-alloc : goal.decreases-loop-alloc
decreases-loop-alloc l = l.«package» + 1 - length l.tables.items
