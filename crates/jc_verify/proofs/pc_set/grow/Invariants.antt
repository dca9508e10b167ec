use Rattle.std.proofs.Common.{◌≡◌, ◌+◌, ◌-◌, ℕ, length}
use Rattle.jc_base.specs.NumberSet.{has_number}
use Rattle.jc_verify.proofs.pc_set.grow.Given as goal

abbrev pub invariant-loop-words : goal.invariant-loop-words
invariant-loop-words l = (n : ℕ) → has_number l.words.items n ≡ has_number l.initial.words.items n

abbrev pub decreases-loop-words : goal.decreases-loop-words
decreases-loop-words l = l.index + 1 - length l.words.items
