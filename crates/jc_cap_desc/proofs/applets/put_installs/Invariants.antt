use Rattle.std.proofs.Common.{◌≡◌, ◌||◌, ℕ, length}
use Rattle.jc_base.specs.NumberSet.{has_number}
use Rattle.jc_cap_desc.specs.PrivateApplets.{installs_at}
use Rattle.jc_cap_desc.specs.PrivateTypes.{IndexesTypes, PlacedTypes}
use Rattle.jc_cap_desc.proofs.applets.put_installs.Given as goal

-- what is in the set, or installs among what is left
abbrev pub invariant-loop-method : goal.invariant-loop-method
invariant-loop-method l =
    (types : PlacedTypes) → IndexesTypes l.index types
    → (n : ℕ) → (has_number l.set n || installs_at types l.left n) ≡ (has_number l.initial.set n || installs_at types l.methods n)

abbrev pub decreases-loop-method : goal.decreases-loop-method
decreases-loop-method l = length l.left
