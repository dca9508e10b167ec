-- Accesses by which an object may change.
use Rattle.std.proofs.Common.{◌≡◌, ◌⊎◌, ℕ, ◌==◌, ◌&&◌, ◌||◌, Bool, true, List, arith}
use Rattle.std.specs.List.{list_any}
use Rattle.jc_machine.specs.Guarded.{may_change}
use Rattle.jc_machine.specs.Machine.{Touch}

abbrev pub is_change_of : ℕ → Touch → Bool
is_change_of number t = t.object == number && may_change t.access

-- such an access to an object is listed
abbrev pub is_changed : List Touch → ℕ → Bool
is_changed touches number = list_any (is_change_of number) touches

pub either_is : (a b : Bool) → (a || b) ≡ true → (a ≡ true) ⊎ (b ≡ true)
either_is a b h1 = grind arith
