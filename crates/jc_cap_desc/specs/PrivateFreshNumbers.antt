-- Private. Lists of numbers, each of which differs from those before it.
use Rattle.std.specs.Prelude.{◌≡◌, ℕ, Bool, true, not, ◌&&◌, List, [], ◌∷◌}
use Rattle.jc_base.specs.NumberSet.{has_number}
use Rattle.jc_cap_desc.specs.Across.{is_among}

-- each number is new: it isn't among those before it
abbrev pub are_fresh : List ℕ → List ℕ → Bool
are_fresh before [] = true
are_fresh before (n ∷ numbers) = not (is_among n before) && are_fresh (n ∷ before) numbers

-- numbers, each put in front of those before it
abbrev pub put_in : List ℕ → List ℕ → List ℕ
put_in before [] = before
put_in before (n ∷ numbers) = put_in (n ∷ before) numbers

-- a set has exactly these numbers
abbrev pub Holds : List ℕ → List ℕ → Type 0
Holds words numbers = (n : ℕ) → has_number words n ≡ is_among n numbers
