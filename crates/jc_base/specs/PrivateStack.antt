-- Private. How the operands are moved in their slice, the bottom one first.
use Rattle.std.specs.Prelude.{ℕ, ◌-◌, List, ◌++◌, length, take, drop}

-- moves the last `count` elements to the front
abbrev pub turned : {A : Type 0} → ℕ → List A → List A
turned count window = drop (length window - count) window ++ take (length window - count) window
