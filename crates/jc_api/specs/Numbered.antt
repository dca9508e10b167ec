-- Rows that are numbered from 1 on.
use Rattle.std.specs.Prelude.{ℕ, zero, suc, List, Option, None, slice_get, slice_set}

-- the row with a number
abbrev pub numbered : {A : Type 0} → List A → ℕ → Option A
numbered rows zero = None
numbered rows (suc n) = slice_get rows n

-- the rows with the row at a number replaced, if there is one
abbrev pub put : {A : Type 0} → List A → ℕ → A → List A
put rows zero row = rows
put rows (suc n) row = slice_set rows n row
