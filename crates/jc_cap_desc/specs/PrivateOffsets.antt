-- Private. Sets of the offsets of rows that pass a test.
use Rattle.std.specs.Prelude.{◌≡◌, ℕ, ◌<◌, ◌==◌, ◌&&◌, ◌||◌, Bool, false, not, List}
use Rattle.std.specs.Option.{option_map_or}
use Rattle.jc_base.specs.NumberSet.{has_number}
use Rattle.jc_base.specs.PlacedRows.{row_at}
use Rattle.jc_base.specs.declared.placed_rows.Placed.{Placed}

-- whether a row begins at an offset, and passes
abbrev pub passes_at : {A : Type 0} → (A → Bool) → List (Placed A) → ℕ → Bool
passes_at test rows n = option_map_or test (row_at n rows) false

-- an offset is in the set, or is new and begins a passing row among those left, if and only if a row passes at it
abbrev pub PassedSoFar : {A : Type 0} → (A → Bool) → List (Placed A) → List ℕ → List ℕ → List (Placed A) → Type 0
PassedSoFar test rows seen passed left =
    (n : ℕ) → n < 65536
    → (has_number passed n || (not (has_number seen n) && passes_at test left n)) ≡ passes_at test rows n

-- a number was put in
abbrev pub HasPut : ℕ → List ℕ → List ℕ → Type 0
HasPut offset old new = (n : ℕ) → n < 65536 → has_number new n ≡ (n == offset || has_number old n)

-- a new offset was put in if the row passes
abbrev pub HasMarked : List ℕ → ℕ → Bool → List ℕ → List ℕ → Type 0
HasMarked seen offset passes old new =
    (n : ℕ) → n < 65536 → has_number new n ≡ ((n == offset && (passes && not (has_number seen n))) || has_number old n)
