-- Consecutive rows up to the end of the bytes, each at an offset.
use Rattle.std.specs.Prelude.{◌≡◌, ℕ, zero, suc, ◌+◌, ◌-◌, ◌<◌, ◌==◌, List, [], ◌∷◌, length, drop, Option, Some, None}
use Rattle.std.specs.Prelude.{Result, Ok, if◌then◌else◌}
use Rattle.jc_base.specs.Cursor.{Read}
use Rattle.jc_base.specs.Results.{◌>>=◌}
use Rattle.jc_base.specs.declared.placed_rows.Placed.{Placed}

-- each row takes at least one byte
abbrev pub Shrinks : {A E : Type 0} → (List ℕ → Result (Read A) E) → Type 0
Shrinks {A = A} next_row = (bytes : List ℕ) (x : Read A) → next_row bytes ≡ Ok x → length x.rest < length bytes

-- and is read from the front: the end of the bytes is left
abbrev pub IsInFront : {A E : Type 0} → (List ℕ → Result (Read A) E) → Type 0
IsInFront {A = A} next_row =
    (bytes : List ℕ) (x : Read A) → next_row bytes ≡ Ok x → x.rest ≡ drop (length bytes - length x.rest) bytes

-- bytes read as rows, in at most the given number of steps; the bytes are the last of `total`, and offsets count from
-- the first of these
abbrev pub placed_in : {A E : Type 0} → (List ℕ → Result (Read A) E) → ℕ → ℕ → List ℕ → Result (List (Placed A)) E
placed_in next_row total steps [] = Ok []
placed_in next_row total zero (b ∷ bytes) = Ok []
placed_in next_row total (suc steps) (b ∷ bytes) = do
  first ← next_row (b ∷ bytes)
  more ← placed_in next_row total steps first.rest
  Ok (record { offset = total - length (b ∷ bytes); row = first.value } ∷ more)

-- the rows from an offset of bytes to their end; the steps suffice if each row takes at least one byte
unfoldable pub placed_rows : {A E : Type 0} → (List ℕ → Result (Read A) E) → ℕ → List ℕ → Result (List (Placed A)) E
placed_rows next_row first bytes = placed_in next_row (length bytes) (length bytes) (drop first bytes)

-- the bytes, the last of `total`, are exactly these rows: each begins where the one before it ends
abbrev pub ArePlaced : {A E : Type 0} → (List ℕ → Result (Read A) E) → ℕ → List ℕ → List (Placed A) → Type 0
ArePlaced next_row total bytes [] = bytes ≡ []
ArePlaced next_row total bytes (p ∷ rows) =
    (rest : List ℕ) × (p.offset + length bytes ≡ total) × (next_row bytes ≡ Ok (record { value = p.row; rest = rest }))
    × ArePlaced next_row total rest rows

-- the first row that begins at an offset
abbrev pub row_at : {A : Type 0} → ℕ → List (Placed A) → Option A
row_at offset [] = None
row_at offset (p ∷ rows) = if p.offset == offset then Some p.row else row_at offset rows

-- if there is a value, the answer is that value
abbrev pub IsThatOf : {A : Type 0} → Option A → Option A → Type 0
IsThatOf {A = A} there answer = (a : A) → there ≡ Some a → answer ≡ Some a
