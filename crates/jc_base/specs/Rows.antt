-- A given number of consecutive rows.
use Rattle.std.specs.Prelude.{◌≡◌, ℕ, zero, suc, ◌+◌, ◌≤◌, List, [], ◌∷◌, length, take, drop, Option, Some, None}
use Rattle.std.specs.Prelude.{nat_lt, Result, Ok, if◌then◌else◌}
use Rattle.jc_base.specs.Cursor.{Read}
use Rattle.jc_base.specs.Results.{◌>>=◌}

-- a given number of rows, each read after the one before it
unfoldable pub repeat : {A E : Type 0} → (List ℕ → Result (Read A) E) → ℕ → List ℕ → Result (Read (List A)) E
repeat next_row zero bytes = Ok (record { value = []; rest = bytes })
repeat next_row (suc n) bytes = do
  first ← next_row bytes
  more ← repeat next_row n first.rest
  Ok (record { value = first.value ∷ more.value; rest = more.rest })

-- a given number of rows from an index on, or nothing if they run past the last
abbrev pub part : {A : Type 0} → ℕ → ℕ → List A → Option (List A)
part first count rows = if nat_lt (length rows) (first + count) then None else Some (take count (drop first rows))

-- each row takes this number of bytes
abbrev pub HasSize : {A E : Type 0} → ℕ → (List ℕ → Result (Read A) E) → Type 0
HasSize {A = A} size next_row =
    (bytes : List ℕ) (x : Read A) → next_row bytes ≡ Ok x → (x.rest ≡ drop size bytes) × (size ≤ length bytes)
