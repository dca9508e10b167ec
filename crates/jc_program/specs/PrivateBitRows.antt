-- Private. Rows of bits that are merged until each has all numbers of the rows above it.
use Rattle.std.specs.Prelude.{◌≡◌, ℕ, ◌+◌, ◌<◌, ◌≤◌, ◌==◌, Bool, true, false, List, [], ◌∷◌, slice_get, unwrap_or}
use Rattle.std.specs.List.{list_any}
use Rattle.jc_program.specs.PrivateBitRow.{most_bits, unset}
use Rattle.jc_program.specs.Supertypes.{is_listed}

-- whether a number is among others
abbrev pub has_number : ℕ → List ℕ → Bool
has_number number numbers = list_any (λ n. n == number) numbers

-- whether one of the rows with these numbers has a number
abbrev pub is_any_listed : List (List ℕ) → List ℕ → ℕ → Bool
is_any_listed rows numbers m = list_any (λ n. is_listed rows n m) numbers

-- how many numbers the rows don't have, summed over the rows
abbrev pub unset_in : List (List ℕ) → ℕ
unset_in [] = 0
unset_in (row ∷ rows) = unset row most_bits + unset_in rows

-- the row `above` is right above the row `n`: for the row at a place, and for `count` rows from `first` on
abbrev pub IsOneAbove : ℕ → List ℕ → ℕ → ℕ → Type 0
IsOneAbove place numbers n above = (n ≡ place) × (has_number above numbers ≡ true)

abbrev pub IsRightAbove : ℕ → ℕ → List (List ℕ) → ℕ → ℕ → Type 0
IsRightAbove first count lists n above =
    (k : ℕ) × (k < count) × (n ≡ first + k) × (has_number above (unwrap_or (slice_get lists k) []) ≡ true)

-- each row got the numbers of the rows right above it; `changed` says whether one of them is new
pub record ArePassed (Above : ℕ → ℕ → Type 0) (old new : List (List ℕ)) (changed : Bool) : Type 0 where
  pub kept : (n m : ℕ) → is_listed old n m ≡ true → is_listed new n m ≡ true
  pub same : changed ≡ false → (n m : ℕ) → is_listed new n m ≡ is_listed old n m
  pub most : unset_in new ≤ unset_in old
  pub fewer : changed ≡ true → unset_in new < unset_in old
  pub closed : changed ≡ false → (n above m : ℕ) → Above n above → is_listed new above m ≡ true
      → is_listed new n m ≡ true
  pub sound : (fits : ℕ → ℕ → Bool)
      → ((n above m : ℕ) → Above n above → fits above m ≡ true → fits n m ≡ true)
      → ((n m : ℕ) → is_listed old n m ≡ true → fits n m ≡ true)
      → (n m : ℕ) → is_listed new n m ≡ true → fits n m ≡ true

-- rows got numbers from rows above them, and no others
pub record AreRisen (Above : ℕ → ℕ → Type 0) (old new : List (List ℕ)) : Type 0 where
  pub kept : (n m : ℕ) → is_listed old n m ≡ true → is_listed new n m ≡ true
  pub sound : (fits : ℕ → ℕ → Bool)
      → ((n above m : ℕ) → Above n above → fits above m ≡ true → fits n m ≡ true)
      → ((n m : ℕ) → is_listed old n m ≡ true → fits n m ≡ true)
      → (n m : ℕ) → is_listed new n m ≡ true → fits n m ≡ true

-- and each row has all numbers of the rows right above it
pub record AreSettled (Above : ℕ → ℕ → Type 0) (old new : List (List ℕ)) : Type 0 where
  pub risen : AreRisen Above old new
  pub closed : (n above m : ℕ) → Above n above → is_listed new above m ≡ true → is_listed new n m ≡ true
