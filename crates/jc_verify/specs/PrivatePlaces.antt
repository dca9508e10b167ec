-- Private. The places of a method that control flow enters by a branch or a handler, and what they hold during
-- inference.
use Rattle.std.specs.Prelude.{◌≡◌, ◌⊎◌, ◌<◌, ℕ, suc, ◌+◌, Bool, true, false, List, [], ◌∷◌, length, None, Some}
use Rattle.std.specs.Prelude.{slice_get}
use Rattle.std.specs.Option.{option_map_or}
use Rattle.jc_verify.specs.declared.place.Place.{Place}

-- how far a place may still rise: an empty one further than any value
abbrev pub left_of : {L : Type 0} → (L → ℕ) → ℕ → Place L → ℕ
left_of height most p = option_map_or height p.held (suc most)

-- a place holds a value above this one
pub record HoldsAbove {L : Type 0} (below : L → L → Bool) (p : Place L) (x : L) : Type 0 where
  pub value : L
  pub held : p.held ≡ Some value
  pub above : below x value ≡ true

-- what a place holds lies below a value
abbrev pub IsHeldBelow : {L : Type 0} → (L → L → Bool) → Place L → L → Type 0
IsHeldBelow {L} below p z = (x : L) → p.held ≡ Some x → below x z ≡ true

-- a place took in a value: it holds the value if it held nothing, and otherwise its join with what it held
pub data IsTakenIn {L : Type 0} (below : L → L → Bool) (before after : Place L) (x : L) : Type 0 where
  put : before.held ≡ None → after.held ≡ Some x → IsTakenIn below before after x
  joined : (y z : L) → before.held ≡ Some y → after.held ≡ Some z → below y z ≡ true → below x z ≡ true
      → ((u : L) → below y u ≡ true → below x u ≡ true → below z u ≡ true) → IsTakenIn below before after x

-- a place holds a value whose shape differs from another's
pub record IsUnlike {L : Type 0} (fits : L → L → Bool) (p : Place L) (x : L) : Type 0 where
  pub value : L
  pub held : p.held ≡ Some value
  pub unlike : fits value x ≡ false

-- a place was raised: it has changed, what it held lies below what it holds, and it may rise less far
pub record IsRaised {L : Type 0} (below : L → L → Bool) (height : L → ℕ) (most : ℕ)
    (before after : Place L) : Type 0 where
  pub same : after.pc ≡ before.pc
  pub changed : after.changed ≡ true
  pub above : (x : L) → before.held ≡ Some x → HoldsAbove below after x
  pub less : left_of height most after < left_of height most before

-- a place is as it was, or was raised
abbrev pub IsStep : {L : Type 0} → (L → L → Bool) → (L → ℕ) → ℕ → Place L → Place L → Type 0
IsStep below height most before after = (after ≡ before) ⊎ IsRaised below height most before after

-- each place is as it was, or was raised
pub record AreSteps {L : Type 0} (below : L → L → Bool) (height : L → ℕ) (most : ℕ)
    (before after : List (Place L)) : Type 0 where
  pub len : length after ≡ length before
  pub each : (n : ℕ) (p q : Place L) → slice_get before n ≡ Some p → slice_get after n ≡ Some q
      → IsStep below height most p q

-- how far all places may still rise
abbrev pub all_left : {L : Type 0} → (L → ℕ) → ℕ → List (Place L) → ℕ
all_left height most [] = 0
all_left height most (p ∷ ps) = left_of height most p + all_left height most ps
