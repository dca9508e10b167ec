-- Laws of all effects: what a state allows, each state below it allows, with a result below; they keep the shape of
-- states; and they introduce no unknown classes.
use Rattle.std.specs.Prelude.{◌≡◌, ℕ, ◌≤◌, Bool, true, Some, Result, Ok, length, slice_get}
use Rattle.jc_base.specs.declared.reason.Reason.{Reason}
use Rattle.jc_names.specs.declared.name.ClassName.{ClassName}
use Rattle.jc_link.specs.KnownTypes.{NameClasses, is_known_target}
use Rattle.jc_link.specs.declared.target.PoolTarget.{PoolTarget}
use Rattle.jc_types.specs.State.{Types, types_below}
use Rattle.jc_effects.specs.Objects.{Setting}

-- a step that each state below allows too, with a result below
abbrev pub IsMonotone : (ClassName → ClassName → Bool) → (Types → Result Types Reason) → Type 0
IsMonotone below step =
    (s t after_t : Types) → types_below below s t ≡ true → step t ≡ Ok after_t
    → (after_s : Types) × (step s ≡ Ok after_s) × (types_below below after_s after_t ≡ true)

-- as many locals as before, and no more operands than the method's maximum if there were no more before
pub record StaysWithin (most : ℕ) (before after : Types) : Type 0 where
  pub locals : length after.locals ≡ length before.locals
  pub operands : length before.operands ≤ most → length after.operands ≤ most

-- a step that keeps within `most` operands
abbrev pub KeepsShape : ℕ → (Types → Result Types Reason) → Type 0
KeepsShape most step = (s t : Types) → step s ≡ Ok t → StaysWithin most s t

-- the types in the world of a setting name its classes, and so do the targets of its pool
pub record NamesKnown (set : Setting) : Type 0 where
  pub world : NameClasses set.world
  pub targets : (n : ℕ) (target : PoolTarget) → slice_get set.targets n ≡ Some target
      → is_known_target set.world target ≡ true
