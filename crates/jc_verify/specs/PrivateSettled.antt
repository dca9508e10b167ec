-- Private. What is known of the places of a method while control flow is followed from those that have changed.
use Rattle.jc_base.specs.NumberSet.{has_number}
use Rattle.std.specs.Prelude.{◌≡◌, ◌≢◌, ◌⊎◌, ℕ, ◌<◌, ◌≤◌, Bool, true, false, List, length, Option, Some, None}
use Rattle.std.specs.Prelude.{slice_get}
use Rattle.jc_link.specs.Linked.{Linked}
use Rattle.jc_types.specs.State.{StateWithRoom, Types}
use Rattle.jc_check.specs.Method.{CheckedMethod, entry_of}
use Rattle.jc_check.specs.Package.{package_rules}
use Rattle.jc_check.specs.Typing.{Typing}
use Rattle.jc_verify.specs.PrivateCarrier.{HasPlace}
use Rattle.jc_verify.specs.PrivateFlow.{AreShaped, ClosedIf, FallsIf, IsClosed, IsNumbered, IsUnder, IsUpper, Places}
use Rattle.jc_verify.specs.PrivateFlow.{Risen, held_at, left_in, number_at, types_held}
use Rattle.jc_verify.specs.PrivateTold.{AreReached}
use Rattle.jc_verify.specs.declared.flow.MethodFlow.{MethodFlow}
use Rattle.jc_verify.specs.declared.place.Place.{Place}

-- control flow was followed from each place that hasn't changed since
abbrev pub IsSettled : Linked → CheckedMethod → List (Option ℕ) → Places → Type 0
IsSettled l m numbers places =
    (n : ℕ) (p : Place StateWithRoom) (t : Types) → slice_get places n ≡ Some p → p.changed ≡ false
    → types_held p ≡ Some t → IsClosed (package_rules l) m numbers (held_at numbers places) p.pc t

-- control flow was followed from each place that holds types
abbrev pub AreAllClosed : Linked → CheckedMethod → List (Option ℕ) → Places → Type 0
AreAllClosed l m numbers places =
    (n : ℕ) (p : Place StateWithRoom) (t : Types) → slice_get places n ≡ Some p → types_held p ≡ Some t
    → IsClosed (package_rules l) m numbers (held_at numbers places) p.pc t

-- the place at pc 0 took in the entry state, or control flow was followed from there
pub record IsEntryMet (l : Linked) (m : CheckedMethod) (numbers : List (Option ℕ)) (typing : Typing) : Type 0 where
  pub on : Bool
  pub falls : FallsIf on (package_rules l) m numbers typing 0 (entry_of m)
  pub closed : ClosedIf on (package_rules l) m numbers typing 0 (entry_of m)

-- a place, marked as unchanged
abbrev pub settled_place : Place StateWithRoom → Place StateWithRoom
settled_place p = record { pc = p.pc; held = p.held; changed = false }

-- control flow was followed from the place with a number: each changed place is another one that had changed before, or
-- what is left fell
pub record IsFollowed (l : Linked) (m : CheckedMethod) (numbers : List (Option ℕ)) (number : ℕ)
    (before after : Places) : Type 0 where
  pub risen : Risen l m numbers before after
  pub under : (typing : Typing) → IsUpper l m typing → IsUnder l numbers before typing → IsUnder l numbers after typing
  pub reached : AreReached l m before → AreReached l m after
  pub settled : IsSettled l m numbers before → IsSettled l m numbers after
  pub left : left_in l m after ≤ left_in l m before
  pub flags : (n : ℕ) (p : Place StateWithRoom) → slice_get after n ≡ Some p → p.changed ≡ true
      → (left_in l m after < left_in l m before)
      ⊎ ((n ≢ number) × (q : Place StateWithRoom) × (slice_get before n ≡ Some q) × (q.changed ≡ true))

-- control flow was followed from the changed places with these numbers, from `first` to before `end`: if one has
-- changed again, what is left fell
pub record IsSwept (l : Linked) (m : CheckedMethod) (numbers : List (Option ℕ)) (first end : ℕ)
    (before after : Places) : Type 0 where
  pub risen : Risen l m numbers before after
  pub under : (typing : Typing) → IsUpper l m typing → IsUnder l numbers before typing → IsUnder l numbers after typing
  pub reached : AreReached l m before → AreReached l m after
  pub settled : IsSettled l m numbers before → IsSettled l m numbers after
  pub left : left_in l m after ≤ left_in l m before
  pub flags : (n : ℕ) (p : Place StateWithRoom) → first ≤ n → n < end → slice_get after n ≡ Some p → p.changed ≡ true
      → left_in l m after < left_in l m before

-- control flow was followed from each place that holds types
pub record HasSettled (f : MethodFlow) (before after : Places) : Type 0 where
  pub risen : Risen f.linked.now f.method.now f.numbers.now before after
  pub under : (typing : Typing) → IsUpper f.linked.now f.method.now typing
      → IsUnder f.linked.now f.numbers.now before typing → IsUnder f.linked.now f.numbers.now after typing
  pub reached : AreReached f.linked.now f.method.now after
  pub closed : AreAllClosed f.linked.now f.method.now f.numbers.now after

-- numbers ascend with the pcs
abbrev pub AreAscending : List (Option ℕ) → Type 0
AreAscending numbers = (pc at j k : ℕ) → number_at numbers pc ≡ Some j → number_at numbers at ≡ Some k → j < k → pc < at

-- the pcs of a set below this one are numbered as places, which hold nothing
pub record AreNumbered (entries : List ℕ) (pc : ℕ) (numbers : List (Option ℕ)) (places : Places) : Type 0 where
  pub sized : length numbers ≡ pc
  pub few : length places ≤ pc
  pub numbered : IsNumbered numbers places
  pub empty : (k : ℕ) (p : Place StateWithRoom) → slice_get places k ≡ Some p → p.held ≡ None
  pub entered : (k : ℕ) (p : Place StateWithRoom) → slice_get places k ≡ Some p → has_number entries p.pc ≡ true
  pub all : (at : ℕ) → at < pc → has_number entries at ≡ true → HasPlace numbers at
  pub ascend : AreAscending numbers

-- control flow was followed from the entry, and from each place that holds types
pub record IsFilled (l : Linked) (m : CheckedMethod) (numbers : List (Option ℕ)) (before after : Places) : Type 0 where
  pub risen : Risen l m numbers before after
  pub under : (typing : Typing) → IsUpper l m typing → IsUnder l numbers after typing
  pub reached : AreReached l m after
  pub numbered : IsNumbered numbers after
  pub shaped : AreShaped m after
  pub entry : IsEntryMet l m numbers (held_at numbers after)
  pub closed : AreAllClosed l m numbers after
