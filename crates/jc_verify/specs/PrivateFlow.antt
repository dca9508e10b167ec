-- Private. What the verifier knows while it follows control flow through a method: what places hold, and from which pcs
-- control flow is closed: the places that it leads to hold what flows there.
use Rattle.std.specs.Prelude.{◌≡◌, ◌≢◌, ℕ, ◌+◌, ◌*◌, ◌<◌, ◌≤◌, Bool, true, false, List, length, Option, Some, None, Ok}
use Rattle.std.specs.Prelude.{⊤, slice_get, slice_index_or}
use Rattle.std.specs.List.{AllByRecursion}
use Rattle.std.specs.Option.{option_and_then, option_map}
use Rattle.jc_cap_desc.specs.Shape.{Shape}
use Rattle.jc_classes.specs.Subtype.{IsClassLattice, classes_above, common_class, is_class_below}
use Rattle.jc_classes.specs.Walk.{most_classes}
use Rattle.jc_code.specs.Listing.{ListingLaws, PlacedInstr}
use Rattle.jc_code.specs.Targets.{targets_of, falls_of}
use Rattle.jc_code.specs.declared.instr.Instr.{Instr}
use Rattle.jc_code.specs.declared.instr.Operation.{Operation}
use Rattle.jc_effects.specs.Laws.{IsMonotone}
use Rattle.jc_link.specs.Linked.{Linked}
use Rattle.jc_types.specs.State.{StateWithRoom, Types, height_of_types, types_below}
use Rattle.jc_check.specs.Method.{CheckedMethod, entry_of}
use Rattle.jc_check.specs.Package.{package_rules}
use Rattle.jc_check.specs.Rules.{Rules}
use Rattle.jc_check.specs.Typing.{BranchLeads, HandlerLeads, HasShape, IsFine, Leads, Typing}
use Rattle.jc_verify.specs.PrivatePlaces.{AreSteps, all_left}
use Rattle.jc_verify.specs.Visits.{IsDepth}
use Rattle.jc_verify.specs.declared.place.Place.{Place}

abbrev pub Places : Type 0
Places = List (Place StateWithRoom)

-- the number of the place at a pc, from a table; past its end there is none
abbrev pub number_at : List (Option ℕ) → ℕ → Option ℕ
number_at numbers pc = slice_index_or numbers pc None

-- the types that a place holds
abbrev pub types_held : Place StateWithRoom → Option Types
types_held p = option_map (λ s. s.types) p.held

-- what is held at a pc
abbrev pub held_at : List (Option ℕ) → Places → Typing
held_at numbers places pc = option_and_then types_held (option_and_then (slice_get places) (number_at numbers pc))

-- the table numbers the places
pub record IsNumbered (numbers : List (Option ℕ)) (places : Places) : Type 0 where
  pub within : (pc n : ℕ) → number_at numbers pc ≡ Some n → n < length places
  pub known : (n : ℕ) (p : Place StateWithRoom) → slice_get places n ≡ Some p → number_at numbers p.pc ≡ Some n
  pub found : (pc n : ℕ) (p : Place StateWithRoom) → number_at numbers pc ≡ Some n
      → slice_get places n ≡ Some p → p.pc ≡ pc

-- what places hold has the method's shape
abbrev pub AreShaped : CheckedMethod → Places → Type 0
AreShaped m places =
    (n : ℕ) (p : Place StateWithRoom) (s : StateWithRoom) → slice_get places n ≡ Some p → p.held ≡ Some s
    → HasShape m s.types

-- a working state has as many locals as the method, and room for its maximum of operands
pub record HasRoom (m : CheckedMethod) (s : StateWithRoom) : Type 0 where
  pub locals : length s.types.locals ≡ length m.arguments + m.max_locals
  pub room : s.room ≡ m.max_stack

-- the laws of types, code and effects in a linked package
pub record HasLaws (l : Linked) : Type 0 where
  pub itself : (s : Types) → types_below (is_class_below l.world) s s ≡ true
  pub through : (s t u : Types) → types_below (is_class_below l.world) s t ≡ true
      → types_below (is_class_below l.world) t u ≡ true → types_below (is_class_below l.world) s u ≡ true
  pub listing : ListingLaws (package_rules l).decoder
  pub classes : IsClassLattice (is_class_below l.world) (common_class l.world) (classes_above l.world) most_classes
  pub monotone : (m : CheckedMethod) (operation : Operation)
      → IsMonotone (is_class_below l.world) ((package_rules l).effect m.max_stack m.returned operation)
  pub bound : (s : Types) → height_of_types (classes_above l.world) most_classes s
      ≤ (length s.locals + length s.operands) * (3 + most_classes)
  pub falls : (depth : ℕ) → IsDepth l.world depth → (s t : Types)
      → types_below (is_class_below l.world) s t ≡ true → s ≢ t
      → height_of_types (classes_above l.world) depth t < height_of_types (classes_above l.world) depth s
  pub within : (depth : ℕ) → IsDepth l.world depth → (s : Types)
      → height_of_types (classes_above l.world) depth s ≤ (length s.locals + length s.operands) * (3 + depth)

-- places rose: what was held lies below what is held now
pub record Risen (l : Linked) (m : CheckedMethod) (numbers : List (Option ℕ)) (before after : Places) : Type 0 where
  pub rises : (pc : ℕ) (s : Types) → held_at numbers before pc ≡ Some s
      → Leads (package_rules l) (held_at numbers after) s pc
  pub numbered : IsNumbered numbers before → IsNumbered numbers after
  pub shaped : AreShaped m before → AreShaped m after

-- the order of states, and the height of a state, in a world
abbrev pub below_in : List Shape → StateWithRoom → StateWithRoom → Bool
below_in world s t = types_below (is_class_below world) s.types t.types

abbrev pub height_in : List Shape → StateWithRoom → ℕ
height_in world s = height_of_types (classes_above world) most_classes s.types

-- no state of the method's shape is higher
abbrev pub most_height : CheckedMethod → ℕ
most_height m = (length m.arguments + m.max_locals + m.max_stack) * (3 + most_classes)

-- each place is as it was, or was raised
abbrev pub AreRaised : Linked → CheckedMethod → Places → Places → Type 0
AreRaised l m before after = AreSteps (below_in l.world) (height_in l.world) (most_height m) before after

-- places took in what flowed there
pub record Grown (l : Linked) (m : CheckedMethod) (numbers : List (Option ℕ)) (before after : Places) : Type 0 where
  pub risen : Risen l m numbers before after
  pub steps : AreRaised l m before after

-- how far all places may still rise
abbrev pub left_in : Linked → CheckedMethod → Places → ℕ
left_in l m places = all_left (height_in l.world) (most_height m) places

-- an instruction at a pc
abbrev pub placed : ℕ → Instr → PlacedInstr
placed pc instr = record { pc = pc; instr = instr }

-- what places hold lies below the states of a typing
abbrev pub IsUnder : Linked → List (Option ℕ) → Places → Typing → Type 0
IsUnder l numbers places typing =
    (pc : ℕ) (s : Types) → held_at numbers places pc ≡ Some s → Leads (package_rules l) typing s pc

-- a typing of a method by decoding: the entry state lies below its state at pc 0, and an instruction that decodes at a
-- pc with a state is fine with that state
pub record IsUpper (l : Linked) (m : CheckedMethod) (typing : Typing) : Type 0 where
  pub entry : Leads (package_rules l) typing (entry_of m) 0
  pub each : (pc : ℕ) (t : Types) (instr : Instr) → typing pc ≡ Some t → (package_rules l).decoder m.code pc ≡ Ok instr
      → IsFine (package_rules l) m typing (placed pc instr) t

-- an instruction has an effect, and the typing lies above what it passes to handlers and branch targets
pub record IsVisited (rules : Rules) (m : CheckedMethod) (typing : Typing) (x : PlacedInstr) (s after : Types)
    : Type 0 where
  pub handled : AllByRecursion (HandlerLeads rules typing x.pc s) m.handlers
  pub effect : rules.effect m.max_stack m.returned x.instr.operation s ≡ Ok after
  pub branches : AllByRecursion (BranchLeads rules typing after) (targets_of x.pc x.instr.operation)

-- control flow was followed from a pc with these types up to places, and the typing lies above what flows there
pub data IsClosed (rules : Rules) (m : CheckedMethod) (numbers : List (Option ℕ)) (typing : Typing)
    : ℕ → Types → Type 0 where
  ends : (x : PlacedInstr) (s after : Types) → rules.decoder m.code x.pc ≡ Ok x.instr
      → IsVisited rules m typing x s after → falls_of x.instr.operation ≡ false
      → IsClosed rules m numbers typing x.pc s
  meets : (x : PlacedInstr) (s after : Types) → rules.decoder m.code x.pc ≡ Ok x.instr
      → IsVisited rules m typing x s after → Leads rules typing after x.instr.next_pc
      → IsClosed rules m numbers typing x.pc s
  goes_on : (x : PlacedInstr) (s after : Types) → rules.decoder m.code x.pc ≡ Ok x.instr
      → IsVisited rules m typing x s after → x.instr.next_pc < length m.code
      → number_at numbers x.instr.next_pc ≡ None → IsClosed rules m numbers typing x.instr.next_pc after
      → IsClosed rules m numbers typing x.pc s

-- the same, if control flow continues at the pc
abbrev pub ClosedIf : Bool → Rules → CheckedMethod → List (Option ℕ) → Typing → ℕ → Types → Type 0
ClosedIf true rules m numbers typing pc t = IsClosed rules m numbers typing pc t
ClosedIf false rules m numbers typing pc t = ⊤

-- control flow continues at a pc of the code without a place; or the typing's state there lies above the types
abbrev pub FallsIf : Bool → Rules → CheckedMethod → List (Option ℕ) → Typing → ℕ → Types → Type 0
FallsIf true rules m numbers typing pc t = (pc < length m.code) × (number_at numbers pc ≡ None)
FallsIf false rules m numbers typing pc t = Leads rules typing t pc
