-- The faults that inference reports for a method (Java Card Virtual Machine Specification, verification of CAP files:
-- data-flow analysis).
use Rattle.std.specs.Prelude.{◌≡◌, ◌≢◌, ℕ, ℤ, pos, ◌≤◌, true, false, List, [], length, Some, Result, Ok, Err, Contains}
use Rattle.std.specs.List.{AllByRecursion}
use Rattle.jc_base.specs.declared.reason.Reason.{Reason}
use Rattle.jc_base.specs.declared.reason.Reason.TheVariants.{CertMismatch, FallsOff, NoTarget}
use Rattle.jc_names.specs.declared.name.ClassName.{ClassName}
use Rattle.jc_code.specs.Listing.{IsListing, PlacedInstr, StopsAt, begins, placed_at}
use Rattle.jc_code.specs.Targets.{falls_of, targets_of}
use Rattle.jc_code.specs.declared.fault.CodeFault.{CodeFault}
use Rattle.jc_types.specs.State.{IsJoin, Types, has_shape_of}
use Rattle.jc_check.specs.Carried.{HandlerStands}
use Rattle.jc_check.specs.FirstFault.{fault_at, handlers_stand, reason_of}
use Rattle.jc_check.specs.Method.{CheckedHandler, CheckedMethod, caught_types, covers, entry_of}
use Rattle.jc_check.specs.Rules.{Rules}
use Rattle.jc_check.specs.declared.fault.Fault.{Fault}
use Rattle.jc_verify.specs.Live.{IsLive}

-- the state after an instruction of a method, or why it has none
abbrev pub effect_at : Rules → CheckedMethod → PlacedInstr → Types → Result Types Reason
effect_at rules m x s = rules.effect m.max_stack m.returned x.instr.operation s

-- the states that an instruction passes on, and their pcs: the state after it to the next pc and to branch targets; the
-- state before it, with the caught class, to the handlers that cover it
pub data Passes (rules : Rules) (m : CheckedMethod) (x : PlacedInstr) (s : Types) : ℕ → Types → Type 0 where
  falls : (t : Types) → effect_at rules m x s ≡ Ok t → falls_of x.instr.operation ≡ true
      → Passes rules m x s x.instr.next_pc t
  branches : (pc : ℕ) (t : Types) → effect_at rules m x s ≡ Ok t → Contains (targets_of x.pc x.instr.operation) (pos pc)
      → Passes rules m x s pc t
  catches : (h : CheckedHandler) (class : ClassName) → Contains m.handlers h → covers h x.pc ≡ true
      → h.caught ≡ Some class
      → Passes rules m x s h.goes_on (caught_types class s)

-- the states that flow to a pc: the entry state to pc 0; what an instruction passes on from a state that flows to it;
-- and the join of two states that flow to the same pc
pub data Flows (rules : Rules) (m : CheckedMethod) (listing : List PlacedInstr) : ℕ → Types → Type 0 where
  entry : Flows rules m listing 0 (entry_of m)
  passes : (x : PlacedInstr) (s : Types) (pc : ℕ) (t : Types) → placed_at listing x.pc ≡ Some x
      → Flows rules m listing x.pc s → Passes rules m x s pc t → Flows rules m listing pc t
  joins : (pc : ℕ) (s t u : Types) → Flows rules m listing pc s → Flows rules m listing pc t
      → IsJoin rules.below s t u → Flows rules m listing pc u

-- an instruction branches to a place at which none begins, or falls off the end of the code
pub data LeadsAstray (m : CheckedMethod) (listing : List PlacedInstr) (x : PlacedInstr) : Reason → Type 0 where
  no_target : (place : ℤ) → Contains (targets_of x.pc x.instr.operation) place
      → ((pc : ℕ) → place ≡ pos pc → begins listing pc ≡ false) → LeadsAstray m listing x NoTarget
  falls_off : falls_of x.instr.operation ≡ true → length m.code ≤ x.instr.next_pc → LeadsAstray m listing x FallsOff

-- no reachable instruction leads astray
abbrev pub GoesStraight : CheckedMethod → List PlacedInstr → Type 0
GoesStraight m listing =
    (x : PlacedInstr) (why : Reason) → placed_at listing x.pc ≡ Some x → IsLive m listing x.pc
    → LeadsAstray m listing x why → ⊥

-- control flow stops at an instruction, with a state that flows there
pub data IsStopped (rules : Rules) (m : CheckedMethod) (listing : List PlacedInstr) (x : PlacedInstr)
    : Reason → Type 0 where
  -- the instruction refuses the state
  no_effect : (s : Types) (reason : Reason) → Flows rules m listing x.pc s → effect_at rules m x s ≡ Err reason
      → IsStopped rules m listing x reason
  -- the instruction passes on a state whose shape differs from another state's that flows to the same pc
  unlike : (s : Types) (pc : ℕ) (t other : Types) → Flows rules m listing x.pc s → Passes rules m x s pc t
      → Flows rules m listing pc other → has_shape_of other t ≡ false → IsStopped rules m listing x CertMismatch
  -- a handler covers the instruction, and the operand stack has no room for what is caught
  no_room : (s : Types) (h : CheckedHandler) → Flows rules m listing x.pc s → Contains m.handlers h
      → covers h x.pc ≡ true → m.max_stack ≡ 0 → IsStopped rules m listing x CertMismatch

-- the faults of a method: it has no code; its code doesn't decode; else the first invalid handler; else a reachable
-- instruction that leads astray; if none does, an instruction at which control flow stops
pub data IsToldOf (rules : Rules) (m : CheckedMethod) : Fault → Type 0 where
  empty : m.code ≡ [] → IsToldOf rules m (fault_at 0 FallsOff)
  undecoded : (pc : ℕ) (why : CodeFault) → StopsAt rules.decoder m.code pc why
      → IsToldOf rules m (fault_at pc (reason_of why))
  handler : (listing : List PlacedInstr) (fault : Fault) → IsListing rules.decoder m.code listing → m.code ≢ []
      → handlers_stand listing m.handlers ≡ Err fault → IsToldOf rules m fault
  astray : (listing : List PlacedInstr) (x : PlacedInstr) (reason : Reason) → IsListing rules.decoder m.code listing
      → AllByRecursion (HandlerStands listing) m.handlers → placed_at listing x.pc ≡ Some x → IsLive m listing x.pc
      → LeadsAstray m listing x reason → IsToldOf rules m (fault_at x.pc reason)
  stopped : (listing : List PlacedInstr) (x : PlacedInstr) (reason : Reason) → IsListing rules.decoder m.code listing
      → AllByRecursion (HandlerStands listing) m.handlers → GoesStraight m listing → placed_at listing x.pc ≡ Some x
      → IsStopped rules m listing x reason → IsToldOf rules m (fault_at x.pc reason)
