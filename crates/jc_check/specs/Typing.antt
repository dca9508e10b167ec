-- Well-typed methods (Java Card Virtual Machine Specification, verification of CAP files: the state of the locals and
-- of the operand stack at each instruction).
use Rattle.std.specs.Prelude.{◌≡◌, ℕ, ℤ, ◌+◌, ◌≤◌, pos, List, length, Option, Some, true}
use Rattle.std.specs.List.{AllByRecursion}
use Rattle.std.specs.Prelude.{Ok}
use Rattle.jc_names.specs.declared.name.ClassName.{ClassName}
use Rattle.jc_code.specs.Listing.{PlacedInstr, IsListing, placed_at}
use Rattle.jc_code.specs.Targets.{targets_of, falls_of}
use Rattle.jc_types.specs.State.{Types, types_below}
use Rattle.jc_check.specs.Method.{CheckedHandler, CheckedMethod, caught_types, covers, entry_of, word_method}
use Rattle.jc_check.specs.Rules.{Rules, word_rules}

-- a typing has a state at some pcs
abbrev pub Typing : Type 0
Typing = ℕ → Option Types

-- the typing has a state at a pc that is above these types
pub record Leads (rules : Rules) (typing : Typing) (t : Types) (pc : ℕ) : Type 0 where
  pub state : Types
  pub typed : typing pc ≡ Some state
  pub below : types_below rules.below t state ≡ true

-- the same for the target of a branch
pub record BranchLeads (rules : Rules) (typing : Typing) (t : Types) (place : ℤ) : Type 0 where
  pub pc : ℕ
  pub is : place ≡ pos pc
  pub leads : Leads rules typing t pc

-- a handler catches a class, and where it goes on the typing has a state that is above these types with the class
-- caught
pub record CatchLeads (rules : Rules) (typing : Typing) (t : Types) (h : CheckedHandler) : Type 0 where
  pub class : ClassName
  pub catches : h.caught ≡ Some class
  pub leads : Leads rules typing (caught_types class t) h.goes_on

-- a handler that covers a pc catches with these types
abbrev pub HandlerLeads : Rules → Typing → ℕ → Types → CheckedHandler → Type 0
HandlerLeads rules typing pc t h = covers h pc ≡ true → CatchLeads rules typing t h

-- the handlers that cover an instruction catch in the state before it; the instruction has an effect on that state, and
-- leads only to places whose states are above the state after
pub record IsFine (rules : Rules) (m : CheckedMethod) (typing : Typing) (x : PlacedInstr) (s : Types) : Type 0 where
  pub handled : AllByRecursion (HandlerLeads rules typing x.pc s) m.handlers
  pub after : Types
  pub effect : rules.effect m.max_stack m.returned x.instr.operation s ≡ Ok after
  pub branches : AllByRecursion (BranchLeads rules typing after) (targets_of x.pc x.instr.operation)
  pub falls : falls_of x.instr.operation ≡ true → Leads rules typing after x.instr.next_pc

-- an instruction begins at a pc, and is fine with the state there
pub record IsFineAt (rules : Rules) (m : CheckedMethod) (typing : Typing) (listing : List PlacedInstr) (pc : ℕ)
    (s : Types) : Type 0 where
  pub instr : PlacedInstr
  pub stands : placed_at listing pc ≡ Some instr
  pub fine : IsFine rules m typing instr s

-- the entry state is below the state at pc 0, and at each pc with a state an instruction begins and is fine
pub record IsTyping (rules : Rules) (m : CheckedMethod) (typing : Typing) : Type 0 where
  pub listing : List PlacedInstr
  pub whole : IsListing rules.decoder m.code listing
  pub entry : Leads rules typing (entry_of m) 0
  pub each : (pc : ℕ) (s : Types) → typing pc ≡ Some s → IsFineAt rules m typing listing pc s

-- types with a method's shape: as many locals as the method, and at most its maximum of operands
pub record HasShape (m : CheckedMethod) (t : Types) : Type 0 where
  pub locals : length t.locals ≡ length m.arguments + m.max_locals
  pub operands : length t.operands ≤ m.max_stack

-- each state of a typing has the method's shape
abbrev pub IsShaped : CheckedMethod → Typing → Type 0
IsShaped m typing = (pc : ℕ) (t : Types) → typing pc ≡ Some t → HasShape m t

-- code alone is well typed, by a typing with its shape
pub record IsWellTyped (code : List ℕ) : Type 0 where
  pub typing : Typing
  pub typed : IsTyping word_rules (word_method code) typing
  pub shaped : IsShaped (word_method code) typing
