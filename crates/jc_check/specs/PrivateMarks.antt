-- Private. The table of marks that the check keeps of the code, and the results of its steps.
use Rattle.std.specs.Prelude.{⊤, ◌≡◌, ℕ, ◌+◌, ◌==◌, ◌&&◌, nat_le, List, [], length, Option, Some, None, Result, Ok, Err}
use Rattle.std.specs.Prelude.{Bool, true, false, slice_get, slice_index_or, if◌then◌else◌}
use Rattle.jc_base.specs.declared.reason.Reason.{Reason}
use Rattle.jc_code.specs.Listing.{PlacedInstr, IsListing, begins}
use Rattle.jc_types.specs.State.{Types, StateWithRoom}
use Rattle.jc_code.specs.declared.instr.Instr.{Instr}
use Rattle.jc_check.specs.Rules.{Rules}
use Rattle.jc_check.specs.Method.{CheckedMethod}
use Rattle.jc_check.specs.Claim.{Claim}
use Rattle.jc_check.specs.Carried.{state_at, types_of}
use Rattle.jc_check.specs.declared.mark.ByteMark.{ByteMark}
use Rattle.jc_check.specs.declared.mark.ByteMark.TheVariants.{Inside, Start, Holds}

-- the mark of a byte before the certificate's states are marked
abbrev pub mark_of : Bool → ByteMark
mark_of true = Start
mark_of false = Inside

-- the table marks where instructions begin, and nothing else; past the code no instruction does
pub record MarksStarts (code : List ℕ) (listing : List PlacedInstr) (marks : List ByteMark) : Type 0 where
  pub len : length marks ≡ length code
  pub each : (pc : ℕ) → slice_index_or marks pc Inside ≡ mark_of (begins listing pc)

-- a claim has as many locals as the method, and at most its maximum of operands
abbrev pub claim_fits : CheckedMethod → Claim → Bool
claim_fits m c = (length c.locals == length m.arguments + m.max_locals) && nat_le (length c.operands) m.max_stack

-- the claim with a number stands at a pc
pub record IsHeld (m : CheckedMethod) (listing : List PlacedInstr) (claims : List Claim) (pc k : ℕ) : Type 0 where
  pub begin : begins listing pc ≡ true
  pub claim : Claim
  pub numbered : slice_get claims k ≡ Some claim
  pub state : state_at claims pc ≡ Some (types_of claim)
  pub shape : claim_fits m claim ≡ true

-- the meaning of a mark at its pc: within an instruction, the first byte of one, or that with the claim of a number
abbrev pub IsMark : CheckedMethod → List PlacedInstr → List Claim → ℕ → ByteMark → Type 0
IsMark m listing claims pc Inside = (begins listing pc ≡ false) × (state_at claims pc ≡ None)
IsMark m listing claims pc Start = (begins listing pc ≡ true) × (state_at claims pc ≡ None)
IsMark m listing claims pc (Holds k) = IsHeld m listing claims pc k

pub record IsTable (rules : Rules) (m : CheckedMethod) (listing : List PlacedInstr) (claims : List Claim)
    (marks : List ByteMark) : Type 0 where
  pub whole : IsListing rules.decoder m.code listing
  pub len : length marks ≡ length m.code
  pub each : (pc : ℕ) → IsMark m listing claims pc (slice_index_or marks pc Inside)

-- a property of the instructions of a method's table
abbrev pub ForMethod : Rules → CheckedMethod → List ByteMark → (List PlacedInstr → Type 0) → Type 0
ForMethod rules m marks holds =
    (listing : List PlacedInstr) (claims : List Claim) → IsTable rules m listing claims marks → holds listing

-- the same, for any method
abbrev pub ForTable : List ByteMark → (List PlacedInstr → Type 0) → Type 0
ForTable marks holds = (rules : Rules) (m : CheckedMethod) → ForMethod rules m marks holds

-- a property of the instructions of a table without claims
abbrev pub ForStarts : Rules → CheckedMethod → List ByteMark → (List PlacedInstr → Type 0) → Type 0
ForStarts rules m marks holds = (listing : List PlacedInstr) → IsTable rules m listing [] marks → holds listing

-- the number of a mark is that of a claim with the method's shape
abbrev pub IsSafe : CheckedMethod → List Claim → ByteMark → Type 0
IsSafe m claims (Holds k) = (c : Claim) × (slice_get claims k ≡ Some c) × (claim_fits m c ≡ true)
IsSafe m claims Inside = ⊤
IsSafe m claims Start = ⊤

pub record AreSafe (m : CheckedMethod) (claims : List Claim) (marks : List ByteMark) : Type 0 where
  pub len : length marks ≡ length m.code
  pub each : (pc : ℕ) → IsSafe m claims (slice_index_or marks pc Inside)

-- what goes on, as a flag besides the types
abbrev pub Flowed : Result Bool Reason → Types → Result (Option Types) Reason → Type 0
Flowed (Ok true) t flow = flow ≡ Ok (Some t)
Flowed (Ok false) t flow = flow ≡ Ok None
Flowed (Err reason) t flow = flow ≡ Err reason

abbrev pub flowing : Bool → Types → Option Types
flowing live t = if live then Some t else None

-- a state has as many locals as the method, and room for its greatest number of operands
pub record HasRoom (m : CheckedMethod) (s : StateWithRoom) : Type 0 where
  pub locals : length s.types.locals ≡ length m.arguments + m.max_locals
  pub room : s.room ≡ m.max_stack

abbrev pub placed : ℕ → Instr → PlacedInstr
placed pc instr = record { pc = pc; instr = instr }
