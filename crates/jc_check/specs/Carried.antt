-- When a certificate carries a method: with the certificate's states there is a typing that propagates from instruction
-- to instruction, and it is well typed.
use Rattle.std.specs.Prelude.{⊤, ◌≡◌, ℕ, ℤ, pos, ◌+◌, ◌^◌, ◌<◌, ◌==◌, ◌&&◌, List, [], ◌∷◌, length, map, Option, Some}
use Rattle.std.specs.Prelude.{None, Ok, Bool, true, false, nat_le, if◌then◌else◌}
use Rattle.std.specs.List.{AllByRecursion}
use Rattle.jc_names.specs.declared.name.ClassName.{ClassName}
use Rattle.jc_code.specs.Listing.{PlacedInstr, IsListing, placed_at, begins}
use Rattle.jc_code.specs.Targets.{targets_of, falls_of}
use Rattle.jc_types.specs.State.{Types, types_below, stated_types}
use Rattle.jc_cert.specs.Cert.{IsCert, Row, Stated}
use Rattle.jc_check.specs.Rules.{Rules, word_rules}
use Rattle.jc_check.specs.Method.{CheckedHandler, CheckedMethod, caught_types, covers, entry_of, word_method, states_of}
use Rattle.jc_check.specs.Claim.{Claim, claim_of}
use Rattle.jc_check.specs.Typing.{Typing}

-- the types of a claim
abbrev pub types_of : Claim → Types
types_of c = stated_types c.locals c.operands

-- the first claimed state at a pc
unfoldable pub state_at : List Claim → ℕ → Option Types
state_at [] pc = None
state_at (c ∷ cs) pc = if c.pc == pc then Some (types_of c) else state_at cs pc

-- a state has as many locals as the method, and at most its maximum of operands
abbrev pub has_shape : CheckedMethod → Stated → Bool
has_shape m c = (length c.locals == length m.arguments + m.max_locals) && nat_le (length c.operands) m.max_stack

-- an instruction begins at the pc of a certificate's state, which has the method's shape
pub record Stands (m : CheckedMethod) (listing : List PlacedInstr) (c : Stated) : Type 0 where
  pub begin : begins listing c.pc ≡ true
  pub shape : has_shape m c ≡ true

-- a handler goes on where an instruction begins, and catches a class
pub record HandlerStands (listing : List PlacedInstr) (h : CheckedHandler) : Type 0 where
  pub begin : begins listing h.goes_on ≡ true
  pub class : ClassName
  pub catches : h.caught ≡ Some class

-- a branch leads to an instruction at which the certificate has a state above these types
pub record Arrives (rules : Rules) (listing : List PlacedInstr) (claims : List Claim) (t : Types)
    (place : ℤ) : Type 0 where
  pub pc : ℕ
  pub is : place ≡ pos pc
  pub begin : begins listing pc ≡ true
  pub state : Types
  pub stated : state_at claims pc ≡ Some state
  pub below : types_below rules.below t state ≡ true

-- these types go on to the next pc: they are its state, or below the certificate's state there, if there is one
abbrev pub GoesOn : Rules → Option Types → Option Types → Types → Type 0
GoesOn rules None state t = state ≡ Some t
GoesOn rules (Some c) state t = types_below rules.below t c ≡ true

-- nothing goes on to the next pc: it has no state, unless the certificate has one there
abbrev pub NothingGoesOn : Option Types → Option Types → Type 0
NothingGoesOn None state = state ≡ None
NothingGoesOn (Some c) state = ⊤

-- what goes on to a pc; if anything does, the pc lies within the code
abbrev pub GoesOnIf : Rules → CheckedMethod → List Claim → Typing → Bool → Types → ℕ → Type 0
GoesOnIf rules m claims typing true t pc = (pc < length m.code) × GoesOn rules (state_at claims pc) (typing pc) t
GoesOnIf rules m claims typing false t pc = NothingGoesOn (state_at claims pc) (typing pc)

-- a handler catches a class, and where it goes on the certificate has a state that is above these types with the class
-- caught
pub record IsCaught (rules : Rules) (claims : List Claim) (t : Types) (h : CheckedHandler) : Type 0 where
  pub class : ClassName
  pub catches : h.caught ≡ Some class
  pub state : Types
  pub stated : state_at claims h.goes_on ≡ Some state
  pub below : types_below rules.below (caught_types class t) state ≡ true

-- a handler that covers a pc catches with these types
abbrev pub IsHandled : Rules → List Claim → ℕ → Types → CheckedHandler → Type 0
IsHandled rules claims pc t h = covers h pc ≡ true → IsCaught rules claims t h

-- the handlers that cover an instruction catch in the state before it; the instruction has an effect on that state, and
-- the state after goes on as the certificate says
pub record IsCarriedAt (rules : Rules) (m : CheckedMethod) (listing : List PlacedInstr) (claims : List Claim)
    (typing : Typing)
    (x : PlacedInstr) (s : Types) : Type 0 where
  pub handled : AllByRecursion (IsHandled rules claims x.pc s) m.handlers
  pub after : Types
  pub effect : rules.effect m.max_stack m.returned x.instr.operation s ≡ Ok after
  pub branches : AllByRecursion (Arrives rules listing claims after) (targets_of x.pc x.instr.operation)
  pub behind : GoesOnIf rules m claims typing (falls_of x.instr.operation) after x.instr.next_pc

-- the states carry the method
pub record Carries (rules : Rules) (m : CheckedMethod) (states : List Stated) : Type 0 where
  -- their classes resolve
  pub claims : List Claim
  pub found : map (claim_of rules) states ≡ map Some claims
  -- the code decodes
  pub listing : List PlacedInstr
  pub whole : IsListing rules.decoder m.code listing
  -- each handler goes on where an instruction begins, and catches a class
  pub caught : AllByRecursion (HandlerStands listing) m.handlers
  -- an instruction begins at the pc of each state, which has the method's shape
  pub fitting : AllByRecursion (Stands m listing) states
  -- there is a typing, which has states only where instructions begin
  pub typing : Typing
  pub starts : (pc : ℕ) (s : Types) → typing pc ≡ Some s → begins listing pc ≡ true
  -- it has the certificate's states at their pcs
  pub stated : (pc : ℕ) (s : Types) → state_at claims pc ≡ Some s → typing pc ≡ Some s
  -- the entry state goes on to pc 0
  pub entry : GoesOnIf rules m claims typing true (entry_of m) 0
  -- each instruction with a state is carried, and after one without a state nothing goes on
  pub live : (pc : ℕ) (x : PlacedInstr) (s : Types) → placed_at listing pc ≡ Some x → typing pc ≡ Some s
      → IsCarriedAt rules m listing claims typing x s
  pub dead : (pc : ℕ) (x : PlacedInstr) → placed_at listing pc ≡ Some x → typing pc ≡ None
      → NothingGoesOn (state_at claims x.instr.next_pc) (typing x.instr.next_pc)

-- rows are a certificate, and it carries code alone
pub record CertCarriesCode (code : List ℕ) (rows : List Row) : Type 0 where
  pub cert : IsCert rows
  pub states : List Stated
  pub are : states_of rows ≡ Some states
  pub carried : Carries word_rules (word_method code) states

-- code that some certificate carries, of at most 65,535 bytes
pub record IsCarriedBySome (code : List ℕ) : Type 0 where
  pub rows : List Row
  pub carried : CertCarriesCode code rows
  pub short : length code < 2 ^ 16
