-- The first fault of a method that its certificate doesn't carry, in the order of the tests: rows for no method,
-- empty code, decoding, the handlers, the certificate's states, and then the instructions by ascending pc.
use Rattle.std.specs.Prelude.{⊤, ◌≡◌, ◌≢◌, ℕ, ℤ, pos, negsuc, List, [], ◌∷◌, length, Option, Some, None, Result, Ok}
use Rattle.std.specs.Prelude.{Err, Bool, ◌&&◌, nat_lt, if◌then◌else◌}
use Rattle.jc_base.specs.declared.reason.Reason.{Reason}
use Rattle.jc_base.specs.declared.reason.Reason.TheVariants.{NoTarget, CertMismatch, FallsOff, WrongType}
use Rattle.jc_base.specs.declared.reason.Reason.TheVariants as reasons
use Rattle.jc_base.specs.Results.{◌>>=◌}
use Rattle.jc_code.specs.declared.fault.CodeFault.{CodeFault}
use Rattle.jc_code.specs.declared.fault.CodeFault.TheVariants as faults
use Rattle.jc_names.specs.declared.name.ClassName.{ClassName}
use Rattle.jc_code.specs.Listing.{PlacedInstr, IsListing, StopsAt, begins}
use Rattle.jc_code.specs.Targets.{targets_of, falls_of}
use Rattle.jc_types.specs.State.{Types, types_below}
use Rattle.jc_cert.specs.Cert.{Stated}
use Rattle.jc_check.specs.declared.fault.Fault.{Fault}
use Rattle.jc_check.specs.Rules.{Rules, word_rules}
use Rattle.jc_check.specs.Method.{CheckedHandler, CheckedMethod, caught_types, covers, entry_of, word_method}
use Rattle.jc_check.specs.Claim.{Claim, claim_of}
use Rattle.jc_check.specs.Carried.{state_at, has_shape}

abbrev pub told_at : {A : Type 0} → ℕ → Result A Reason → Result A Fault
told_at pc (Ok x) = Ok x
told_at pc (Err reason) = Err (record { pc = pc; reason = reason })

-- whether a handler catches a class
abbrev pub catches_some : Option ClassName → Result ⊤ Reason
catches_some None = Err WrongType
catches_some (Some class) = Ok tt

-- a handler goes on where an instruction begins, and catches a class
abbrev pub handler_stands : List PlacedInstr → CheckedHandler → Result ⊤ Reason
handler_stands listing h = if begins listing h.goes_on then catches_some h.caught else Err NoTarget

-- the handlers in order
unfoldable pub handlers_stand : List PlacedInstr → List CheckedHandler → Result ⊤ Fault
handlers_stand listing [] = Ok tt
handlers_stand listing (h ∷ hs) = told_at h.goes_on (handler_stands listing h) >>= λ _. handlers_stand listing hs

-- a claim, if there is one; otherwise a mismatch
abbrev pub claim_or_fault : Option Claim → Result Claim Reason
claim_or_fault None = Err CertMismatch
claim_or_fault (Some claim) = Ok claim

-- an instruction begins at the pc of a certificate's state, which has the method's shape and whose classes resolve
abbrev pub state_stands : Rules → CheckedMethod → List PlacedInstr → Stated → Result Claim Reason
state_stands rules m listing c =
    if begins listing c.pc && has_shape m c then claim_or_fault (claim_of rules c) else Err CertMismatch

-- the certificate's states in order, with their classes resolved
unfoldable pub states_stand : Rules → CheckedMethod → List PlacedInstr → List Stated → Result (List Claim) Fault
states_stand rules m listing [] = Ok []
states_stand rules m listing (c ∷ cs) =
    told_at c.pc (state_stands rules m listing c) >>= λ claim. states_stand rules m listing cs >>= λ claims.
    Ok (claim ∷ claims)

-- types at a place with a claimed state, which has to be above them
abbrev pub meets_claim : Rules → Types → Option Types → Result ⊤ Reason
meets_claim rules t None = Err CertMismatch
meets_claim rules t (Some c) = if types_below rules.below t c then Ok tt else Err CertMismatch

-- a branch to a place: an instruction begins there, and the certificate has a state above these types there
unfoldable pub arrives : Rules → List PlacedInstr → List Claim → Types → ℤ → Result ⊤ Reason
arrives rules listing claims t (pos pc) =
    if begins listing pc then meets_claim rules t (state_at claims pc) else Err NoTarget
arrives rules listing claims t (negsuc n) = Err NoTarget

-- each branch in order
abbrev pub all_arrive : Rules → List PlacedInstr → List Claim → Types → List ℤ → Result ⊤ Reason
all_arrive rules listing claims t [] = Ok tt
all_arrive rules listing claims t (place ∷ places) =
    arrives rules listing claims t place >>= λ _. all_arrive rules listing claims t places

-- these types, or none if a claimed state is above them
abbrev pub flows : Rules → Types → Option Types → Result (Option Types) Reason
flows rules t None = Ok (Some t)
flows rules t (Some c) = if types_below rules.below t c then Ok None else Err CertMismatch

-- the types that go on to a pc: these, or none if the certificate has a state above them there
unfoldable pub falls_to : Rules → CheckedMethod → List Claim → Types → ℕ → Result (Option Types) Reason
falls_to rules m claims t pc = if nat_lt pc (length m.code) then flows rules t (state_at claims pc) else Err FallsOff

abbrev pub falls_if : Rules → CheckedMethod → List Claim → Bool → Types → ℕ → Result (Option Types) Reason
falls_if rules m claims falls t pc = if falls then falls_to rules m claims t pc else Ok None

-- a handler that covers an instruction: it catches a class, and the types before the instruction with that class caught
-- are below the claimed state where it goes on
abbrev pub catches_at : Rules → List Claim → Types → ℕ → Option ClassName → Result ⊤ Reason
catches_at rules claims t goes_on None = Err CertMismatch
catches_at rules claims t goes_on (Some class) = meets_claim rules (caught_types class t) (state_at claims goes_on)

-- a handler at an instruction
unfoldable pub handles : Rules → List Claim → ℕ → Types → CheckedHandler → Result ⊤ Reason
handles rules claims pc t h = if covers h pc then catches_at rules claims t h.goes_on h.caught else Ok tt

-- each handler in order
abbrev pub all_handle : Rules → List Claim → ℕ → Types → List CheckedHandler → Result ⊤ Reason
all_handle rules claims pc t [] = Ok tt
all_handle rules claims pc t (h ∷ hs) = handles rules claims pc t h >>= λ _. all_handle rules claims pc t hs

-- an instruction with a state: the handlers that cover it, its effect, its branches, and then what goes on after it
unfoldable pub visit_live : Rules → CheckedMethod → List PlacedInstr → List Claim → PlacedInstr → Types
    → Result (Option Types) Reason
visit_live rules m listing claims x s = do
  _ ← all_handle rules claims x.pc s m.handlers
  after ← rules.effect m.max_stack m.returned x.instr.operation s
  _ ← all_arrive rules listing claims after (targets_of x.pc x.instr.operation)
  falls_if rules m claims (falls_of x.instr.operation) after x.instr.next_pc

-- the state at an instruction is the certificate's, if it has one, otherwise what flows in; with neither the
-- instruction is dead
abbrev pub visit_on : Rules → CheckedMethod → List PlacedInstr → List Claim → PlacedInstr → Option Types → Option Types
    → Result (Option Types) Reason
visit_on rules m listing claims x (Some c) flow = visit_live rules m listing claims x c
visit_on rules m listing claims x None (Some s) = visit_live rules m listing claims x s
visit_on rules m listing claims x None None = Ok None

unfoldable pub visit : Rules → CheckedMethod → List PlacedInstr → List Claim → PlacedInstr → Option Types
    → Result (Option Types) Reason
visit rules m listing claims x flow = visit_on rules m listing claims x (state_at claims x.pc) flow

-- the instructions in order, with what flows into the first
unfoldable pub walk : Rules → CheckedMethod → List PlacedInstr → List Claim → Option Types → List PlacedInstr
    → Result ⊤ Fault
walk rules m listing claims flow [] = Ok tt
walk rules m listing claims flow (x ∷ xs) =
    told_at x.pc (visit rules m listing claims x flow) >>= λ next. walk rules m listing claims next xs

-- the entry state goes on to pc 0, and the instructions follow
abbrev pub flow_findings_of : Rules → CheckedMethod → List PlacedInstr → List Claim → Result ⊤ Fault
flow_findings_of rules m listing claims =
    told_at 0 (falls_to rules m claims (entry_of m) 0) >>= λ flow. walk rules m listing claims flow listing

-- the first fault of code that decodes: of a handler, of a state of the certificate, or otherwise of the pass
unfoldable pub findings_of : Rules → CheckedMethod → List PlacedInstr → List Stated → Result ⊤ Fault
findings_of rules m listing states =
    handlers_stand listing m.handlers >>= λ _. states_stand rules m listing states >>= λ claims.
    flow_findings_of rules m listing claims

-- the reason that is reported for a fault in decoding
abbrev pub reason_of : CodeFault → Reason
reason_of faults.BadOpcode = reasons.BadOpcode
reason_of faults.BadOperand = reasons.BadOperand
reason_of faults.CutShort = reasons.CutShort

abbrev pub fault_at : ℕ → Reason → Fault
fault_at pc reason = record { pc = pc; reason = reason }

pub data IsFirstFault (rules : Rules) (m : CheckedMethod) (states : List Stated) : Fault → Type 0 where
  empty : m.code ≡ [] → IsFirstFault rules m states (fault_at 0 FallsOff)
  undecoded : (pc : ℕ) (fault : CodeFault) → StopsAt rules.decoder m.code pc fault
      → IsFirstFault rules m states (fault_at pc (reason_of fault))
  found : (listing : List PlacedInstr) (fault : Fault) → IsListing rules.decoder m.code listing → m.code ≢ []
      → findings_of rules m listing states ≡ Err fault → IsFirstFault rules m states fault

-- the first fault of code alone with a certificate
abbrev pub IsFirstFaultOf : List ℕ → Option (List Stated) → Fault → Type 0
IsFirstFaultOf code None fault = fault ≡ fault_at 0 CertMismatch
IsFirstFaultOf code (Some states) fault = IsFirstFault word_rules (word_method code) states fault
