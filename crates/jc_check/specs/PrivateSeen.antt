-- Private. The locals that the exception handlers of a method saw last, and with which they caught.
use Rattle.std.specs.Prelude.{◌≡◌, ◌≢◌, ℕ, ◌+◌, List, [], length, Bool, true, false, Option, Some, None}
use Rattle.std.specs.Prelude.{Ok, slice_get}
use Rattle.std.specs.Option.{option_map_or}
use Rattle.jc_types.specs.declared.ty.Ty.{Ty}
use Rattle.jc_types.specs.State.{Types}
use Rattle.jc_check.specs.Rules.{Rules}
use Rattle.jc_check.specs.Method.{CheckedHandler, CheckedMethod, covers}
use Rattle.jc_check.specs.Claim.{Claim}
use Rattle.jc_check.specs.FirstFault.{catches_at}
use Rattle.jc_check.specs.PrivateInput.{ForListing}
use Rattle.jc_check.specs.declared.input.PassInput.{PassInput}

-- the locals that the handlers saw last, and the pc of that instruction, if there was one
pub record SeenLocals : Type 0 where
  pub locals : List Ty
  pub pc : Option ℕ

-- a handler covers that instruction
abbrev pub covers_seen : CheckedHandler → SeenLocals → Bool
covers_seen h seen = option_map_or (λ pc. covers h pc) seen.pc false

-- locals as a state: a handler ignores the operands
abbrev pub locals_alone : List Ty → Types
locals_alone locals = record { locals = locals; operands = [] }

-- a handler caught with what it saw
pub record WasCaught (rules : Rules) (claims : List Claim) (seen : SeenLocals) (h : CheckedHandler) : Type 0 where
  pub catches : covers_seen h seen ≡ true
      → catches_at rules claims (locals_alone seen.locals) h.goes_on h.caught ≡ Ok tt

-- each handler did
pub record WereCaught (rules : Rules) (claims : List Claim) (handlers : List CheckedHandler) (seen : SeenLocals)
    : Type 0 where
  pub each : (n : ℕ) (h : CheckedHandler) → slice_get handlers n ≡ Some h → WasCaught rules claims seen h

-- the seen locals are as many as the method's, if the method has handlers
abbrev pub FitsSeen : CheckedMethod → SeenLocals → Type 0
FitsSeen m seen = m.handlers ≢ [] → length seen.locals ≡ length m.arguments + m.max_locals

-- nothing was seen yet
pub record HasSeenNothing (m : CheckedMethod) (seen : SeenLocals) : Type 0 where
  pub fits : FitsSeen m seen
  pub none : seen.pc ≡ None

-- the invariant of the pass for the seen locals
pub record HasSeen (rules : Rules) (input : PassInput) (seen : SeenLocals) : Type 0 where
  pub fits : FitsSeen input.method.now seen
  pub caught : ForListing rules input (λ listing.
      WereCaught rules input.claims.now input.method.now.handlers seen)
