-- Private. The locals that exception handlers took in last; after that, only locals that differ are compared.
use Rattle.std.specs.Prelude.{◌≡◌, ℕ, [], List, Some, true}
use Rattle.jc_classes.specs.Subtype.{is_class_below}
use Rattle.jc_check.specs.Method.{CheckedHandler, covers}
use Rattle.jc_check.specs.Package.{package_rules}
use Rattle.jc_check.specs.Typing.{HandlerLeads}
use Rattle.jc_types.specs.PrivateRanges.{AgreeOutside}
use Rattle.jc_types.specs.State.{Types, all_below}
use Rattle.jc_types.specs.declared.ranges.LocalRange.{LocalRange}
use Rattle.jc_types.specs.declared.ty.Ty.{Ty}
use Rattle.jc_verify.specs.PrivateFlow.{Places, Risen, held_at}
use Rattle.jc_verify.specs.PrivateWork.{HandlesAll}
use Rattle.jc_verify.specs.declared.flow.MethodFlow.{MethodFlow}
use Rattle.jc_verify.specs.declared.seen.TakenLocals.{TakenLocals}

-- the types of a state with these locals and no operands
abbrev pub with_locals : List Ty → Types
with_locals locals = record { locals = locals; operands = [] }

-- a handler took in the locals seen last, if it covers the instruction there: what places hold now or later lies above
-- them; and the same for all handlers
abbrev pub HasSeen : MethodFlow → Places → TakenLocals → CheckedHandler → Type 0
HasSeen f places seen h = (final : Places) (pc : ℕ) → Risen f.linked.now f.method.now f.numbers.now places final
    → seen.at ≡ Some pc
    → HandlerLeads (package_rules f.linked.now) (held_at f.numbers.now final) pc (with_locals seen.locals.items) h

abbrev pub HaveSeen : MethodFlow → Places → TakenLocals → Type 0
HaveSeen f places seen = (final : Places) (pc : ℕ) → Risen f.linked.now f.method.now f.numbers.now places final
    → seen.at ≡ Some pc → HandlesAll f pc (with_locals seen.locals.items) (held_at f.numbers.now final)

-- a handler covers the instruction seen last
pub record WasCovered (seen : TakenLocals) (h : CheckedHandler) : Type 0 where
  pub pc : ℕ
  pub at : seen.at ≡ Some pc
  pub covered : covers h pc ≡ true

-- the place at a pc holds locals above these, if they lie above others that agree with these outside of a range
pub record StillHolds (f : MethodFlow) (places : Places) (pc : ℕ) (range : LocalRange) (locals : List Ty) : Type 0 where
  pub held : Types
  pub at : held_at f.numbers.now places pc ≡ Some held
  pub below : (old : List Ty) → AgreeOutside range old locals
      → all_below (is_class_below f.linked.now.world) old held.locals ≡ true
      → all_below (is_class_below f.linked.now.world) locals held.locals ≡ true
