-- Private. What is known while control flow is followed through a method, and its result: places have taken in what
-- flows there, or control flow is refused.
use Rattle.std.specs.Prelude.{◌≡◌, ⊤, ℕ, ℤ, pos, ◌<◌, ◌^◌, Bool, true, List, length, drop, Some, None, Ok, slice_get}
use Rattle.std.specs.List.{AllByRecursion}
use Rattle.jc_base.specs.declared.reason.Reason.{Reason}
use Rattle.jc_names.specs.declared.name.ClassName.{ClassName}
use Rattle.jc_code.specs.Listing.{PlacedInstr}
use Rattle.jc_code.specs.declared.instr.Instr.{Instr}
use Rattle.jc_link.specs.Linked.{Linked}
use Rattle.jc_types.specs.State.{StateWithRoom, Types}
use Rattle.jc_check.specs.FirstFault.{fault_at}
use Rattle.jc_check.specs.Method.{CheckedHandler, CheckedMethod, caught_types, covers}
use Rattle.jc_check.specs.Package.{package_rules}
use Rattle.jc_check.specs.Typing.{BranchLeads, HandlerLeads, Leads, Typing}
use Rattle.jc_check.specs.declared.fault.WordFault.{WordFault}
use Rattle.jc_check.specs.declared.fault.WordFault.TheVariants as faults
use Rattle.jc_verify.specs.PrivateCarrier.{HasPlace, IsCarrier}
use Rattle.jc_verify.specs.PrivateFlow.{AreShaped, ClosedIf, FallsIf, Grown, HasLaws, HasRoom, IsClosed, IsNumbered}
use Rattle.jc_verify.specs.PrivateFlow.{IsUnder, IsUpper, Places, Risen, held_at, number_at}
use Rattle.jc_verify.specs.PrivateTold.{AreReached, IsGroundOf, IsHeldAt, MeetsUnlike, Reaches}
use Rattle.jc_verify.specs.MethodFault.{IsToldOf}
use Rattle.jc_verify.specs.declared.flow.MethodFlow.{MethodFlow}
use Rattle.jc_verify.specs.declared.place.Place.{Place}
use Rattle.jc_verify.specs.declared.stop.Stop.{Stop}
use Rattle.jc_verify.specs.declared.stop.Stop.TheVariants.{Refused}

-- ---- what is known

-- what is known of a method, whatever its places hold
pub record IsSound (f : MethodFlow) : Type 0 where
  pub laws : HasLaws f.linked.now
  pub ground : IsGroundOf f.linked.now f.method.now f.numbers.now
  pub short : length f.method.now.code < 2 ^ 16

-- the places are numbered, and what they hold is in the method's shape and flows there
pub record IsAtWork (f : MethodFlow) (places : Places) : Type 0 where
  pub sound : IsSound f
  pub numbered : IsNumbered f.numbers.now places
  pub shaped : AreShaped f.method.now places
  pub reached : AreReached f.linked.now f.method.now places

-- the places are numbered, and hold nothing yet
pub record IsBlank (f : MethodFlow) (places : Places) : Type 0 where
  pub sound : IsSound f
  pub numbered : IsNumbered f.numbers.now places
  pub empty : (n : ℕ) (p : Place StateWithRoom) → slice_get places n ≡ Some p → p.held ≡ None

-- the working states for what is caught and for what is followed have room
pub record HaveRoom (f : MethodFlow) (c s : StateWithRoom) : Type 0 where
  pub caught : HasRoom f.method.now c
  pub state : HasRoom f.method.now s

-- ---- what flows in

-- types flow to a pc
abbrev pub FlowsTo : MethodFlow → ℕ → Types → Type 0
FlowsTo f pc t = Reaches f.linked.now f.method.now pc t

-- types flow to a pc, which is in the code
pub record GoesOn (f : MethodFlow) (pc : ℕ) (t : Types) : Type 0 where
  pub flows : FlowsTo f pc t
  pub within : pc < length f.method.now.code

-- types flow to a pc where there is a place
pub record FlowsIn (f : MethodFlow) (pc : ℕ) (t : Types) : Type 0 where
  pub flows : FlowsTo f pc t
  pub place : HasPlace f.numbers.now pc

-- types flow to the place with a number
pub record FlowsInto (f : MethodFlow) (places : Places) (number : ℕ) (t : Types) : Type 0 where
  pub within : number < length places
  pub flows : (p : Place StateWithRoom) → slice_get places number ≡ Some p → FlowsTo f p.pc t

-- an instruction decodes at a pc
pub record IsDecodedAt (l : Linked) (m : CheckedMethod) (pc : ℕ) : Type 0 where
  pub instr : Instr
  pub is : (package_rules l).decoder m.code pc ≡ Ok instr

-- an instruction decodes at a pc to which types flow
pub record StandsAt (f : MethodFlow) (pc : ℕ) (t : Types) (instr : Instr) : Type 0 where
  pub sound : IsSound f
  pub flows : FlowsTo f pc t
  pub decoded : (package_rules f.linked.now).decoder f.method.now.code pc ≡ Ok instr

-- a handler catches a class, and types with it flow to a place at its entry point
pub record IsWay (f : MethodFlow) (t : Types) (h : CheckedHandler) : Type 0 where
  pub class : ClassName
  pub catches : h.caught ≡ Some class
  pub flows : FlowsIn f h.goes_on (caught_types class t)

-- the same, if the handler covers a pc
abbrev pub IsHandlersWay : MethodFlow → ℕ → Types → CheckedHandler → Type 0
IsHandlersWay f pc t h = covers h pc ≡ true → IsWay f t h

-- types flow to a place at a branch target
pub record IsBranchsWay (f : MethodFlow) (t : Types) (place : ℤ) : Type 0 where
  pub pc : ℕ
  pub is : place ≡ pos pc
  pub flows : FlowsIn f pc t

-- ---- what a typing meets

-- types lie below a typing's state at a pc
abbrev pub LeadsTo : MethodFlow → ℕ → Types → Typing → Type 0
LeadsTo f pc t typing = Leads (package_rules f.linked.now) typing t pc

-- the same at the pc of the place with a number
abbrev pub LeadsInto : MethodFlow → ℕ → Types → Typing → Type 0
LeadsInto f number t typing = (pc : ℕ) → number_at f.numbers.now pc ≡ Some number → LeadsTo f pc t typing

-- control flow continues at a pc of the code without a place; or the typing's state there lies above the types
abbrev pub Falls : MethodFlow → Bool → ℕ → Types → Typing → Type 0
Falls f on pc t typing = FallsIf on (package_rules f.linked.now) f.method.now f.numbers.now typing pc t

-- the typing lies above what a handler catches with these types, if it covers a pc; and the same for all handlers
abbrev pub Handles : MethodFlow → ℕ → Types → CheckedHandler → Typing → Type 0
Handles f pc t h typing = HandlerLeads (package_rules f.linked.now) typing pc t h

abbrev pub HandlesAll : MethodFlow → ℕ → Types → Typing → Type 0
HandlesAll f pc t typing = AllByRecursion (HandlerLeads (package_rules f.linked.now) typing pc t) f.method.now.handlers

-- the typing lies above types at the target of the branch with an index, and at all targets
abbrev pub Branches : MethodFlow → List ℤ → ℕ → Types → Typing → Type 0
Branches f targets index t typing =
    (place : ℤ) → slice_get targets index ≡ Some place → BranchLeads (package_rules f.linked.now) typing t place

abbrev pub BranchesAll : MethodFlow → List ℤ → Types → Typing → Type 0
BranchesAll f targets t typing = AllByRecursion (BranchLeads (package_rules f.linked.now) typing t) targets

-- control flow was followed from a pc with types up to places; the same, if control flow continues at the pc
abbrev pub ClosedFrom : MethodFlow → ℕ → Types → Typing → Type 0
ClosedFrom f pc t typing = IsClosed (package_rules f.linked.now) f.method.now f.numbers.now typing pc t

abbrev pub ClosedFromIf : MethodFlow → Bool → ℕ → Types → Typing → Type 0
ClosedFromIf f on pc t typing = ClosedIf on (package_rules f.linked.now) f.method.now f.numbers.now typing pc t

-- a typing of the method, whose state at a pc lies above types
pub record Bears (f : MethodFlow) (pc : ℕ) (t : Types) (typing : Typing) : Type 0 where
  pub upper : IsUpper f.linked.now f.method.now typing
  pub leads : LeadsTo f pc t typing

-- nothing is asked of a typing
abbrev pub Anything : Typing → Type 0
Anything typing = ⊤

-- ---- results

-- places took in what flows: whatever they hold later meets `gives`; and a typing that meets `asks` lies above what
-- they hold, if it did before
pub record HasTaken (f : MethodFlow) (gives asks : Typing → Type 0) (before after : Places) : Type 0 where
  pub grown : Grown f.linked.now f.method.now f.numbers.now before after
  pub met : (final : Places) → Risen f.linked.now f.method.now f.numbers.now after final
      → gives (held_at f.numbers.now final)
  pub least : (typing : Typing) → IsUnder f.linked.now f.numbers.now before typing → asks typing
      → IsUnder f.linked.now f.numbers.now after typing
  pub work : IsAtWork f after

-- the same if `gives` and `asks` are one
abbrev pub HasTakenIn : MethodFlow → (Typing → Type 0) → Places → Places → Type 0
HasTakenIn f leads before after = HasTaken f leads leads before after

-- the first k of these were passed: all lead on if the rest do
abbrev pub ArePassed : MethodFlow → {A : Type 0} → (Typing → A → Type 0) → List A → ℕ → Places → Places → Type 0
ArePassed f leads xs k before after =
    HasTaken f (λ typing. AllByRecursion (leads typing) (drop k xs) → AllByRecursion (leads typing) xs)
    (λ typing. AllByRecursion (leads typing) xs) before after

-- an instruction was visited: control flow is closed from there, if it is closed from the next pc or doesn't continue
-- there. If it continues, types flow to the next pc, and a typing that bears the types before the instruction bears
-- those after it
pub record HasVisited (f : MethodFlow) (on : Bool) (x : PlacedInstr) (s t : Types) (before after : Places)
    : Type 0 where
  pub taken : HasTaken f (λ typing. ClosedFromIf f on x.instr.next_pc t typing → ClosedFrom f x.pc s typing)
      (Bears f x.pc s) before after
  pub next : on ≡ true → GoesOn f x.instr.next_pc t
  pub bears : on ≡ true → (typing : Typing) → Bears f x.pc s typing → Bears f x.instr.next_pc t typing

-- control flow is refused: no carrier that lies above what places hold meets `asks`, and the reason meets `tells`
pub record IsRefusedFor (f : MethodFlow) (asks : Typing → Type 0) (tells : Reason → Type 0) (before : Places)
    (reason : Reason) : Type 0 where
  pub denied : (typing : Typing) → IsCarrier f.linked.now f.method.now f.numbers.now typing
      → IsUnder f.linked.now f.numbers.now before typing → asks typing → ⊥
  pub told : tells reason

-- the same for a stop, unless it is out of memory
pub record Refuses (f : MethodFlow) (asks : Typing → Type 0) (tells : Reason → Type 0) (before : Places)
    (stop : Stop) : Type 0 where
  pub each : (reason : Reason) → stop ≡ Refused reason → IsRefusedFor f asks tells before reason

-- the shape of types differs from what places hold at a pc; and the same at the pc of the place with a number
abbrev pub MeetsHeld : MethodFlow → Places → ℕ → Types → Reason → Type 0
MeetsHeld f places pc t reason = MeetsUnlike (IsHeldAt f.numbers.now places) pc t reason

abbrev pub MeetsHeldBy : MethodFlow → Places → ℕ → Types → Reason → Type 0
MeetsHeldBy f places number t reason =
    (pc : ℕ) → number_at f.numbers.now pc ≡ Some number → MeetsHeld f places pc t reason

-- a reason at a pc is a fault of the method
abbrev pub IsToldAt : MethodFlow → ℕ → Reason → Type 0
IsToldAt f pc reason = IsToldOf (package_rules f.linked.now) f.method.now (fault_at pc reason)

-- the same for a reported fault
pub record IsDenial (f : MethodFlow) (asks : Typing → Type 0) (before : Places) (fault : WordFault) : Type 0 where
  pub each : (pc : ℕ) (reason : Reason) → fault ≡ faults.Refused pc reason
      → IsRefusedFor f asks (IsToldAt f pc) before reason
