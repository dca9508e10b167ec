-- Private. The states that places hold flow there, and a refusal reports a fault of the method.
use Rattle.std.specs.Prelude.{◌≡◌, ◌≢◌, ⊤, ℕ, ℤ, pos, true, false, List, [], Option, Some, slice_get}
use Rattle.std.specs.List.{AllByRecursion}
use Rattle.jc_base.specs.declared.reason.Reason.{Reason}
use Rattle.jc_base.specs.declared.reason.Reason.TheVariants.{CertMismatch}
use Rattle.jc_names.specs.declared.name.ClassName.{ClassName}
use Rattle.jc_code.specs.Listing.{IsListing, PlacedInstr, begins}
use Rattle.jc_link.specs.Linked.{Linked}
use Rattle.jc_types.specs.State.{StateWithRoom, Types, has_shape_of}
use Rattle.jc_check.specs.Carried.{HandlerStands}
use Rattle.jc_check.specs.FirstFault.{fault_at}
use Rattle.jc_check.specs.Method.{CheckedHandler, CheckedMethod, caught_types, covers}
use Rattle.jc_check.specs.Package.{package_rules}
use Rattle.jc_check.specs.Rules.{Rules}
use Rattle.jc_check.specs.declared.fault.WordFault.{WordFault}
use Rattle.jc_check.specs.declared.fault.WordFault.TheVariants as faults
use Rattle.jc_verify.specs.Live.{IsEntered}
use Rattle.jc_verify.specs.PrivateCarrier.{HasPlace}
use Rattle.jc_verify.specs.PrivateFlow.{Places, held_at}
use Rattle.jc_verify.specs.MethodFault.{Flows, GoesStraight, IsToldOf}
use Rattle.jc_verify.specs.declared.place.Place.{Place}

-- a state flows to a pc, where an instruction begins
pub record IsFlowing (rules : Rules) (m : CheckedMethod) (listing : List PlacedInstr) (pc : ℕ) (t : Types)
    : Type 0 where
  pub flows : Flows rules m listing pc t
  pub begin : begins listing pc ≡ true

-- the same in the listing of a method's code
abbrev pub Reaches : Linked → CheckedMethod → ℕ → Types → Type 0
Reaches l m pc t =
    (listing : List PlacedInstr) → IsListing (package_rules l).decoder m.code listing
    → IsFlowing (package_rules l) m listing pc t

-- the same for what places hold
abbrev pub AreReached : Linked → CheckedMethod → Places → Type 0
AreReached l m places =
    (n : ℕ) (p : Place StateWithRoom) (s : StateWithRoom) → slice_get places n ≡ Some p → p.held ≡ Some s
    → Reaches l m p.pc s.types

-- the shape of types differs from that of others at a pc
pub data MeetsUnlike (at : ℕ → Types → Type 0) (pc : ℕ) (t : Types) : Reason → Type 0 where
  meets_unlike : (other : Types) → at pc other → has_shape_of other t ≡ false → MeetsUnlike at pc t CertMismatch

-- what places hold at a pc
abbrev pub IsHeldAt : List (Option ℕ) → Places → ℕ → Types → Type 0
IsHeldAt numbers places pc t = held_at numbers places pc ≡ Some t

-- what is caught isn't taken in: there is no room for it, or its shape differs from that of other types
pub data IsUncaughtAt (l : Linked) (m : CheckedMethod) (pc : ℕ) (t : Types) : Reason → Type 0 where
  caught_no_room : m.max_stack ≡ 0 → IsUncaughtAt l m pc t CertMismatch
  caught_unlike : (reason : Reason) → MeetsUnlike (Reaches l m) pc t reason → IsUncaughtAt l m pc t reason

-- a handler covers a pc, and what it catches isn't taken in at its entry point
pub record IsUncaught (l : Linked) (m : CheckedMethod) (of : CheckedHandler → Type 0) (pc : ℕ) (s : Types) (r : Reason)
    : Type 0 where
  pub h : CheckedHandler
  pub class : ClassName
  pub is : of h
  pub covered : covers h pc ≡ true
  pub catches : h.caught ≡ Some class
  pub untaken : IsUncaughtAt l m h.goes_on (caught_types class s) r

-- a branch isn't followed: the shape of the types differs from that of others at the target
pub record IsUnled (l : Linked) (m : CheckedMethod) (among : ℤ → Type 0) (t : Types) (r : Reason) : Type 0 where
  pub pc : ℕ
  pub is : among (pos pc)
  pub meets : MeetsUnlike (Reaches l m) pc t r

-- a refusal reports a fault of the method
abbrev pub Tells : Rules → CheckedMethod → WordFault → Type 0
Tells rules m (faults.Refused pc reason) = IsToldOf rules m (fault_at pc reason)
Tells rules m faults.Memory = ⊤

-- the listing of a method's code; its handlers are valid, no reachable instruction leads astray, and each pc that
-- control flow enters begins an instruction and has a place
pub record IsGroundOf (l : Linked) (m : CheckedMethod) (numbers : List (Option ℕ)) : Type 0 where
  pub listing : List PlacedInstr
  pub whole : IsListing (package_rules l).decoder m.code listing
  pub some : m.code ≢ []
  pub stand : AllByRecursion (HandlerStands listing) m.handlers
  pub straight : GoesStraight m listing
  pub begin : (pc : ℕ) → IsEntered m listing pc → begins listing pc ≡ true
  pub has_place : (pc : ℕ) → IsEntered m listing pc → HasPlace numbers pc
