-- Private. What is known while control flow is followed through a method, to find the pcs that it enters.
use Rattle.std.specs.Prelude.{◌≡◌, ◌≢◌, ◌⊎◌, ⊤, ℕ, ℤ, zero, suc, ◌+◌, ◌<◌, ◌^◌, true, pos, List, [], length}
use Rattle.std.specs.Prelude.{Contains, Option, Some, if◌then◌else◌}
use Rattle.std.specs.List.{AllByRecursion}
use Rattle.jc_base.specs.NumberSet.{has_number}
use Rattle.jc_base.specs.declared.reason.Reason.{Reason}
use Rattle.jc_code.specs.Instructions.{instr_at}
use Rattle.jc_code.specs.Listing.{IsListing, ListingLaws, PlacedInstr, StopsAt, begins, placed_at}
use Rattle.jc_code.specs.Targets.{targets_of, falls_of}
use Rattle.jc_code.specs.declared.fault.CodeFault.{CodeFault}
use Rattle.jc_check.specs.Carried.{HandlerStands}
use Rattle.jc_check.specs.FirstFault.{reason_of}
use Rattle.jc_check.specs.Method.{CheckedHandler, CheckedMethod, covers}
use Rattle.jc_check.specs.declared.fault.WordFault.{WordFault}
use Rattle.jc_check.specs.declared.fault.WordFault.TheVariants.{Refused, Memory}
use Rattle.jc_verify.specs.Live.{IsEntered, IsLive}
use Rattle.jc_verify.specs.MethodFault.{GoesStraight, LeadsAstray}
use Rattle.jc_verify.specs.declared.entries.Followed.{Followed}

-- code that decodes, with the set of the pcs at which its instructions begin
pub record IsDecoded (code : List ℕ) (listing : List PlacedInstr) (starts : List ℕ) : Type 0 where
  pub whole : IsListing instr_at code listing
  pub each : (pc : ℕ) → has_number starts pc ≡ begins listing pc

-- a method whose code decodes, and whose handlers are valid
pub record IsGround (m : CheckedMethod) (listing : List PlacedInstr) (starts : List ℕ) : Type 0 where
  pub laws : ListingLaws instr_at
  pub short : length m.code < 2 ^ 16
  pub decoded : IsDecoded m.code listing starts
  pub handlers : AllByRecursion (HandlerStands listing) m.handlers

-- how many numbers below this one aren't in a set
abbrev pub left_out : List ℕ → ℕ → ℕ
left_out numbers zero = 0
left_out numbers (suc n) = (if has_number numbers n then 0 else 1) + left_out numbers n

-- how many numbers a set may have
unfoldable pub all_numbers : ℕ
all_numbers = 65_536

-- how many pcs may still be taken from the worklist
abbrev pub left_of : Followed → ℕ
left_of f = left_out f.live all_numbers + length f.stack.items

-- a pc is in both sets: it is entered and reached
pub record IsHeld (f : Followed) (pc : ℕ) : Type 0 where
  pub live : has_number f.live pc ≡ true
  pub entered : has_number f.entered pc ≡ true

-- the sets have only grown, and as many pcs are left
pub record Grown (before after : Followed) : Type 0 where
  pub live : (pc : ℕ) → has_number before.live pc ≡ true → has_number after.live pc ≡ true
  pub entered : (pc : ℕ) → has_number before.entered pc ≡ true → has_number after.entered pc ≡ true
  pub left : left_of after ≡ left_of before

-- the entry point of a handler is entered, if the handler covers a pc
abbrev pub IsCaughtIn : Followed → ℕ → CheckedHandler → Type 0
IsCaughtIn f pc h = covers h pc ≡ true → IsHeld f h.goes_on

-- a branch target is a pc that is entered
pub record IsBranchIn (f : Followed) (place : ℤ) : Type 0 where
  pub pc : ℕ
  pub is : place ≡ pos pc
  pub held : IsHeld f pc

-- control flow was followed from an instruction
pub record IsDone (m : CheckedMethod) (f : Followed) (x : PlacedInstr) : Type 0 where
  pub handlers : (h : CheckedHandler) → Contains m.handlers h → IsCaughtIn f x.pc h
  pub branches : (place : ℤ) → Contains (targets_of x.pc x.instr.operation) place → IsBranchIn f place
  pub behind : falls_of x.instr.operation ≡ true → has_number f.live x.instr.next_pc ≡ true

-- control flow is followed from a pc now, or the pc is on the worklist
abbrev pub IsAwaited : Option ℕ → Followed → ℕ → Type 0
IsAwaited now f pc = (now ≡ Some pc) ⊎ Contains f.stack.items pc

-- an instruction begins at a reachable pc
pub record IsReached (m : CheckedMethod) (listing : List PlacedInstr) (pc : ℕ) : Type 0 where
  pub live : IsLive m listing pc
  pub begin : begins listing pc ≡ true

-- an instruction begins at a pc that is entered
pub record IsFound (m : CheckedMethod) (listing : List PlacedInstr) (pc : ℕ) : Type 0 where
  pub entered : IsEntered m listing pc
  pub begin : begins listing pc ≡ true

-- control flow was followed from pc 0: the pcs in the sets are reachable and entered, and each reached pc was followed
-- from, or is awaited
pub record IsFollowed (m : CheckedMethod) (listing : List PlacedInstr) (now : Option ℕ) (f : Followed) : Type 0 where
  pub first : has_number f.live 0 ≡ true
  pub live : (pc : ℕ) → has_number f.live pc ≡ true → IsReached m listing pc
  pub entered : (pc : ℕ) → has_number f.entered pc ≡ true → IsFound m listing pc
  pub awaited : (pc : ℕ) → IsAwaited now f pc → has_number f.live pc ≡ true
  pub done : (x : PlacedInstr) → placed_at listing x.pc ≡ Some x → has_number f.live x.pc ≡ true
      → IsAwaited now f x.pc ⊎ IsDone m f x

-- after a step the sets have what it gives, and have only grown; if the method meets what the step asks, `IsFollowed`
-- still holds
pub record HasLed (gives : Followed → Type 0) (asks : CheckedMethod → List PlacedInstr → Type 0)
    (before after : Followed) : Type 0 where
  pub met : gives after
  pub grown : Grown before after
  pub followed : (m : CheckedMethod) (listing : List PlacedInstr) (now : ℕ) → asks m listing
      → IsFollowed m listing (Some now) before → IsFollowed m listing (Some now) after

-- the entry points of the handlers that cover a pc are entered, and instructions begin there
abbrev pub AreCaughtIn : List CheckedHandler → ℕ → Followed → Type 0
AreCaughtIn handlers pc f = (h : CheckedHandler) → Contains handlers h → IsCaughtIn f pc h

abbrev pub AreFoundBy : List CheckedHandler → ℕ → CheckedMethod → List PlacedInstr → Type 0
AreFoundBy handlers pc m listing =
    (h : CheckedHandler) → Contains handlers h → covers h pc ≡ true → IsFound m listing h.goes_on

-- branch targets are pcs that are entered; control flow enters them, in a method whose code decodes
abbrev pub AreBranchesIn : (ℤ → Type 0) → Followed → Type 0
AreBranchesIn among f = (place : ℤ) → among place → IsBranchIn f place

abbrev pub AreEnteredBy : (ℤ → Type 0) → List ℕ → CheckedMethod → List PlacedInstr → Type 0
AreEnteredBy among starts m listing = IsGround m listing starts × ((pc : ℕ) → among (pos pc) → IsEntered m listing pc)

-- these are the pcs that control flow enters, and instructions begin there
pub record AreEntries (m : CheckedMethod) (listing : List PlacedInstr) (entries : List ℕ) : Type 0 where
  pub entered : (pc : ℕ) → has_number entries pc ≡ true → IsFound m listing pc
  pub all : (pc : ℕ) → IsEntered m listing pc → has_number entries pc ≡ true

-- these are the pcs that control flow reaches
pub record AreLive (m : CheckedMethod) (listing : List PlacedInstr) (live : List ℕ) : Type 0 where
  pub reached : (pc : ℕ) → has_number live pc ≡ true → IsLive m listing pc
  pub all : (pc : ℕ) → IsLive m listing pc → has_number live pc ≡ true

-- a reachable instruction leads astray
pub data IsAstray (m : CheckedMethod) (listing : List PlacedInstr) : ℕ → Reason → Type 0 where
  leads : (x : PlacedInstr) (reason : Reason) → placed_at listing x.pc ≡ Some x → IsLive m listing x.pc
      → LeadsAstray m listing x reason → IsAstray m listing x.pc reason

-- the property holds of a refusal's pc and reason
abbrev pub IfRefusal : WordFault → (ℕ → Reason → Type 0) → Type 0
IfRefusal (Refused pc reason) holds = holds pc reason
IfRefusal Memory holds = ⊤

-- decoding stops at a pc of the code, for this reason
abbrev pub IsUndecoded : List ℕ → ℕ → Reason → Type 0
IsUndecoded code pc reason = (why : CodeFault) × StopsAt instr_at code pc why × (reason ≡ reason_of why)

-- this reason is reported at this pc, and something holds
abbrev pub ToldAt : ℕ → Reason → Type 0 → ℕ → Reason → Type 0
ToldAt pc why holds at reason = (at ≡ pc) × (reason ≡ why) × holds

-- what is found of a method: the pcs that control flow enters, and those that it reaches; no reachable instruction
-- leads astray
pub record HasFound (m : CheckedMethod) (listing : List PlacedInstr) (entries : List ℕ) : Type 0 where
  pub are : AreEntries m listing entries
  pub live : (live : List ℕ) × AreLive m listing live
  pub straight : GoesStraight m listing

-- the pcs that control flow enters, in a method whose code decodes and whose handlers are valid
pub record HasEntries (m : CheckedMethod) (entries : List ℕ) : Type 0 where
  pub listing : List PlacedInstr
  pub whole : IsListing instr_at m.code listing
  pub some : m.code ≢ []
  pub handlers : AllByRecursion (HandlerStands listing) m.handlers
  pub found : HasFound m listing entries
