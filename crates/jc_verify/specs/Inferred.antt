-- An inferred certificate has states exactly where control flow enters, and they are the least (Java Card Virtual
-- Machine Specification, verification of CAP files: data-flow analysis).
use Rattle.std.specs.Prelude.{◌≡◌, ℕ, List, Some, Contains, slice_get}
use Rattle.std.specs.List.{AllByRecursion}
use Rattle.jc_cap_desc.specs.Shape.{MethodBody}
use Rattle.jc_cert.specs.Cert.{Row, Stated}
use Rattle.jc_code.specs.Instructions.{instr_at}
use Rattle.jc_code.specs.Listing.{IsListing, PlacedInstr}
use Rattle.jc_link.specs.Linked.{Linked}
use Rattle.jc_check.specs.Carried.{types_of}
use Rattle.jc_check.specs.Checked.{stated_for}
use Rattle.jc_check.specs.Claim.{Claim, claim_of}
use Rattle.jc_check.specs.Method.{CheckedMethod}
use Rattle.jc_check.specs.Package.{method_of, package_rules}
use Rattle.jc_check.specs.Typing.{IsTyping, Leads, Typing}
use Rattle.jc_verify.specs.Live.{IsEntered}

-- each state is at a pc that control flow enters by a branch or a handler of a reachable instruction
abbrev pub AreWhereEntered : CheckedMethod → List Stated → Type 0
AreWhereEntered m states =
    (listing : List PlacedInstr) → IsListing instr_at m.code listing
    → AllByRecursion (λ c. IsEntered m listing c.pc) states

-- the same for each method with code of a package
pub record HasStatesWhereEntered (l : Linked) (rows : List Row) : Type 0 where
  pub each : (n : ℕ) (b : MethodBody) → slice_get l.body.kept.methods n ≡ Some b
      → AreWhereEntered (method_of l b) (stated_for rows b.offset)

-- a state's classes resolve, and the state lies below the typing's state at its pc
pub record LiesBelow (l : Linked) (typing : Typing) (c : Stated) : Type 0 where
  pub claim : Claim
  pub found : claim_of (package_rules l) c ≡ Some claim
  pub leads : Leads (package_rules l) typing (types_of claim) c.pc

-- each state lies below the state of any typing of the method there, and so below that of any certificate that carries
-- the method
abbrev pub AreLeast : Linked → CheckedMethod → List Stated → Type 0
AreLeast l m states =
    (typing : Typing) → IsTyping (package_rules l) m typing → AllByRecursion (LiesBelow l typing) states

-- the same for each method with code of a package
pub record HasLeastStates (l : Linked) (rows : List Row) : Type 0 where
  pub each : (n : ℕ) (b : MethodBody) → slice_get l.body.kept.methods n ≡ Some b
      → AreLeast l (method_of l b) (stated_for rows b.offset)

-- one of the states is at a pc
pub record HasStateAt (states : List Stated) (pc : ℕ) : Type 0 where
  pub state : Stated
  pub among : Contains states state
  pub at : state.pc ≡ pc

-- each pc that control flow enters by a branch or a handler of a reachable instruction has a state
abbrev pub HasStateAtEach : CheckedMethod → List Stated → Type 0
HasStateAtEach m states =
    (listing : List PlacedInstr) → IsListing instr_at m.code listing → (pc : ℕ) → IsEntered m listing pc
    → HasStateAt states pc

-- the same for each method with code of a package
pub record HasAllStates (l : Linked) (rows : List Row) : Type 0 where
  pub each : (n : ℕ) (b : MethodBody) → slice_get l.body.kept.methods n ≡ Some b
      → HasStateAtEach (method_of l b) (stated_for rows b.offset)
