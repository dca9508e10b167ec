-- Private. What is known of a package's rows, gathered method by method.
use Rattle.std.specs.Prelude.{◌≡◌, ◌⊎◌, ℕ, ◌+◌, ◌^◌, ◌<◌, ◌≤◌, List, [], ◌∷◌, ◌++◌, Some, None, length, slice_get}
use Rattle.std.specs.List.{AllByRecursion}
use Rattle.jc_cap_desc.specs.Shape.{MethodBody}
use Rattle.jc_cert.specs.Cert.{IsStatedType, PcsAscend, Row, Stated, rows}
use Rattle.jc_link.specs.Linked.{Linked}
use Rattle.jc_check.specs.Carried.{Carries}
use Rattle.jc_check.specs.Method.{CheckedMethod}
use Rattle.jc_check.specs.Package.{method_of, package_rules}
use Rattle.jc_check.specs.declared.fault.Fault.{Fault}
use Rattle.jc_verify.specs.Inferred.{AreLeast, AreWhereEntered}
use Rattle.jc_verify.specs.PrivateNames.{KeepsNames}
use Rattle.jc_verify.specs.PrivateTurns.{AreCounted}
use Rattle.jc_verify.specs.Refusal.{CanBeCarried}
use Rattle.jc_verify.specs.MethodFault.{IsToldOf}
use Rattle.jc_verify.specs.declared.gathering.Gathered.{Gathered}
use Rattle.jc_verify.specs.declared.gathering.MethodFault.{MethodFault}

-- a method with code is at an index among the first of a package
pub record Stands (l : Linked) (n k : ℕ) (b : MethodBody) : Type 0 where
  pub first : k < n
  pub is : slice_get l.body.kept.methods k ≡ Some b

-- a state with as many locals as the method; its pc fits two bytes, its count of operands one, and its names fit
pub record IsInShape (m : CheckedMethod) (c : Stated) : Type 0 where
  pub pc : c.pc < 2 ^ 16
  pub locals : length c.locals ≡ length m.arguments + m.max_locals
  pub depth : length c.operands < 2 ^ 8
  pub each_local : AllByRecursion IsStatedType c.locals
  pub each_operand : AllByRecursion IsStatedType c.operands

-- such states by ascending pc, whose count fits two bytes
pub record AreInOrder (m : CheckedMethod) (states : List Stated) : Type 0 where
  pub few : length states < 2 ^ 16
  pub ascend : PcsAscend 0 states
  pub each : AllByRecursion (IsInShape m) states

-- states carry a method, are where control flow enters it, are the least, and are in order
pub record IsInferred (l : Linked) (m : CheckedMethod) (states : List Stated) : Type 0 where
  pub carried : Carries (package_rules l) m states
  pub entered : AreWhereEntered m states
  pub least : AreLeast l m states
  pub order : AreInOrder m states

-- a row has the inferred states of one of the first methods, at least one
pub record IsRowOf (l : Linked) (n : ℕ) (r : Row) : Type 0 where
  pub place : ℕ
  pub method : MethodBody
  pub stands : Stands l n place method
  pub offset : r.offset ≡ method.offset
  pub small : r.offset < 2 ^ 16
  pub some : 1 ≤ length r.states
  pub inferred : IsInferred l (method_of l method) r.states

-- one of the rows is for an offset
pub record HasRow (of : List Row) (offset : ℕ) : Type 0 where
  pub place : ℕ
  pub row : Row
  pub is : slice_get of place ≡ Some row
  pub for : row.offset ≡ offset

-- each of the first methods has a row, or is carried without a state; each row is for one of these methods, and no two
-- are for the same
pub record AreGathered (l : Linked) (n : ℕ) (of : List Row) : Type 0 where
  pub each : (k : ℕ) (b : MethodBody) → Stands l n k b → IsInferred l (method_of l b) [] ⊎ HasRow of b.offset
  pub come : (k : ℕ) (r : Row) → slice_get of k ≡ Some r → IsRowOf l n r
  pub distinct : (j k : ℕ) (r s : Row) → slice_get of j ≡ Some r → slice_get of k ≡ Some s → r.offset ≡ s.offset → j ≡ k
  pub few : length of ≤ n

-- states were inferred for a method
pub record CanBeInferred (l : Linked) (m : CheckedMethod) : Type 0 where
  pub states : List Stated
  pub inferred : IsInferred l m states

-- no states carry a method, or control flow through it doesn't keep to classes with names
abbrev pub IsDenied : Linked → CheckedMethod → Type 0
IsDenied l m = (CanBeCarried l m → ⊥) ⊎ (KeepsNames l m → ⊥)

-- no states carry the method with code at this offset, and the fault is one of its faults
pub record IsTold (l : Linked) (offset : ℕ) (fault : Fault) : Type 0 where
  pub place : ℕ
  pub method : MethodBody
  pub is : slice_get l.body.kept.methods place ≡ Some method
  pub at : method.offset ≡ offset
  pub without : CanBeCarried l (method_of l method) → ⊥
  pub told : IsToldOf (package_rules l) (method_of l method) fault

-- if there is no fault, the first methods are gathered and counted. No states carry the method with the fault. States
-- were inferred for methods of lower offset, or for all if there is no fault
pub record IsSoFar (l : Linked) (n : ℕ) (g : Gathered) : Type 0 where
  pub gathered : g.told ≡ None → AreGathered l n (rows g.rows.items)
  pub told : (t : MethodFault) → g.told ≡ Some t → IsTold l t.method t.fault
  pub counted : g.told ≡ None → AreCounted l n (rows g.rows.items) g.followed
  pub carried : (k : ℕ) (b : MethodBody) → Stands l n k b → ((t : MethodFault) → g.told ≡ Some t → b.offset < t.method)
      → CanBeInferred l (method_of l b)

-- the row of a method was appended, if it has states
abbrev pub IsPut : ℕ → List Stated → List Row → List Row → Type 0
IsPut offset states before after =
    ((states ≡ []) × (after ≡ before))
    ⊎ ((1 ≤ length states) × (after ≡ before ++ record { offset = offset; states = states } ∷ []))
