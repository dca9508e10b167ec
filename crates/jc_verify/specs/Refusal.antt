-- Which packages get no certificate: those that none can carry.
use Rattle.std.specs.Prelude.{◌≡◌, ⊤, ℕ, ◌<◌, ◌^◌, List, Some, length, slice_get}
use Rattle.std.specs.List.{AllByRecursion}
use Rattle.jc_cap_desc.specs.Shape.{MethodBody}
use Rattle.jc_cert.specs.Cert.{IsStated, PcsAscend, Stated}
use Rattle.jc_link.specs.Linked.{Linked}
use Rattle.jc_check.specs.Carried.{Carries}
use Rattle.jc_check.specs.Method.{CheckedMethod}
use Rattle.jc_check.specs.Package.{method_of, package_rules}
use Rattle.jc_check.specs.declared.fault.Fault.{Fault}
use Rattle.jc_verify.specs.MethodFault.{IsToldOf}
use Rattle.jc_verify.specs.declared.fault.VerifyFault.{VerifyFault}
use Rattle.jc_verify.specs.declared.fault.VerifyFault.TheVariants.{Memory, NoCertificate}

-- states that a certificate may have for a method: fewer than 65,536 by ascending pc, whose counts and names fit. A
-- method with none has no row
pub record AreStates (states : List Stated) : Type 0 where
  pub few : length states < 2 ^ 16
  pub ascend : PcsAscend 0 states
  pub each : AllByRecursion IsStated states

-- some such states carry a method
pub record CanBeCarried (l : Linked) (m : CheckedMethod) : Type 0 where
  pub states : List Stated
  pub are : AreStates states
  pub carried : Carries (package_rules l) m states

-- no such states carry the method with code at this offset, and each method of lower offset can be carried
pub record IsFirstWithout (l : Linked) (offset : ℕ) : Type 0 where
  pub place : ℕ
  pub method : MethodBody
  pub is : slice_get l.body.kept.methods place ≡ Some method
  pub at : method.offset ≡ offset
  pub without : CanBeCarried l (method_of l method) → ⊥
  pub before : (n : ℕ) (b : MethodBody) → slice_get l.body.kept.methods n ≡ Some b → b.offset < offset
      → CanBeCarried l (method_of l b)

-- the method at this offset is the first that no such states carry, and the fault is one of its faults
pub record IsUncarried (l : Linked) (offset : ℕ) (fault : Fault) : Type 0 where
  pub first : IsFirstWithout l offset
  pub told : IsToldOf (package_rules l) (method_of l first.method) fault

-- why there is no certificate: a fault of the method of least offset that no such states carry; or out of memory
abbrev pub IsRefusal : Linked → VerifyFault → Type 0
IsRefusal l (NoCertificate method fault) = IsUncarried l method fault
IsRefusal l Memory = ⊤
