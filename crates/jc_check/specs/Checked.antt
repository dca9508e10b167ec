-- When a certificate carries a package, and the first refusal of a package that it doesn't carry.
use Rattle.std.specs.Prelude.{◌≡◌, ◌⊎◌, ℕ, ◌<◌, ◌==◌, not, Bool, List, [], Option, Some, None, slice_get}
use Rattle.std.specs.List.{find, list_any}
use Rattle.std.specs.Option.{option_map, option_map_or}
use Rattle.jc_base.specs.declared.fault.LoadFault.{LoadFault}
use Rattle.jc_base.specs.declared.fault.LoadFault.TheVariants.{MethodRefused, Memory}
use Rattle.jc_base.specs.declared.reason.Reason.TheVariants.{CertMismatch}
use Rattle.jc_cap_desc.specs.Shape.{MethodBody}
use Rattle.jc_cert.specs.Cert.{IsCert, Row, Stated}
use Rattle.jc_link.specs.Linked.{Linked}
use Rattle.jc_check.specs.Carried.{Carries}
use Rattle.jc_check.specs.FirstFault.{IsFirstFault}
use Rattle.jc_check.specs.Package.{method_of, package_rules}
use Rattle.jc_check.specs.Typing.{Typing, IsShaped, IsTyping}
use Rattle.jc_check.specs.declared.fault.Fault.{Fault}

-- the states that a certificate has for the method at an offset
abbrev pub stated_for : List Row → ℕ → List Stated
stated_for rows offset = option_map_or (λ row. row.states) (find (λ row. row.offset == offset) rows) []

-- whether a method with code stands at an offset
abbrev pub has_code_at : List MethodBody → ℕ → Bool
has_code_at methods offset = list_any (λ b. offset == b.offset) methods

-- the offset of the first row for an offset without a method with code
abbrev pub stray_offset : List MethodBody → List Row → Option ℕ
stray_offset methods rows = option_map (λ row. row.offset) (find (λ row. not (has_code_at methods row.offset)) rows)

-- the states that the certificate has for a method with code carry it
abbrev pub IsMethodCarried : Linked → List Row → MethodBody → Type 0
IsMethodCarried l rows b = Carries (package_rules l) (method_of l b) (stated_for rows b.offset)

-- the certificate carries a package: it has no row for an offset without code, and each method with code is carried
pub record CarriesPackage (l : Linked) (rows : List Row) : Type 0 where
  pub no_stray : stray_offset l.body.kept.methods rows ≡ None
  pub methods : (n : ℕ) (b : MethodBody) → slice_get l.body.kept.methods n ≡ Some b → IsMethodCarried l rows b

-- the first fault of a method with code; all methods at lower offsets are carried
pub record IsFirstUncarried (l : Linked) (rows : List Row) (b : MethodBody) (fault : Fault) : Type 0 where
  pub place : ℕ
  pub is : slice_get l.body.kept.methods place ≡ Some b
  pub first : IsFirstFault (package_rules l) (method_of l b) (stated_for rows b.offset) fault
  pub before : (n : ℕ) (c : MethodBody) → slice_get l.body.kept.methods n ≡ Some c → c.offset < b.offset
      → IsMethodCarried l rows c

-- the first refusal: that of the first row for an offset without code; otherwise that of the method with the least
-- offset that isn't carried
pub data IsFirstRefusal (l : Linked) (rows : List Row) : LoadFault → Type 0 where
  stray : (offset : ℕ) → stray_offset l.body.kept.methods rows ≡ Some offset
      → IsFirstRefusal l rows (MethodRefused offset 0 CertMismatch)
  method : (b : MethodBody) (fault : Fault) → stray_offset l.body.kept.methods rows ≡ None
      → IsFirstUncarried l rows b fault → IsFirstRefusal l rows (MethodRefused b.offset fault.pc fault.reason)

-- the first refusal, or out of memory
abbrev pub IsCheckRefusal : Linked → List Row → LoadFault → Type 0
IsCheckRefusal l rows fault = (fault ≡ Memory) ⊎ IsFirstRefusal l rows fault

-- a package that some certificate carries
pub record IsPackageCarried (l : Linked) : Type 0 where
  pub rows : List Row
  pub cert : IsCert rows
  pub carried : CarriesPackage l rows

-- a method with code is well typed, by a typing with its shape
pub record IsMethodTyped (l : Linked) (b : MethodBody) : Type 0 where
  pub typing : Typing
  pub typed : IsTyping (package_rules l) (method_of l b) typing
  pub shaped : IsShaped (method_of l b) typing

-- each method with code is well typed
pub record IsPackageTyped (l : Linked) : Type 0 where
  pub each : (n : ℕ) (b : MethodBody) → slice_get l.body.kept.methods n ≡ Some b → IsMethodTyped l b
