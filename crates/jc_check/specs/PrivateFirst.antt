-- Private. What is known of a package's methods while they are checked one after the other.
use Rattle.std.specs.Prelude.{◌≡◌, ℕ, ◌<◌, List, Option, Some, None, slice_get}
use Rattle.jc_cap_desc.specs.Shape.{MethodBody}
use Rattle.jc_cert.specs.Cert.{Row}
use Rattle.jc_link.specs.Linked.{Linked}
use Rattle.jc_check.specs.Checked.{IsMethodCarried, stated_for}
use Rattle.jc_check.specs.FirstFault.{IsFirstFault}
use Rattle.jc_check.specs.Package.{method_of, package_rules}
use Rattle.jc_check.specs.declared.fault.MethodFault.{MethodFault}

-- the fault of a method that isn't carried
pub record IsUncarried (l : Linked) (rows : List Row) (b : MethodBody) (f : MethodFault) : Type 0 where
  pub method : f.method ≡ b.offset
  pub first : IsFirstFault (package_rules l) (method_of l b) (stated_for rows b.offset) f.fault

-- of the first n methods: one isn't carried, and those with lower offsets are
pub record IsLeast (l : Linked) (rows : List Row) (n : ℕ) (f : MethodFault) : Type 0 where
  pub place : ℕ
  pub b : MethodBody
  pub is : slice_get l.body.kept.methods place ≡ Some b
  pub fault : IsUncarried l rows b f
  pub before : (k : ℕ) (c : MethodBody) → k < n → slice_get l.body.kept.methods k ≡ Some c → c.offset < f.method
      → IsMethodCarried l rows c

-- the first n methods are carried, or the reported one has the least offset of those that aren't
abbrev pub LeastOf : Linked → List Row → ℕ → Option MethodFault → Type 0
LeastOf l rows n None =
    (k : ℕ) (c : MethodBody) → k < n → slice_get l.body.kept.methods k ≡ Some c → IsMethodCarried l rows c
LeastOf l rows n (Some f) = IsLeast l rows n f
