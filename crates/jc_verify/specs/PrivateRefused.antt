-- Private. What holds of the methods with code of each linked package.
use Rattle.std.specs.Prelude.{◌≡◌, ℕ, ◌+◌, ◌^◌, ◌<◌, Some, length, slice_get}
use Rattle.jc_cap_desc.specs.Shape.{MethodBody, StandApart}
use Rattle.jc_link.specs.Linked.{Linked}
use Rattle.jc_check.specs.Package.{method_of}
use Rattle.jc_verify.specs.PrivateNames.{KeepsNames}

-- the methods with code have different offsets, control flow through them keeps to classes with names, and the counts
-- of their locals fit two bytes
pub record HasFitMethods (l : Linked) : Type 0 where
  pub apart : StandApart l.body.kept.methods
  pub named : (n : ℕ) (b : MethodBody) → slice_get l.body.kept.methods n ≡ Some b → KeepsNames l (method_of l b)
  pub locals : (n : ℕ) (b : MethodBody) → slice_get l.body.kept.methods n ≡ Some b
      → length (method_of l b).arguments + (method_of l b).max_locals < 2 ^ 16
