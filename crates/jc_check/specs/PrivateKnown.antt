-- Private. A method with code of a linked package has few locals, and few operands at most.
use Rattle.std.specs.Prelude.{◌≡◌, ℕ, ◌+◌, ◌<◌, ◌^◌, Some, length, slice_get}
use Rattle.std.specs.Option.{option_map_or}
use Rattle.jc_cap_desc.specs.Shape.{MethodBody}
use Rattle.jc_classes.specs.Members.{DeclaredMethod}
use Rattle.jc_link.specs.Linked.{Linked}
use Rattle.jc_check.specs.Package.{max_locals_of, method_of}

-- the numbers of a method's header are bytes
pub record IsSmallHeader (d : DeclaredMethod) : Type 0 where
  pub arguments : option_map_or (λ h. h.nargs) d.method.header 0 < 2 ^ 8
  pub locals : max_locals_of d < 2 ^ 8
  pub stack : option_map_or (λ h. h.max_stack) d.method.header 0 < 2 ^ 8

pub record IsSmallFrame (l : Linked) (b : MethodBody) : Type 0 where
  pub locals : length (method_of l b).arguments + (method_of l b).max_locals < 2 ^ 16
  pub stack : (method_of l b).max_stack < 2 ^ 8

-- the first `count` methods with code have such frames
pub record AreSmallFrames (l : Linked) (count : ℕ) : Type 0 where
  pub each : (n : ℕ) (b : MethodBody) → n < count → slice_get l.body.kept.methods n ≡ Some b → IsSmallFrame l b
