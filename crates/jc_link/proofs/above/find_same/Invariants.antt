use Rattle.std.proofs.Common.{◌≡◌, Some, ℕ, ◌<◌}
use Rattle.jc_classes.specs.Methods.{public_method_of}
use Rattle.jc_classes.specs.World.{superclass_of}
use Rattle.jc_names.specs.declared.name.ClassName.{ClassName}
use Rattle.jc_link.proofs.above.find_same.Given as goal

-- the same is found at each token before
abbrev pub invariant-loop-token : goal.invariant-loop-token
invariant-loop-token l =
    (above : ClassName) → superclass_of l.class.world l.class.class ≡ Some above
    → (t : ℕ) → t < l.token
    → public_method_of l.class.world l.class.class t ≡ public_method_of l.class.world above t
