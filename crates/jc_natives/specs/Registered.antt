-- The registered instances after a call of the runtime (Java Card Runtime Environment Specification, Applet Lifetime;
-- Java Card API Specification, Applet.register).
use Rattle.std.specs.Prelude.{⊤, ◌≡◌, true, false, [], ◌∷◌, ◌++◌, Some}
use Rattle.jc_machine.specs.Step.{CallEnd, Gave, RanOut, Threw, WasStuck}
use Rattle.jc_natives.specs.Kept.{Kept}
use Rattle.jc_natives.specs.declared.kept.Installing.{Installing}
use Rattle.jc_natives.specs.declared.kept.Instance.{Instance}

-- the instances and the one that is being installed are unchanged; or that one hadn't registered, and now it has: there
-- is one more instance, with its owner
pub data MayRegister (before after : Kept) : Type 0 where
  as_they_were : after.instances ≡ before.instances → after.installing ≡ before.installing → MayRegister before after
  one_more : (installing : Installing) (instance : Instance) → before.installing ≡ Some installing
      → installing.registered ≡ false → instance.owner ≡ installing.owner
      → after.instances ≡ before.instances ++ instance ∷ []
      → after.installing ≡ Some (record { owner = installing.owner; aid = installing.aid; registered = true })
      → MayRegister before after

-- the same after a call, unless that was stuck
abbrev pub LeavesInstances : Kept → CallEnd Kept → Type 0
LeavesInstances before (Gave m value) = MayRegister before m.runtime
LeavesInstances before (Threw m object at denied) = MayRegister before m.runtime
LeavesInstances before (RanOut m spent at) = MayRegister before m.runtime
LeavesInstances before WasStuck = ⊤
