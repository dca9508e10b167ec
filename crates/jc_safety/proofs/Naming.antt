-- Classes that the code of a package names: they are of the world in which it was linked.
use Rattle.std.proofs.Common.{◌≡◌, ℕ, List, Option, Some, Bool, true, false, not, slice_get, subst, arith}
use Rattle.std.specs.Option.{option_map_or}
use Rattle.jc_cap_desc.specs.Shape.{Shape}
use Rattle.jc_classes.specs.Growth.{IsWithin, StandWithin}
use Rattle.jc_classes.specs.Subtype.{is_class_at}
use Rattle.jc_link.specs.KnownTypes.{is_known_target}
use Rattle.jc_link.specs.Linked.{LinkedBody, World}
use Rattle.jc_link.specs.MemberType.{counted}
use Rattle.jc_link.specs.declared.target.PoolTarget.{PoolTarget}
use Rattle.jc_link.specs.declared.target.PoolTarget.TheVariants as To
use Rattle.jc_names.specs.declared.name.ClassName.{ClassName}
use Rattle.jc_effects.specs.Objects.{class_target, has_objects}
use Rattle.jc_machine.specs.Accepted.{linked_as}
use Rattle.jc_safety.proofs.Ground.{Stands}

pub passing : {A : Type 0} (test : A → Bool) (o : Option A) → option_map_or test o false ≡ true → (a : A) × (o ≡ Some a)
passing test o h1 = grind arith

-- an entry that is a class
class_entry : (target : PoolTarget) (c : ClassName) → class_target target ≡ Some c → target ≡ To.Class c
class_entry target c h1 = grind arith

-- a class or an interface that counts as a class is there
there_counted : (world : List Shape) → StandWithin world → (c : ClassName) → is_class_at world (counted world c) ≡ true
    → IsWithin world c
there_counted world within c e = grind (arith, passing, not)

module _ (w : World) (number : ℕ) (body : LinkedBody) (stands : Stands w number body) where
  -- a class that an entry is: as it counts, and whether it has objects, is as it was where the package was linked
  pub record Named (c : ClassName) : Type 0 where
    pub counts : counted w.shapes c ≡ counted (linked_as w number body).world c
    pub objects : has_objects w.shapes c ≡ has_objects (linked_as w number body).world c

  pub named_class : (index : ℕ) (target : PoolTarget) (c : ClassName) → slice_get body.targets index ≡ Some target
      → class_target target ≡ Some c → Named c
  named_class index target c there is =
      let same = class_entry target c is in
      let known = subst (λ (x : PoolTarget). is_known_target (linked_as w number body).world x ≡ true) same
      (stands.named index target there) in
      let within = there_counted (linked_as w number body).world stands.within c known in
      record { counts = stands.linking.counts c within; objects = stands.members.objects c within }
