-- What is a subtype of a class or an interface is below each class that this counts below.
use Rattle.std.proofs.Common.{◌≡◌, Bool, true, false, cond, not, refl, sym, ◌∙◌, subst, arith}
use Rattle.jc_api.specs.declared.class.ApiClass.TheVariants as api
use Rattle.jc_classes.specs.Subtype.{IsSubtype, is_class_at, is_class_below, is_interface_at, is_subtype}
use Rattle.jc_classes.specs.Subtype.IsSubtype.{by_interface, by_superclass, object, same}
use Rattle.jc_link.specs.MemberType.{counted}
use Rattle.jc_names.specs.declared.name.ClassName.{ClassName}
use Rattle.jc_names.specs.declared.name.ClassName.TheVariants.{Api}
use Rattle.jc_machine.specs.Machine.{Surroundings}
use Rattle.jc_safety.proofs.Ground.{Ground}

module _ {C : Type 0} (s : Surroundings C) (ground : Ground s) where
  -- all are below Object
  pub object_above : (c : ClassName) → is_class_below s.world.shapes c (Api api.Object) ≡ true
  object_above c = refl

  -- what is neither a class nor an interface of the world has nothing below it but itself
  alone : (c e : ClassName) → IsSubtype s.world.shapes c e → is_class_at s.world.shapes e ≡ false
      → is_interface_at s.world.shapes e ≡ false → c ≡ e
  alone c e (same k) absent neither = refl
  alone c e (object k) absent neither = let there = ground.names.object in absurd cc
  alone c e (by_superclass k d f up h) absent neither =
      let is = alone d f h absent neither in
      let there = ground.sound.superclasses.classes k d up in
      let at_e = subst (λ (x : ClassName). is_class_at s.world.shapes x ≡ true) is there in
      absurd cc
  alone c e (by_interface k i f listed h) absent neither =
      let is = alone i f h absent neither in
      let there = ground.sound.superclasses.orderly.interfaces k i listed in
      let at_e = subst (λ (x : ClassName). is_interface_at s.world.shapes x ≡ true) is there in
      absurd cc

  by_counting : (c e d : ClassName) (class interface : Bool) → is_class_at s.world.shapes e ≡ class
      → is_interface_at s.world.shapes e ≡ interface → is_subtype s.world.shapes c e ≡ true
      → is_class_below s.world.shapes (cond interface (Api api.Object) e) d ≡ true
      → is_class_below s.world.shapes c d ≡ true
  by_counting c e d class true at_e is_one sub below =
      ground.order.transitive c (Api api.Object) d (object_above c) below
  by_counting c e d true false at_e is_one sub below =
      ground.order.transitive c e d (sym (ground.subtypes c e at_e) ∙ sub) below
  by_counting c e d false false at_e is_one sub below =
      subst (λ (x : ClassName). is_class_below s.world.shapes x d ≡ true)
      (sym (alone c e (ground.found c e sub) at_e is_one)) below

  pub instance_below : (c e d : ClassName) → is_subtype s.world.shapes c e ≡ true
      → is_class_below s.world.shapes (counted s.world.shapes e) d ≡ true
      → is_class_below s.world.shapes c d ≡ true
  instance_below c e d sub below =
      by_counting c e d (is_class_at s.world.shapes e) (is_interface_at s.world.shapes e) refl refl sub below

  -- ---- classes as they count in types

  reflexive : (c : ClassName) → is_class_below s.world.shapes c c ≡ true
  reflexive c = ground.order.reflexive c

  -- a class isn't an interface
  not_both : (c : ClassName) → is_class_at s.world.shapes c ≡ true → is_interface_at s.world.shapes c ≡ true → ⊥
  not_both c a b = grind (arith, not)

  -- an interface is below no class but Object
  pub interface_object : (c e : ClassName) → IsSubtype s.world.shapes c e → is_interface_at s.world.shapes c ≡ true
      → is_class_at s.world.shapes e ≡ true → e ≡ Api api.Object
  interface_object c e (same k) one class = absurd (not_both k class one)
  interface_object c e (object k) one class = refl
  interface_object c e (by_superclass k d f up h) one class = absurd (not_both k (ground.names.heirs k d up) one)
  interface_object c e (by_interface k i f listed h) one class =
      interface_object i f h (ground.sound.superclasses.orderly.interfaces k i listed) class

  counted_as : (c e : ClassName) (c_interface e_class e_interface : Bool)
      → is_interface_at s.world.shapes c ≡ c_interface → is_class_at s.world.shapes e ≡ e_class
      → is_interface_at s.world.shapes e ≡ e_interface → is_subtype s.world.shapes c e ≡ true
      → is_class_below s.world.shapes (cond c_interface (Api api.Object) c) (cond e_interface (Api api.Object) e) ≡ true
  counted_as c e c_interface e_class true a b f sub = object_above (cond c_interface (Api api.Object) c)
  counted_as c e true true false a b f sub =
      subst (λ (x : ClassName). is_class_below s.world.shapes (Api api.Object) x ≡ true)
      (sym (interface_object c e (ground.found c e sub) a b)) (reflexive (Api api.Object))
  counted_as c e false true false a b f sub = sym (ground.subtypes c e b) ∙ sub
  counted_as c e true false false a b f sub =
      let same = alone c e (ground.found c e sub) b f in
      let one = subst (λ (x : ClassName). is_interface_at s.world.shapes x ≡ true) same a in
      absurd cc
  counted_as c e false false false a b f sub =
      subst (λ (x : ClassName). is_class_below s.world.shapes c x ≡ true) (alone c e (ground.found c e sub) b f)
      (reflexive c)

  pub counted_below : (c e : ClassName) → is_subtype s.world.shapes c e ≡ true
      → is_class_below s.world.shapes (counted s.world.shapes c) (counted s.world.shapes e) ≡ true
  counted_below c e sub = grind (arith, counted_as)

  pub counted_reflexive : (c : ClassName)
      → is_class_below s.world.shapes (counted s.world.shapes c) (counted s.world.shapes c) ≡ true
  counted_reflexive c = reflexive (counted s.world.shapes c)
