-- What is above a class by its supertypes, and by superclasses alone.
use Rattle.std.proofs.Common.{◌≡◌, ◌⊎◌, inl, inr, ℕ, suc, ◌||◌, Bool, true, false, not, List, Option, Some, None}
use Rattle.std.proofs.Common.{slice_get, is_some, refl, sym, ap, ◌∙◌, arith}
use Rattle.std.specs.Option.{option_map_or}
use Rattle.jc_api.specs.declared.class.ApiClass.TheVariants.{Object, Shareable}
use Rattle.jc_base.proofs.Binding.{none_some}
use Rattle.jc_cap.specs.ClassComponent.{is_class}
use Rattle.jc_cap_desc.specs.Shape.{ClassShape, Shape}
use Rattle.jc_classes.specs.Subtype.{IsSubtype, by_interface, by_superclass, is_at_or_above, is_class_at}
use Rattle.jc_classes.specs.Subtype.{is_class_below, is_interface_at, is_subtype, object, same}
use Rattle.jc_classes.specs.Walk.{most_classes}
use Rattle.jc_classes.specs.World.{class_at}
use Rattle.jc_link.specs.Sound.{IsSound}
use Rattle.jc_names.specs.Names.{is_same_name}
use Rattle.jc_names.specs.declared.name.ClassName.{ClassName}
use Rattle.jc_names.specs.declared.name.ClassName.TheVariants.{Api}
use Rattle.jc_program.specs.Classes.{class_names, class_number}
use Rattle.jc_program.proofs.Chaining.{most_is}
use Rattle.jc_program.proofs.Counting.{numbered}
use Rattle.jc_program.proofs.Same.{name_itself, true_false}

module _ (world : List Shape) (sound : IsSound world) where
  -- what stands nowhere is neither a class nor an interface
  no_class : (c : ClassName) → class_at world c ≡ None → is_class_at world c ≡ false
  no_class c none = ap (λ (o : Option ClassShape). option_map_or (λ k. is_class k.body) o false) none

  no_interface : (c : ClassName) → class_at world c ≡ None → is_interface_at world c ≡ false
  no_interface c none = ap (λ (o : Option ClassShape). option_map_or (λ k. not (is_class k.body)) o false) none

  -- it is above itself alone, or is Object
  nowhere : (c d : ClassName) → IsSubtype world c d → class_at world d ≡ None → (Api Object ≡ d) ⊎ (c ≡ d)
  nowhere c d (same e) none = inr refl
  nowhere c d (object e) none = inl refl
  nowhere c d (by_superclass b s e is below) none = by_rest (nowhere s e below none)
    where
      by_rest : (Api Object ≡ e) ⊎ (s ≡ e) → (Api Object ≡ e) ⊎ (b ≡ e)
      by_rest (inl o) = inl o
      by_rest (inr one) =
          let there = sound.superclasses.classes b s is in let gone = no_class e none in
          true_false (sym there ∙ ap (is_class_at world) one ∙ gone)
  nowhere c d (by_interface b i e lists below) none = by_rest (nowhere i e below none)
    where
      by_rest : (Api Object ≡ e) ⊎ (i ≡ e) → (Api Object ≡ e) ⊎ (b ≡ e)
      by_rest (inl o) = inl o
      by_rest (inr one) =
          let there = sound.superclasses.orderly.interfaces b i lists in let gone = no_interface e none in
          true_false (sym there ∙ ap (is_interface_at world) one ∙ gone)

  -- no class is below Shareable where that has no number
  pub not_shareable : ((c d : ClassName) → is_subtype world c d ≡ true → IsSubtype world c d)
      → class_number (class_names world) (Api Shareable) ≡ None → (n : ℕ) (c : ClassName)
      → slice_get (class_names world) n ≡ Some c → false ≡ is_subtype world c (Api Shareable)
  not_shareable found gone n c at = by_test (is_subtype world c (Api Shareable)) refl
    where
      no_shareable : (o : Option ClassShape) → class_at world (Api Shareable) ≡ o
          → class_at world (Api Shareable) ≡ None
      no_shareable None e = e
      no_shareable (Some k) e =
          let number = (numbered world).numbers (Api Shareable) k (omega arith) e in
          absurd (none_some number.number (sym gone ∙ number.found))

      by_place : (Api Object ≡ Api Shareable) ⊎ (c ≡ Api Shareable) → false ≡ true
      by_place (inl other) = absurd cc
      by_place (inr one) =
          true_false (sym ((numbered world).classes n c at) ∙ ap (λ d. is_some (class_at world d)) one
          ∙ ap is_some (no_shareable (class_at world (Api Shareable)) refl))

      by_test : (b : Bool) → is_subtype world c (Api Shareable) ≡ b → false ≡ b
      by_test b h1 = grind (arith, by_place, nowhere, no_shareable)

  -- by superclasses both are above too
  or_true : (b : Bool) → (b || true) ≡ true
  or_true b = grind arith

  above_itself : (n m : ℕ) (c : ClassName) → n ≡ suc m → is_at_or_above world n c c ≡ true
  above_itself n m c one = grind (arith, name_itself)

  below_both : (c d : ClassName) → (Api Object ≡ d) ⊎ (c ≡ d) → is_class_below world c d ≡ true
  below_both c d (inl o) =
      ap (λ e. is_same_name (Api Object) e || is_at_or_above world most_classes d c) (sym o)
      ∙ ap (λ b. b || is_at_or_above world most_classes d c) (name_itself (Api Object))
  below_both c d (inr one) =
      ap (λ e. is_same_name (Api Object) d || is_at_or_above world most_classes d e) one
      ∙ ap (λ b. is_same_name (Api Object) d || b) (above_itself most_classes 17_084 d most_is)
      ∙ or_true (is_same_name (Api Object) d)

  pub class_below : ((c d : ClassName) → is_subtype world c d ≡ true → IsSubtype world c d)
      → ((c d : ClassName) → is_class_below world c d ≡ true → is_subtype world c d ≡ true)
      → ((c d : ClassName) → is_class_at world d ≡ true → is_subtype world c d ≡ is_class_below world c d)
      → (c d : ClassName) → is_interface_at world d ≡ false → is_class_below world c d ≡ is_subtype world c d
  class_below found below classes c d isnt = by_class (class_at world d) refl
    where
      by_tests : (a b : Bool) → (a ≡ true → b ≡ true) → (b ≡ true → a ≡ true) → a ≡ b
      by_tests a b h1 h2 = grind arith

      not_false : (b : Bool) → not b ≡ false → b ≡ true
      not_false b h1 = grind arith

      by_class : (o : Option ClassShape) → class_at world d ≡ o → is_class_below world c d ≡ is_subtype world c d
      by_class o h1 = grind (arith, None, by_tests, below_both, nowhere, Some, Option, not, not_false)
