-- The nearest class above two classes, by jumps.
use Rattle.std.proofs.Common.{◌≡◌, ℕ, zero, suc, ◌+◌, ◌-◌, ◌≤◌, ◌⊎◌, inl, inr, Bool, true, false, Option, Some}
use Rattle.std.proofs.Common.{None, List, is_some, refl, sym, ap, subst, ◌∙◌, arith}
use Rattle.jc_api.specs.declared.class.ApiClass.TheVariants.{Object}
use Rattle.jc_base.proofs.Binding.{none_some, the_some}
use Rattle.jc_cap_desc.specs.Shape.{Shape}
use Rattle.jc_classes.proofs.Below.{name_itself}
use Rattle.jc_classes.proofs.Meeting.{common_step}
use Rattle.jc_classes.proofs.Standing.{some_of, true_false}
use Rattle.jc_classes.proofs.Superclasses.{above_it, above_more, beyond, ends_above, enough, met, walked_up, way_up}
use Rattle.jc_classes.specs.Listed.{class_behind}
use Rattle.jc_classes.specs.PrivateTables.{IsTabled, Tabled}
use Rattle.jc_classes.specs.Subtype.{comes_to_end, common_class, common_within, is_at_or_above, is_class_below}
use Rattle.jc_classes.specs.Walk.{most_classes}
use Rattle.jc_classes.specs.World.{superclass_of}
use Rattle.jc_names.specs.Names.{is_same_name}
use Rattle.jc_names.specs.declared.name.ClassName.{ClassName}
use Rattle.jc_names.specs.declared.name.ClassName.TheVariants.{Api}

pub none_there : {A : Type 0} (o : Option A) → is_some o ≡ false → o ≡ None
none_there o none = grind (arith, true_false)

-- where superclasses have come to an end, more steps find the same
common_enough : (world : List Shape) (n m : ℕ) (c d : ClassName) → n ≤ m → comes_to_end world n c ≡ true
    → common_within world m c d ≡ common_within world n c d
common_enough world zero m c d l end = absurd (true_false (sym end))
common_enough world (suc n) zero c d l end = absurd (omega (arith, l))
common_enough world (suc n) (suc m) c d l end =
    by_test (is_class_below world d c) refl (superclass_of world c) refl
    (λ s f. common_enough world n m s d (omega (arith, l)) (ends_above world n c s end f))
  where
    by_test : (b : Bool) → is_class_below world d c ≡ b → (u : Option ClassName) → superclass_of world c ≡ u
        → ((s : ClassName) → superclass_of world c ≡ Some s → common_within world m s d ≡ common_within world n s d)
        → common_within world (suc m) c d ≡ common_within world (suc n) c d
    by_test true e u f rest = common_step world c d m true u e f ∙ sym (common_step world c d n true u e f)
    by_test false e None f rest = common_step world c d m false None e f ∙ sym (common_step world c d n false None e f)
    by_test false e (Some s) f rest =
        common_step world c d m false (Some s) e f ∙ rest s f ∙ sym (common_step world c d n false (Some s) e f)

pub common_whole : (world : List Shape) (c d : ClassName) (low : Tabled) (n : ℕ) → IsTabled world c low
    → low.depth ≤ n → common_within world n c d ≡ common_class world c d
common_whole world c d low n of far =
    common_enough world low.depth n c d far of.ends
    ∙ sym (common_enough world low.depth most_classes c d of.depth of.ends)

reaches : (world : List Shape) (m : ℕ) (c j : ClassName) → class_behind world m c ≡ Some j
    → is_at_or_above world (suc m) j c ≡ true
reaches world zero c j there =
    met world j c 0 (subst (λ x. is_same_name c x ≡ true) (the_some c j there) (name_itself c))
reaches world (suc m) c j there =
    let s = some_of (class_behind world m) (superclass_of world c) j there in
    above_it world j c (suc m) s.0 s.1 (reaches world m s.0 j s.2)

module _ (world : List Shape) (d : ClassName) (high : Tabled) (top : IsTabled world d high)
    (object : superclass_of world (Api Object) ≡ None) where
  -- what is above a class that another one is below is above that one too
  carries : (m : ℕ) (c j s : ClassName) → superclass_of world c ≡ Some s → class_behind world m c ≡ Some j
      → is_class_below world d c ≡ true → is_class_below world d j ≡ true
  carries m c j s up there below = by_way (way_up world d c below)
    where
      by_way : (Api Object ≡ c) ⊎ (is_at_or_above world most_classes c d ≡ true) → is_class_below world d j ≡ true
      by_way (inl is) = absurd (none_some s (sym object ∙ ap (superclass_of world) is ∙ up))
      by_way (inr h) =
          walked_up world d j
          (above_more world high.depth most_classes j d top.depth
          (enough world high.depth (most_classes + suc m) j d top.ends
          (beyond world most_classes (suc m) j c d h (reaches world m c j there))))

  -- a jump to a class that isn't above the other one passes none that is
  passes : (sum m n : ℕ) (c j : ClassName) → sum ≡ m + n → class_behind world m c ≡ Some j
      → is_class_below world d j ≡ false → common_within world sum c d ≡ common_within world n j d
  passes sum zero n c j one there apart =
      let same : sum ≡ n = omega (arith, one) in
      ap (λ i. common_within world i c d) same ∙ ap (λ x. common_within world n x d) (the_some c j there)
  passes zero (suc m) n c j one there apart = absurd (omega (arith, one))
  passes (suc sum) (suc m) n c j one there apart =
      let s = some_of (class_behind world m) (superclass_of world c) j there in
      by_test (is_class_below world d c) refl s.0 s.1 (passes sum m n s.0 j (omega (arith, one)) s.2 apart)
    where
      by_test : (b : Bool) → is_class_below world d c ≡ b → (s : ClassName) → superclass_of world c ≡ Some s
          → common_within world sum s d ≡ common_within world n j d
          → common_within world (suc sum) c d ≡ common_within world n j d
      by_test true below s up rest = absurd (true_false (sym (carries (suc m) c j s up there below) ∙ apart))
      by_test false other s up rest = common_step world c d sum false (Some s) other up ∙ rest

  pub jumps_apart : (c : ClassName) (low : Tabled) → IsTabled world c low
      → is_class_below world d low.jump.to ≡ false → common_class world low.jump.to d ≡ common_class world c d
  jumps_apart c low of apart =
      let few = of.depth in
      let m = low.depth - low.jump.depth in
      sym (passes (m + most_classes) m most_classes c low.jump.to refl of.jump.there apart)
      ∙ common_whole world c d low (m + most_classes) of (omega (arith, few))

pub steps_apart : (world : List Shape) (c d s : ClassName) (low : Tabled) → IsTabled world c low
    → superclass_of world c ≡ Some s → is_class_below world d c ≡ false
    → common_class world s d ≡ common_class world c d
steps_apart world c d s low of up apart =
    let few = of.depth in
    sym (common_step world c d most_classes false (Some s) apart up)
    ∙ common_whole world c d low (suc most_classes) of (omega (arith, few))
