-- Where the ways up from two classes meet, and how far it is up to Object.
use Rattle.std.proofs.Common.{◌≡◌, ℕ, zero, suc, ◌+◌, ◌<◌, ◌≤◌, ◌⊎◌, inl, inr, Bool, true, false, cond, Option, Some, None, List, refl, sym, ap, ◌∙◌, arith}
use Rattle.std.specs.Option.{option_map_or}
use Rattle.jc_base.proofs.Binding.{none_some}
use Rattle.jc_cap_desc.specs.Shape.{Shape}
use Rattle.jc_api.specs.declared.class.ApiClass.TheVariants.{Object}
use Rattle.jc_classes.proofs.Below.{name_is, name_itself}
use Rattle.jc_classes.proofs.Standing.{true_false}
use Rattle.jc_classes.proofs.Superclasses.{met, above_it, above_more, found_by, ends_above, way_up, below_object, walked_up, itself, on_through, is_order}
use Rattle.jc_classes.proofs.Walking.{most_is}
use Rattle.jc_names.specs.Names.{is_same_name}
use Rattle.jc_classes.specs.Subtype.{comes_to_end, IsOrderly, IsClassLattice, is_at_or_above, is_class_below, common_within, common_class, above_within, classes_above}
use Rattle.jc_classes.specs.Walk.{most_classes}
use Rattle.jc_classes.specs.World.{superclass_of}
use Rattle.jc_names.specs.declared.name.ClassName.{ClassName}
use Rattle.jc_names.specs.declared.name.ClassName.TheVariants.{Api}

-- ---- one class more

module _ (world : List Shape) (c d : ClassName) (n : ℕ) where
  pub common_step : (b : Bool) (o : Option ClassName) → is_class_below world d c ≡ b → superclass_of world c ≡ o
      → common_within world (suc n) c d ≡ cond b c (option_map_or (λ e. common_within world n e d) o (Api Object))
  common_step b o e f = grind arith

above_step : (world : List Shape) (c : ClassName) (n : ℕ) (b : Bool) (o : Option ClassName) → is_same_name (Api Object) c ≡ b → superclass_of world c ≡ o
    → above_within world (suc n) c ≡ cond b 0 (option_map_or (λ e. suc (above_within world n e)) o 1)
above_step world c n b o e f = grind arith

-- ---- what the loops keep

module _ (world : List Shape) (c d : ClassName) (n m : ℕ) (total : ClassName) (one : n ≡ suc m) (so_far : common_within world n c d ≡ total) where
  one_left : common_within world (suc m) c d ≡ total
  one_left = ap (λ i. common_within world i c d) (sym one) ∙ so_far

  pub meets : is_class_below world d c ≡ true → c ≡ total
  meets e = sym (common_step world c d m true (superclass_of world c) e refl) ∙ one_left

  module _ (apart : is_class_below world d c ≡ false) where
    pub meets_nowhere : superclass_of world c ≡ None → Api Object ≡ total
    meets_nowhere f = sym (common_step world c d m false None apart f) ∙ one_left

    pub meets_above : (e : ClassName) → superclass_of world c ≡ Some e → common_within world m e d ≡ total
    meets_above e f = sym (common_step world c d m false (Some e) apart f) ∙ one_left

pub meets_at_end : (world : List Shape) (c d : ClassName) (n : ℕ) (total : ClassName) → n ≡ 0 → common_within world n c d ≡ total → Api Object ≡ total
meets_at_end world c d n total none so_far = ap (λ i. common_within world i c d) (sym none) ∙ so_far

module _ (world : List Shape) (c : ClassName) (n m counted total : ℕ) (one : n ≡ suc m) (so_far : counted + above_within world n c ≡ total) where
  counted_left : counted + above_within world (suc m) c ≡ total
  counted_left = ap (λ i. counted + above_within world i c) (sym one) ∙ so_far

  pub at_object : is_same_name (Api Object) c ≡ true → counted ≡ total
  at_object e = omega (arith, counted_left, above_step world c m true (superclass_of world c) e refl)

  module _ (other : is_same_name (Api Object) c ≡ false) where
    pub at_last : superclass_of world c ≡ None → counted + 1 ≡ total
    at_last f = omega (arith, counted_left, above_step world c m false None other f)

    pub counts_on : (e : ClassName) → superclass_of world c ≡ Some e → counted + 1 + above_within world m e ≡ total
    counts_on e f = omega (arith, counted_left, above_step world c m false (Some e) other f)

pub counted_out : (world : List Shape) (c : ClassName) (n counted total : ℕ) → n ≡ 0 → counted + above_within world n c ≡ total → counted ≡ total
counted_out world c n counted total none so_far = grind arith

-- ---- the class where two ways meet

module _ (world : List Shape) where
  above_all : (c : ClassName) → is_class_below world c (Api Object) ≡ true
  above_all c = below_object world c (Api Object) refl

  -- a class is below its superclass
  below_super : (c s : ClassName) → superclass_of world c ≡ Some s → is_class_below world c s ≡ true
  below_super c s f = walked_up world c s (above_more world 2 most_classes s c (omega (arith, most_is)) (above_it world s c 1 s f (met world s s 0 (name_itself s))))

  -- what is above a class, and isn't the class, is above its superclass
  above_super : (c e : ClassName) → is_class_below world c e ≡ true → (c ≡ e → ⊥) → (Api Object ≡ e) ⊎ ((s : ClassName) × (superclass_of world c ≡ Some s) × (is_class_below world s e ≡ true))
  above_super c e h other = by_way (way_up world c e h)
    where
      by_found : (c ≡ e) ⊎ ((s : ClassName) × (superclass_of world c ≡ Some s) × (is_at_or_above world most_classes e s ≡ true))
          → (Api Object ≡ e) ⊎ ((s : ClassName) × (superclass_of world c ≡ Some s) × (is_class_below world s e ≡ true))
      by_found (inl is) = absurd (other is)
      by_found (inr r) = inr (r.0, r.1, walked_up world r.0 e r.2)

      by_way : (Api Object ≡ e) ⊎ (is_at_or_above world most_classes e c ≡ true) → (Api Object ≡ e) ⊎ ((s : ClassName) × (superclass_of world c ≡ Some s) × (is_class_below world s e ≡ true))
      by_way (inl is) = inl is
      by_way (inr w) = by_found (found_by world e c most_classes (above_more world most_classes (suc most_classes) e c (omega arith) w))

  module _ (o : IsOrderly world) (top : superclass_of world (Api Object) ≡ None) where
    common_first : (n : ℕ) (c d : ClassName) → is_class_below world c (common_within world n c d) ≡ true
    common_first zero c d = above_all c
    common_first (suc n) c d = by_test (is_class_below world d c) refl (superclass_of world c) refl (λ s. common_first n s d)
      where
        by_test : (b : Bool) → is_class_below world d c ≡ b → (u : Option ClassName) → superclass_of world c ≡ u → ((s : ClassName) → is_class_below world s (common_within world n s d) ≡ true)
            → is_class_below world c (common_within world (suc n) c d) ≡ true
        by_test true e u f rest = ap (is_class_below world c) (common_step world c d n true u e f) ∙ itself world o top c
        by_test false e None f rest = ap (is_class_below world c) (common_step world c d n false None e f) ∙ above_all c
        by_test false e (Some s) f rest =
            ap (is_class_below world c) (common_step world c d n false (Some s) e f) ∙ on_through world o top c s (common_within world n s d) (below_super c s f) (rest s)

    common_second : (n : ℕ) (c d : ClassName) → is_class_below world d (common_within world n c d) ≡ true
    common_second zero c d = above_all d
    common_second (suc n) c d = by_test (is_class_below world d c) refl (superclass_of world c) refl (λ s. common_second n s d)
      where
        by_test : (b : Bool) → is_class_below world d c ≡ b → (u : Option ClassName) → superclass_of world c ≡ u → ((s : ClassName) → is_class_below world d (common_within world n s d) ≡ true)
            → is_class_below world d (common_within world (suc n) c d) ≡ true
        by_test true e u f rest = ap (is_class_below world d) (common_step world c d n true u e f) ∙ e
        by_test false e None f rest = ap (is_class_below world d) (common_step world c d n false None e f) ∙ above_all d
        by_test false e (Some s) f rest = ap (is_class_below world d) (common_step world c d n false (Some s) e f) ∙ rest s

    common_least : (n : ℕ) (c d e : ClassName) → comes_to_end world n c ≡ true → is_class_below world c e ≡ true → is_class_below world d e ≡ true → is_class_below world (common_within world n c d) e ≡ true
    common_least zero c d e end h k = absurd (true_false (sym end))
    common_least (suc n) c d e end h k = by_test (is_class_below world d c) refl (λ s f. common_least n s d e (ends_above world n c s end f))
      where
        no_more : (u : Option ClassName) → superclass_of world c ≡ u → is_class_below world d c ≡ false → Api Object ≡ e → is_class_below world (common_within world (suc n) c d) e ≡ true
        no_more u f apart is = ap (λ x. is_class_below world (common_within world (suc n) c d) x) (sym is) ∙ above_all (common_within world (suc n) c d)

        by_way : is_class_below world d c ≡ false → ((s : ClassName) → superclass_of world c ≡ Some s → is_class_below world s e ≡ true → is_class_below world d e ≡ true → is_class_below world (common_within world n s d) e ≡ true)
            → (Api Object ≡ e) ⊎ ((s : ClassName) × (superclass_of world c ≡ Some s) × (is_class_below world s e ≡ true)) → is_class_below world (common_within world (suc n) c d) e ≡ true
        by_way apart rest (inl is) = no_more (superclass_of world c) refl apart is
        by_way apart rest (inr r) = ap (λ x. is_class_below world x e) (common_step world c d n false (Some r.0) apart r.1) ∙ rest r.0 r.1 r.2 k

        by_test : (b : Bool) → is_class_below world d c ≡ b → ((s : ClassName) → superclass_of world c ≡ Some s → is_class_below world s e ≡ true → is_class_below world d e ≡ true → is_class_below world (common_within world n s d) e ≡ true)
            → is_class_below world (common_within world (suc n) c d) e ≡ true
        by_test true t rest = ap (λ x. is_class_below world x e) (common_step world c d n true (superclass_of world c) t refl) ∙ h
        by_test false t rest = by_way t rest (above_super c e h (λ is. true_false (sym (ap (is_class_below world d) is ∙ k) ∙ t)))

    -- ---- how far it is up to Object

    -- where superclasses have come to an end, more steps count no more
    count_enough : (n m : ℕ) (c : ClassName) → n ≤ m → comes_to_end world n c ≡ true → above_within world m c ≡ above_within world n c
    count_enough zero m c l end = absurd (true_false (sym end))
    count_enough (suc n) zero c l end = absurd (omega arith)
    count_enough (suc n) (suc m) c l end = by_class (is_same_name (Api Object) c) refl (superclass_of world c) refl (λ s f. count_enough n m s (omega arith) (ends_above world n c s end f))
      where
        by_class : (b : Bool) → is_same_name (Api Object) c ≡ b → (u : Option ClassName) → superclass_of world c ≡ u → ((s : ClassName) → superclass_of world c ≡ Some s → above_within world m s ≡ above_within world n s)
            → above_within world (suc m) c ≡ above_within world (suc n) c
        by_class true e u f rest = above_step world c m true u e f ∙ sym (above_step world c n true u e f)
        by_class false e None f rest = above_step world c m false None e f ∙ sym (above_step world c n false None e f)
        by_class false e (Some s) f rest = above_step world c m false (Some s) e f ∙ ap (λ i. suc i) (rest s f) ∙ sym (above_step world c n false (Some s) e f)

    -- a class has one class more above it than its superclass
    one_above : (c s : ClassName) → superclass_of world c ≡ Some s → classes_above world c ≡ suc (classes_above world s)
    one_above c s f = sym (count_enough most_classes (suc most_classes) c (omega arith) (o.ends c)) ∙ above_step world c most_classes false (Some s) (by_test (is_same_name (Api Object) c) refl) f
      where
        by_test : (b : Bool) → is_same_name (Api Object) c ≡ b → b ≡ false
        by_test b h1 = grind (arith, none_some, name_is)

    falls_on_way : (n : ℕ) (c d : ClassName) → is_at_or_above world n d c ≡ true → (c ≡ d) ⊎ (classes_above world d < classes_above world c)
    falls_on_way zero c d h = absurd (true_false (sym h))
    falls_on_way (suc n) c d h = by_way (found_by world d c n h) (λ s. falls_on_way n s d)
      where
        by_super : (s : ClassName) → superclass_of world c ≡ Some s → (s ≡ d) ⊎ (classes_above world d < classes_above world s) → classes_above world d < classes_above world c
        by_super s f (inl is) = let same : classes_above world s ≡ classes_above world d = ap (classes_above world) is in omega (arith, one_above c s f, same)
        by_super s f (inr less) = omega (arith, one_above c s f, less)

        by_way : (c ≡ d) ⊎ ((s : ClassName) × (superclass_of world c ≡ Some s) × (is_at_or_above world n d s ≡ true))
            → ((s : ClassName) → is_at_or_above world n d s ≡ true → (s ≡ d) ⊎ (classes_above world d < classes_above world s)) → (c ≡ d) ⊎ (classes_above world d < classes_above world c)
        by_way (inl is) rest = inl is
        by_way (inr r) rest = inr (by_super r.0 r.1 (rest r.0 r.2))

    none_above_object : classes_above world (Api Object) ≡ 0
    none_above_object = sym (count_enough most_classes (suc most_classes) (Api Object) (omega arith) (o.ends (Api Object))) ∙ above_step world (Api Object) most_classes true None (name_itself (Api Object)) top

    some_above : (c : ClassName) → (Api Object ≡ c → ⊥) → 0 < classes_above world c
    some_above c other = by_class (is_same_name (Api Object) c) refl (superclass_of world c) refl
      where
        more : classes_above world c ≡ above_within world (suc most_classes) c
        more = sym (count_enough most_classes (suc most_classes) c (omega arith) (o.ends c))

        by_class : (b : Bool) → is_same_name (Api Object) c ≡ b → (u : Option ClassName) → superclass_of world c ≡ u → 0 < classes_above world c
        by_class true e u f = absurd (other (name_is (Api Object) c e))
        by_class false e None f = omega (arith, more, above_step world c most_classes false None e f)
        by_class false e (Some s) f = omega (arith, more, above_step world c most_classes false (Some s) e f)

    falls_upward : (c d : ClassName) → is_class_below world c d ≡ true → (c ≡ d → ⊥) → classes_above world d < classes_above world c
    falls_upward c d h other = grind (arith, way_up, none_above_object, some_above, falls_on_way)

  above_at_most : (n : ℕ) (c : ClassName) → above_within world n c ≤ n
  above_at_most zero c = omega arith
  above_at_most (suc n) c = by_class (is_same_name (Api Object) c) refl (superclass_of world c) refl (λ s. above_at_most n s)
    where
      by_class : (b : Bool) → is_same_name (Api Object) c ≡ b → (u : Option ClassName) → superclass_of world c ≡ u → ((s : ClassName) → above_within world n s ≤ n) → above_within world (suc n) c ≤ suc n
      by_class true e u f rest = omega (arith, above_step world c n true u e f)
      by_class false e None f rest = omega (arith, above_step world c n false None e f)
      by_class false e (Some s) f rest = omega (arith, above_step world c n false (Some s) e f, rest s)

pub is_class_lattice : (world : List Shape) → IsOrderly world → superclass_of world (Api Object) ≡ None → IsClassLattice (is_class_below world) (common_class world) (classes_above world) most_classes
is_class_lattice world o top =
    grind (arith, is_order, above_all, common_first, common_second, common_least, falls_upward, above_at_most)
