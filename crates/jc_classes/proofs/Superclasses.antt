-- Walks up the superclasses: what they find, that they may end where they come round, and the order that they make.
use Rattle.std.proofs.Common.{◌≡◌, ◌↔◌, ℕ, zero, suc, ◌+◌, ◌≤◌, ◌⊎◌, inl, inr, ◌||◌, Bool, true, false, Option, Some, None, List, not, refl, sym, ap, subst, ◌∙◌, arith}
use Rattle.std.specs.Option.{option_map_or}
use Rattle.jc_base.proofs.Binding.{none_some}
use Rattle.jc_cap_desc.specs.Shape.{Shape}
use Rattle.jc_api.specs.declared.class.ApiClass.TheVariants.{Object}
use Rattle.jc_classes.proofs.Below.{name_is, name_itself}
use Rattle.jc_classes.proofs.Standing.{true_false}
use Rattle.jc_classes.proofs.Rounds.{comes_round, keeps_on}
use Rattle.jc_classes.proofs.Walking.{most_is}
use Rattle.jc_names.specs.Names.{is_same_name}
use Rattle.jc_classes.specs.PrivateWalk.{IsOnWalk}
use Rattle.jc_classes.specs.Subtype.{IsSubtype, same, object, by_superclass, by_interface, is_class_at, is_interface_at, comes_to_end, IsOrderly, IsOrder, is_at_or_above, is_class_below}
use Rattle.jc_classes.specs.Walk.{most_classes}
use Rattle.jc_classes.specs.World.{superclass_of}
use Rattle.jc_names.specs.declared.name.ClassName.{ClassName}
use Rattle.jc_names.specs.declared.name.ClassName.TheVariants.{Api}

-- ---- a walk of one class more

either : (a b : Bool) → (a || b) ≡ true → (a ≡ true) ⊎ (b ≡ true)
either a b h1 = grind arith

or_true : (a b : Bool) → b ≡ true → (a || b) ≡ true
or_true a b h1 = grind arith

module _ (world : List Shape) (d c : ClassName) (n : ℕ) where
  pub one_more : (b : Bool) (o : Option ClassName) → is_same_name c d ≡ b → superclass_of world c ≡ o → is_at_or_above world (suc n) d c ≡ (b || option_map_or (is_at_or_above world n d) o false)
  one_more b o e f = ap (λ x. x || option_map_or (is_at_or_above world n d) (superclass_of world c) false) e ∙ ap (λ x. b || option_map_or (is_at_or_above world n d) x false) f

  pub met : is_same_name c d ≡ true → is_at_or_above world (suc n) d c ≡ true
  met e = one_more true (superclass_of world c) e refl

  pub above_it : (s : ClassName) → superclass_of world c ≡ Some s → is_at_or_above world n d s ≡ true → is_at_or_above world (suc n) d c ≡ true
  above_it s f e = or_true (is_same_name c d) _ (ap (λ o. option_map_or (is_at_or_above world n d) o false) f ∙ e)

  -- where a walk that finds comes from
  pub found_by : is_at_or_above world (suc n) d c ≡ true → (c ≡ d) ⊎ ((s : ClassName) × (superclass_of world c ≡ Some s) × (is_at_or_above world n d s ≡ true))
  found_by e = by_name (either (is_same_name c d) _ e)
    where
      by_super : (o : Option ClassName) → superclass_of world c ≡ o → option_map_or (is_at_or_above world n d) o false ≡ true → (s : ClassName) × (superclass_of world c ≡ Some s) × (is_at_or_above world n d s ≡ true)
      by_super None f h = absurd (true_false (sym h))
      by_super (Some s) f h = (s, f, h)

      by_name : (is_same_name c d ≡ true) ⊎ (option_map_or (is_at_or_above world n d) (superclass_of world c) false ≡ true) → (c ≡ d) ⊎ ((s : ClassName) × (superclass_of world c ≡ Some s) × (is_at_or_above world n d s ≡ true))
      by_name h1 = grind (arith, name_is, by_super)

-- more steps find what fewer do
pub above_more : (world : List Shape) (n m : ℕ) (d c : ClassName) → n ≤ m → is_at_or_above world n d c ≡ true → is_at_or_above world m d c ≡ true
above_more world zero m d c l e = absurd (true_false (sym e))
above_more world (suc n) zero d c l e = absurd (omega arith)
above_more world (suc n) (suc m) d c l e = by_way (found_by world d c n e) (λ s. above_more world n m d s (omega arith))
  where
    by_way : (c ≡ d) ⊎ ((s : ClassName) × (superclass_of world c ≡ Some s) × (is_at_or_above world n d s ≡ true)) → ((s : ClassName) → is_at_or_above world n d s ≡ true → is_at_or_above world m d s ≡ true)
        → is_at_or_above world (suc m) d c ≡ true
    by_way h1 h2 = grind (arith, met, name_itself, above_it)

-- ---- the answers of a walk with an anchor

not_by_fewer : (world : List Shape) (d : ClassName) (n m : ℕ) (c : ClassName) → n ≤ m → is_at_or_above world m d c ≡ false → is_at_or_above world n d c ≡ false
not_by_fewer world d n m c l e = grind (arith, true_false, above_more)

module _ (world : List Shape) (above anchor at : ClassName) (n m : ℕ) (total : Bool) (one : n ≡ suc m) (on : IsOnWalk (λ i. is_at_or_above world i above) anchor at n total) where
  pub is_here : is_same_name at above ≡ true → true ≡ total
  is_here e = sym (met world above at m e) ∙ ap (λ i. is_at_or_above world i above at) (sym one) ∙ on.so_far

  module _ (next : ClassName) (other : is_same_name at above ≡ false) (up : superclass_of world at ≡ Some next) where
    step : (k : ℕ) → is_at_or_above world (suc k) above at ≡ is_at_or_above world k above next
    step k = one_more world above at k false (Some next) other up

    pub meets_anchor : is_same_name next anchor ≡ true → false ≡ total
    meets_anchor = comes_round (λ i. is_at_or_above world i above) false (λ c. refl) (not_by_fewer world above) anchor at next n m total one on step

    pub goes_on : (kept : ClassName) → (kept ≡ next) ⊎ (kept ≡ anchor) → IsOnWalk (λ i. is_at_or_above world i above) kept next m total
    goes_on = keeps_on (λ i. is_at_or_above world i above) false (λ c. refl) (not_by_fewer world above) anchor at next n m total one on step

pub has_ended : (world : List Shape) (above anchor at : ClassName) (n : ℕ) (total : Bool) → n ≡ 0 → IsOnWalk (λ i. is_at_or_above world i above) anchor at n total → false ≡ total
has_ended world above anchor at n total none on = ap (λ i. is_at_or_above world i above at) (sym none) ∙ on.so_far

-- ---- the order

-- one walk behind another one
pub beyond : (world : List Shape) (n m : ℕ) (e d c : ClassName) → is_at_or_above world n d c ≡ true → is_at_or_above world m e d ≡ true → is_at_or_above world (n + m) e c ≡ true
beyond world zero m e d c h k = absurd (true_false (sym h))
beyond world (suc n) m e d c h k = by_way (found_by world d c n h) (λ s r. beyond world n m e d s r k)
  where
    by_way : (c ≡ d) ⊎ ((s : ClassName) × (superclass_of world c ≡ Some s) × (is_at_or_above world n d s ≡ true)) → ((s : ClassName) → is_at_or_above world n d s ≡ true → is_at_or_above world (n + m) e s ≡ true)
        → is_at_or_above world (suc n + m) e c ≡ true
    by_way (inl is) rest = above_more world m (suc n + m) e c (omega arith) (ap (is_at_or_above world m e) is ∙ k)
    by_way (inr r) rest = let one : suc n + m ≡ suc (n + m) = omega arith in ap (λ i. is_at_or_above world i e c) one ∙ above_it world e c (n + m) r.0 r.1 (rest r.0 r.2)

pub ends_above : (world : List Shape) (n : ℕ) (c s : ClassName) → comes_to_end world (suc n) c ≡ true → superclass_of world c ≡ Some s → comes_to_end world n s ≡ true
ends_above world n c s e f = sym (ap (λ o. option_map_or (comes_to_end world n) o true) f) ∙ e

-- as many steps as there are superclasses find what more do
pub enough : (world : List Shape) (n m : ℕ) (d c : ClassName) → comes_to_end world n c ≡ true → is_at_or_above world m d c ≡ true → is_at_or_above world n d c ≡ true
enough world zero m d c e h = absurd (true_false (sym e))
enough world (suc n) zero d c e h = absurd (true_false (sym h))
enough world (suc n) (suc m) d c e h = by_way (found_by world d c m h) (λ s f r. enough world n m d s (ends_above world n c s e f) r)
  where
    by_way : (c ≡ d) ⊎ ((s : ClassName) × (superclass_of world c ≡ Some s) × (is_at_or_above world m d s ≡ true))
        → ((s : ClassName) → superclass_of world c ≡ Some s → is_at_or_above world m d s ≡ true → is_at_or_above world n d s ≡ true) → is_at_or_above world (suc n) d c ≡ true
    by_way h1 h2 = grind (arith, met, name_itself, above_it)

-- superclasses that come to an end don't lead round
no_round : (world : List Shape) (n m : ℕ) (c s : ClassName) → comes_to_end world n c ≡ true → superclass_of world c ≡ Some s → is_at_or_above world m c s ≡ true → ⊥
no_round world zero m c s e f h = true_false (sym e)
no_round world (suc n) zero c s e f h = true_false (sym h)
no_round world (suc n) (suc m) c s e f h = by_way (found_by world c s m h) (λ k t. no_round world n k s t (ends_above world n c s e f))
  where
    by_way : (s ≡ c) ⊎ ((t : ClassName) × (superclass_of world s ≡ Some t) × (is_at_or_above world m c t ≡ true)) → ((k : ℕ) (t : ClassName) → superclass_of world s ≡ Some t → is_at_or_above world k s t ≡ true → ⊥) → ⊥
    by_way (inl is) rest = rest 1 s (ap (superclass_of world) is ∙ f) (met world s s 0 (name_itself s))
    by_way (inr r) rest = rest (m + 2) r.0 r.1 (beyond world m 2 s c r.0 r.2 (above_it world s c 1 s f (met world s s 0 (name_itself s))))

-- classes that are above one another are one
one_of_both : (world : List Shape) (o : IsOrderly world) (n m : ℕ) (c d : ClassName) → is_at_or_above world n d c ≡ true → is_at_or_above world m c d ≡ true → c ≡ d
one_of_both world o zero m c d h k = absurd (true_false (sym h))
one_of_both world o (suc n) m c d h k = by_way (found_by world d c n h)
  where
    by_way : (c ≡ d) ⊎ ((s : ClassName) × (superclass_of world c ≡ Some s) × (is_at_or_above world n d s ≡ true)) → c ≡ d
    by_way (inl is) = is
    by_way (inr r) = absurd (no_round world most_classes (n + m) c r.0 (o.ends c) r.1 (beyond world n m c d r.0 r.2 k))

above_object : (world : List Shape) (n : ℕ) (c : ClassName) → superclass_of world (Api Object) ≡ None → is_at_or_above world n c (Api Object) ≡ true → Api Object ≡ c
above_object world n c h1 h2 = grind (arith, true_false, found_by, none_some)

module _ (world : List Shape) where
  -- how a class is below another one
  pub way_up : (c d : ClassName) → is_class_below world c d ≡ true → (Api Object ≡ d) ⊎ (is_at_or_above world most_classes d c ≡ true)
  way_up c d h = grind (arith, either, name_is)

  pub below_object : (c d : ClassName) → Api Object ≡ d → is_class_below world c d ≡ true
  below_object c d is = ap (is_class_below world c) (sym is)

  pub walked_up : (c d : ClassName) → is_at_or_above world most_classes d c ≡ true → is_class_below world c d ≡ true
  walked_up c d h = or_true (is_same_name (Api Object) d) _ h

  module _ (o : IsOrderly world) (top : superclass_of world (Api Object) ≡ None) where
    only_object : (c : ClassName) → is_class_below world (Api Object) c ≡ true → Api Object ≡ c
    only_object c h = grind (arith, way_up, above_object)

    pub itself : (c : ClassName) → is_class_below world c c ≡ true
    itself c = walked_up c c (above_more world 1 most_classes c c (omega (arith, most_is)) (met world c c 0 (name_itself c)))

    both_ways : (c d : ClassName) → is_class_below world c d ≡ true → is_class_below world d c ≡ true → c ≡ d
    both_ways c d h k = grind (arith, way_up, only_object, one_of_both)

    pub on_through : (c d e : ClassName) → is_class_below world c d ≡ true → is_class_below world d e ≡ true → is_class_below world c e ≡ true
    on_through c d e h k = by_ways (way_up c d h) (way_up d e k)
      where
        by_ways : (Api Object ≡ d) ⊎ (is_at_or_above world most_classes d c ≡ true) → (Api Object ≡ e) ⊎ (is_at_or_above world most_classes e d ≡ true) → is_class_below world c e ≡ true
        by_ways p (inl is) = below_object c e is
        by_ways (inl is) (inr q) = below_object c e (only_object e (ap (λ x. is_class_below world x e) is ∙ k))
        by_ways (inr p) (inr q) = walked_up c e (enough world most_classes (most_classes + most_classes) e c (o.ends c) (beyond world most_classes most_classes e d c p q))

pub is_order : (world : List Shape) → IsOrderly world → superclass_of world (Api Object) ≡ None → IsOrder (is_class_below world)
is_order world o top = record { reflexive = itself world o top; antisymmetric = both_ways world o top; transitive = on_through world o top }

-- ---- the order and subtypes

climbs : (world : List Shape) (n : ℕ) (d c : ClassName) → is_at_or_above world n d c ≡ true → IsSubtype world c d
climbs world zero d c h = absurd (true_false (sym h))
climbs world (suc n) d c h = by_way (found_by world d c n h) (λ s. climbs world n d s)
  where
    by_way : (c ≡ d) ⊎ ((s : ClassName) × (superclass_of world c ≡ Some s) × (is_at_or_above world n d s ≡ true)) → ((s : ClassName) → is_at_or_above world n d s ≡ true → IsSubtype world s d) → IsSubtype world c d
    by_way (inl is) rest = subst (IsSubtype world c) is (same c)
    by_way (inr r) rest = by_superclass c r.0 d r.1 (rest r.0 r.2)

not_both : (world : List Shape) (c : ClassName) → is_interface_at world c ≡ true → is_class_at world c ≡ true → ⊥
not_both world c i k = grind (arith, not, true_false)

-- an interface has no superclass
no_super : (world : List Shape) (c d : ClassName) → is_interface_at world c ≡ true → superclass_of world c ≡ Some d → ⊥
no_super world c d i e = grind (arith, not, none_some, true_false)

-- of classes only Object is above an interface
pub above_interface : (world : List Shape) (i e : ClassName) → IsOrderly world → is_interface_at world i ≡ true → is_class_at world e ≡ true → IsSubtype world i e → e ≡ Api Object
above_interface world _ _ o i k (same c) = absurd (not_both world c i k)
above_interface world _ _ o i k (object c) = refl
above_interface world _ _ o i k (by_superclass c d e s r) = absurd (no_super world c d i s)
above_interface world _ _ o i k (by_interface c j e m r) = above_interface world j e o (o.interfaces c j m) k r

-- a class that is above is Object, or is met along superclasses
met_above : (world : List Shape) (n : ℕ) (c d : ClassName) → IsOrderly world → is_class_at world d ≡ true → comes_to_end world n c ≡ true → IsSubtype world c d → (Api Object ≡ d) ⊎ (is_at_or_above world n d c ≡ true)
met_above world zero c d o k e s = absurd (true_false (sym e))
met_above world (suc n) _ _ o k e (same c) = inr (met world c c n (name_itself c))
met_above world (suc n) _ _ o k e (object c) = inl refl
met_above world (suc n) _ _ o k e (by_superclass c s d f r) =
    grind (arith, ends_above, above_it, met_above world n s d o k (ends_above world n c s e f) r)
met_above world (suc n) _ _ o k e (by_interface c i d m r) = inl (sym (above_interface world i d o (o.interfaces c i m) k r))

pub are_subtypes : (world : List Shape) → IsOrderly world → superclass_of world (Api Object) ≡ None → (c d : ClassName) → is_class_at world d ≡ true → (is_class_below world c d ≡ true ↔ IsSubtype world c d)
are_subtypes world o top c d k = (λ h. up (way_up world c d h), λ s. down (met_above world most_classes c d o k (o.ends c) s))
  where
    up : (Api Object ≡ d) ⊎ (is_at_or_above world most_classes d c ≡ true) → IsSubtype world c d
    up (inl is) = subst (IsSubtype world c) is (object c)
    up (inr h) = climbs world most_classes d c h

    down : (Api Object ≡ d) ⊎ (is_at_or_above world most_classes d c ≡ true) → is_class_below world c d ≡ true
    down (inl is) = below_object world c d is
    down (inr h) = walked_up world c d h
