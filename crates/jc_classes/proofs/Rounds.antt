-- Look-ups along superclasses that may end where they come to a class again.
use Rattle.std.proofs.Common.{◌≡◌, ℕ, zero, suc, ◌+◌, ◌≤◌, ◌⊎◌, inl, inr, true, List, Option, None, refl, sym, ap, subst, ◌∙◌, arith}
use Rattle.jc_cap_desc.specs.Shape.{ClassShape, Shape}
use Rattle.jc_classes.proofs.Below.{name_is}
use Rattle.jc_classes.proofs.Walking.{behind, walk_behind}
use Rattle.jc_names.specs.Names.{is_same_name}
use Rattle.jc_classes.specs.PrivateWalk.{step_of, IsOnWalk}
use Rattle.jc_classes.specs.Walk.{walk}
use Rattle.jc_names.specs.declared.name.ClassName.{ClassName}
use Rattle.jc_classes.specs.declared.walk.WalkStep.{WalkStep}
use Rattle.jc_classes.specs.declared.walk.WalkStep.TheVariants.{On}
use Rattle.jc_classes.specs.declared.walk.Visit.{Visit}

-- ---- any look-up that finds nothing with no steps, nor with fewer steps than it finds nothing with

module _ {A : Type 0} (look : ℕ → ClassName → A) (nothing : A) (at_first : (c : ClassName) → look 0 c ≡ nothing)
    (fewer : (n m : ℕ) (c : ClassName) → n ≤ m → look m c ≡ nothing → look n c ≡ nothing) where
  -- where some steps more find the same, however many there are, nothing is found
  module _ (c : ClassName) (between : ℕ) (round : (n : ℕ) → look (n + suc between) c ≡ look n c) where
    nothing_past : (n : ℕ) → (m : ℕ) × (n ≤ m) × (look m c ≡ nothing)
    nothing_past zero = (0, omega arith, at_first c)
    nothing_past (suc n) = let p = nothing_past n in (p.0 + suc between, omega (arith, p.1), round p.0 ∙ p.2)

    nothing_at_all : (n : ℕ) → look n c ≡ nothing
    nothing_at_all n = let p = nothing_past n in fewer n p.0 c p.1 p.2

  module _ (anchor at next : ClassName) (n m : ℕ) (total : A) (one : n ≡ suc m) (on : IsOnWalk look anchor at n total) (step : (k : ℕ) → look (suc k) at ≡ look k next) where
    on_from_here : look m next ≡ total
    on_from_here = sym (step m) ∙ ap (λ i. look i at) (sym one) ∙ on.so_far

    further : (k : ℕ) → look (k + suc on.between) anchor ≡ look k next
    further k = grind (arith, step)

    pub comes_round : is_same_name next anchor ≡ true → nothing ≡ total
    comes_round e =
        let is = name_is next anchor e in
        sym (nothing_at_all anchor on.between (λ k. further k ∙ ap (look k) is) m) ∙ ap (look m) (sym is) ∙ on_from_here

    pub keeps_on : (kept : ClassName) → (kept ≡ next) ⊎ (kept ≡ anchor) → IsOnWalk look kept next m total
    keeps_on kept (inl is) = grind (arith, on_from_here)
    keeps_on kept (inr is) = subst (λ a. IsOnWalk look a next m total) (sym is) (record { so_far = on_from_here; between = suc on.between; anchored = further })

-- ---- walks

module _ {A : Type 0} (visit : ClassName → ClassShape → Visit A) (world : List Shape) where
  fewer_steps : (n m : ℕ) (c : ClassName) → n ≤ m → walk visit world m c ≡ None → walk visit world n c ≡ None
  fewer_steps zero m c l e = refl
  fewer_steps (suc n) zero c l e = absurd (omega arith)
  fewer_steps (suc n) (suc m) c l e = walk_behind visit world n c ∙ by_step (step_of visit world c) (sym (walk_behind visit world m c) ∙ e) (λ d. fewer_steps n m d (omega arith))
    where
      by_step : (s : WalkStep A) → behind s (walk visit world m) ≡ None → ((d : ClassName) → walk visit world m d ≡ None → walk visit world n d ≡ None) → behind s (walk visit world n) ≡ None
      by_step s h1 h2 = grind arith

  pub from_start : (n : ℕ) (c : ClassName) (total : Option A) → walk visit world n c ≡ total → IsOnWalk (walk visit world) c c n total
  from_start n c total e = record { so_far = e; between = 0; anchored = λ k. let none : k + 0 ≡ k = omega arith in ap (λ i. walk visit world i c) none }

  -- a walk of n steps, with one step done and m left
  module _ (anchor at next : ClassName) (n m : ℕ) (total : Option A) (one : n ≡ suc m) (on : IsOnWalk (walk visit world) anchor at n total) (up : step_of visit world at ≡ On next) where
    step : (k : ℕ) → walk visit world (suc k) at ≡ walk visit world k next
    step k = walk_behind visit world k at ∙ ap (λ s. behind s (walk visit world k)) up

    pub walk_round : is_same_name next anchor ≡ true → None ≡ total
    walk_round = comes_round (walk visit world) None (λ c. refl) fewer_steps anchor at next n m total one on step

    pub walk_on : (kept : ClassName) → (kept ≡ next) ⊎ (kept ≡ anchor) → IsOnWalk (walk visit world) kept next m total
    walk_on = keeps_on (walk visit world) None (λ c. refl) fewer_steps anchor at next n m total one on step
