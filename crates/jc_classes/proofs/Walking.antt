-- Walks step by step.
use Rattle.std.proofs.Common.{◌≡◌, ℕ, suc, ◌+◌, ◌-◌, ◌<◌, Option, Some, None, List, refl, sym, ap, ◌∙◌, arith}
use Rattle.std.specs.Option.{option_and_then}
use Rattle.jc_cap_desc.specs.Shape.{ClassShape, Shape}
use Rattle.jc_classes.specs.PrivateWalk.{step_to, step_from, step_of}
use Rattle.jc_classes.specs.Walk.{most_classes, found_from, walk, found}
use Rattle.jc_classes.specs.World.{superclass_of}
use Rattle.jc_names.specs.declared.name.ClassName.{ClassName}
use Rattle.jc_classes.specs.declared.walk.WalkStep.{WalkStep}
use Rattle.jc_classes.specs.declared.walk.WalkStep.TheVariants.{Gives, Ends, On}
use Rattle.jc_classes.specs.declared.walk.Visit.{Visit}

-- what a walk gives behind a step, where the rest of it is known
abbrev pub behind : {A : Type 0} → WalkStep A → (ClassName → Option A) → Option A
behind (Gives a) rest = Some a
behind Ends rest = None
behind (On c) rest = rest c

behind_to : {A : Type 0} (up : Option ClassName) (rest : ClassName → Option A) → option_and_then rest up ≡ behind (step_to up) rest
behind_to up rest = grind arith

behind_visit : {A : Type 0} (world : List Shape) (c : ClassName) (v : Visit A) (rest : ClassName → Option A) → found_from v (option_and_then rest (superclass_of world c)) ≡ behind (step_from world c v) rest
behind_visit world c v rest = grind (arith, behind_to)

pub walk_behind : {A : Type 0} (visit : ClassName → ClassShape → Visit A) (world : List Shape) (n : ℕ) (c : ClassName) → walk visit world (suc n) c ≡ behind (step_of visit world c) (walk visit world n)
walk_behind visit world n c = grind (arith, behind_visit)

-- a walk of n steps, with one step done and m left
module _ {A : Type 0} (visit : ClassName → ClassShape → Visit A) (world : List Shape) (total : Option A) (n m : ℕ) (c : ClassName) (one : n ≡ suc m) (so_far : walk visit world n c ≡ total) where
  behind_one : (s : WalkStep A) → step_of visit world c ≡ s → behind s (walk visit world m) ≡ total
  behind_one s e = sym (ap (λ i. walk visit world i c) one ∙ walk_behind visit world m c ∙ ap (λ s. behind s (walk visit world m)) e) ∙ so_far

  pub gives : (a : A) → step_of visit world c ≡ Gives a → Some a ≡ total
  gives a e = behind_one (Gives a) e

  pub ends : step_of visit world c ≡ Ends → None ≡ total
  ends e = behind_one Ends e

pub most_is : most_classes ≡ 17_085
unfolding most_classes
most_is = refl

-- one step of the whole walk
pub one_less : (counter : ℕ) → counter < 17_085 → most_classes - counter ≡ suc (most_classes - (counter + 1))
one_less counter h = omega (arith, most_is)

-- one step of so many
pub one_left : (most counter : ℕ) → counter < most → most - counter ≡ suc (most - (counter + 1))
one_left most counter h = omega (arith, h)

pub all_steps : {A : Type 0} (visit : ClassName → ClassShape → Visit A) (world : List Shape) (c : ClassName) → walk visit world (most_classes - 0) c ≡ found visit world c
all_steps visit world c = let e : most_classes - 0 ≡ most_classes = omega arith in ap (λ n. walk visit world n c) e

pub no_steps : {A : Type 0} (visit : ClassName → ClassShape → Visit A) (world : List Shape) (total : Option A) (n : ℕ) (c : ClassName) → n ≡ 0 → walk visit world n c ≡ total → None ≡ total
no_steps visit world total n c e so_far = ap (λ i. walk visit world i c) (sym e) ∙ so_far
