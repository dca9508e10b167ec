-- Packages to which no class of a walk belongs: they find no package-visible method.
use Rattle.std.proofs.Common.{◌≡◌, ℕ, suc, ◌==◌, ◌≤◌, ◌⊎◌, false, List, Option, Some, None, sym, ap, ◌∙◌, arith}
use Rattle.std.proofs.Common.{Bool, true, refl, le-ltb}
use Rattle.std.proofs.lemmas.Bool.{eqb-true}
use Rattle.jc_cap_desc.specs.Shape.{ClassShape, Shape}
use Rattle.jc_classes.proofs.Rounds.{walk_on, walk_round}
use Rattle.jc_classes.proofs.Standing.{true_false}
use Rattle.jc_classes.proofs.Walking.{ends, no_steps}
use Rattle.jc_classes.specs.Methods.{is_among, package_visible, virtual_method_of, virtual_visit}
use Rattle.jc_classes.specs.PrivateWalk.{IsOnWalk, step_of, step_to}
use Rattle.jc_classes.specs.Walk.{walk}
use Rattle.jc_classes.specs.World.{class_at, superclass_of}
use Rattle.jc_names.specs.Names.{home_of, is_same_name}
use Rattle.jc_names.specs.declared.name.ClassName.{ClassName}
use Rattle.jc_names.specs.declared.name.MethodName.{MethodName}
use Rattle.jc_classes.specs.declared.extent.Places.{Places}
use Rattle.jc_classes.specs.declared.walk.Visit.{Visit}

-- a package-visible token on the way up, with n classes to go
module _ (world : List Shape) (c : ClassName) (asker token : ℕ) (anchor at : ClassName) (n : ℕ)
    (on : IsOnWalk (walk (virtual_visit world asker token) world) anchor at n (virtual_method_of world c token asker))
  where
    abbrev look : ClassName → ClassShape → Visit MethodName
    look = virtual_visit world asker token

    pub without_steps : n ≡ 0 → virtual_method_of world c token asker ≡ None
    without_steps e = sym (no_steps look world _ n at e on.so_far)

    -- a class of another package is passed, and m are left
    module _ (m : ℕ) (one : n ≡ suc m) (visible : package_visible ≤ token) (other : (home_of at == asker) ≡ false) where
      passes : step_of look world at ≡ step_to (superclass_of world at)
      passes = by_class (class_at world at) refl
        where
          by_class : (o : Option ClassShape) → class_at world at ≡ o
              → step_of look world at ≡ step_to (superclass_of world at)
          by_class o e = grind (arith, le-ltb)

      pub ends_here : superclass_of world at ≡ None → virtual_method_of world c token asker ≡ None
      ends_here up = sym (ends look world _ n m at one on.so_far (passes ∙ ap step_to up))

      module _ (next : ClassName) (up : superclass_of world at ≡ Some next) where
        pub comes_round : is_same_name next anchor ≡ true → virtual_method_of world c token asker ≡ None
        comes_round round = sym (walk_round look world anchor at next n m _ one on (passes ∙ ap step_to up) round)

        pub goes_on : (kept : ClassName) → (kept ≡ next) ⊎ (kept ≡ anchor)
            → IsOnWalk (walk look world) kept next m (virtual_method_of world c token asker)
        goes_on kept one_of = walk_on look world anchor at next n m _ one on (passes ∙ ap step_to up) kept one_of

pub not_home : (places : Places) (home asker : ℕ) → is_among places home ≡ true → is_among places asker ≡ false
    → (home == asker) ≡ false
not_home places home asker within else = by_test (home == asker) refl
  where
    by_test : (b : Bool) → (home == asker) ≡ b → b ≡ false
    by_test true e = absurd (true_false (sym within ∙ ap (is_among places) (eqb-true home asker e) ∙ else))
    by_test false e = refl
