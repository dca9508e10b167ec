-- Look-ups at all virtual tokens by one walk along superclasses.
use Rattle.std.proofs.Common.{◌≡◌, ℕ, suc, ◌+◌, ◌-◌, ◌<◌, ◌≤◌, ◌⊎◌, inl, inr, Bool, true, false, List}
use Rattle.std.proofs.Common.{Option, Some, None, replicate, refl, sym, ap, subst, ◌∙◌, arith, slice_index_or}
use Rattle.std.proofs.lemmas.Bool.{cases_lt}
use Rattle.std.proofs.lemmas.List.{get_or-replicate}
use Rattle.std.specs.Option.{option_and_then, option_map_or}
use Rattle.jc_base.proofs.Binding.{none_some}
use Rattle.jc_cap_desc.specs.Shape.{ClassShape, Shape}
use Rattle.jc_classes.proofs.Rounds.{from_start, walk_on, walk_round}
use Rattle.jc_classes.proofs.Standing.{true_false}
use Rattle.jc_classes.proofs.Walking.{all_steps, ends, gives, no_steps}
use Rattle.jc_classes.specs.Methods.{found_at, virtual_method_of, virtual_visit}
use Rattle.jc_classes.specs.PrivateWalk.{IsOnWalk, step_from, step_of, step_to}
use Rattle.jc_classes.specs.PrivateWalked.{asks_above, found_behind, IsAsked, IsSameAt, IsVisited}
use Rattle.jc_classes.specs.Walk.{most_classes, walk}
use Rattle.jc_classes.specs.World.{class_at, class_named, superclass_of, superclass_ref}
use Rattle.jc_names.specs.Names.{home_of, is_same_name}
use Rattle.jc_names.specs.declared.name.ClassName.{ClassName}
use Rattle.jc_names.specs.declared.name.MethodName.{MethodName}
use Rattle.jc_classes.specs.declared.found.Walked.{Walked}
use Rattle.jc_classes.specs.declared.walk.WalkStep.TheVariants.{Ends, Gives}
use Rattle.jc_classes.specs.declared.walk.Visit.{Visit}
use Rattle.jc_classes.specs.declared.walk.Visit.TheVariants.{Above, Has, Nothing}

-- ---- lists of methods

pub repeated : {A : Type 0} (a d : A) (n i : ℕ) → i < n → slice_index_or (replicate n a) i d ≡ a
repeated a d n i less = get_or-replicate n i a d less

-- ---- one class more

-- a token at which a walk has n classes to go
module _ (world : List Shape) (asker : ℕ) (anchor at : ClassName) (n : ℕ) (c : ClassName) (old : Walked)
    (place token : ℕ) (is : IsAsked world asker anchor at n c old place token) where
  abbrev look : ClassName → ClassShape → Visit MethodName
  look = virtual_visit world asker token

  -- what is found where a walk from here finds nothing
  known_at_last : (b : Bool) → asks_above old place ≡ b
      → (IsOnWalk (walk look world) anchor at n (virtual_method_of world c token asker)
      → None ≡ virtual_method_of world c token asker)
      → found_at old.methods place ≡ virtual_method_of world c token asker
  known_at_last b h1 h2 = grind arith

  pub without_steps : n ≡ 0 → found_at old.methods place ≡ virtual_method_of world c token asker
  without_steps e = grind (arith, known_at_last, no_steps)

  -- one class was asked, and m are left
  module _ (m : ℕ) (new : Walked) (one : n ≡ suc m) where
    known_has : (a : MethodName) (b : Bool) → asks_above old place ≡ b → step_of look world at ≡ Gives a
        → found_behind (Has a) b (found_at old.methods place) ≡ virtual_method_of world c token asker
    known_has a true e s = gives look world _ n m at one (is.goes e).so_far a s
    known_has a false e s = is.known e

    known_nothing : step_of look world at ≡ Ends → found_at old.methods place ≡ virtual_method_of world c token asker
    known_nothing s = grind (arith, known_at_last, ends)

    ends_at : (v : Visit MethodName) → step_of look world at ≡ step_from world at v → IsVisited v old new place
        → superclass_of world at ≡ None → found_at new.methods place ≡ virtual_method_of world c token asker
    ends_at v h1 h2 h3 = grind (arith, known_has, known_nothing)

    module _ (next : ClassName) where
      round_at : (v : Visit MethodName) → step_of look world at ≡ step_from world at v → IsVisited v old new place
          → superclass_of world at ≡ Some next → is_same_name next anchor ≡ true
          → found_at new.methods place ≡ virtual_method_of world c token asker
      round_at (Has a) s visited up round = visited.found ∙ known_has a (asks_above old place) refl s
      round_at Nothing s visited up round = visited.found ∙ known_nothing s
      round_at Above s visited up round =
          visited.found
          ∙ known_at_last (asks_above old place) refl
          (λ goes. walk_round look world anchor at next n m _ one goes (s ∙ ap step_to up) round)

      goes_to : (kept : ClassName) (v : Visit MethodName) → step_of look world at ≡ step_from world at v
          → IsVisited v old new place → superclass_of world at ≡ Some next → (kept ≡ next) ⊎ (kept ≡ anchor)
          → IsAsked world asker kept next m c new place token
      goes_to kept (Has a) s visited up one_of =
          record {
            none = λ e. absurd (true_false (sym e ∙ visited.asks));
            goes = λ e. absurd (true_false (sym e ∙ visited.asks));
            known = λ e. visited.found ∙ known_has a (asks_above old place) refl s;
          }
      goes_to kept Nothing s visited up one_of =
          record {
            none = λ e. absurd (true_false (sym e ∙ visited.asks));
            goes = λ e. absurd (true_false (sym e ∙ visited.asks));
            known = λ e. visited.found ∙ known_nothing s;
          }
      goes_to kept Above s visited up one_of =
          record {
            none = λ e. visited.found ∙ is.none (sym visited.asks ∙ e);
            goes = λ e. walk_on look world anchor at next n m _ one (is.goes (sym visited.asks ∙ e))
                (s ∙ ap step_to up) kept one_of;
            known = λ e. visited.found ∙ is.known (sym visited.asks ∙ e);
          }

    -- what asking the class leaves: each token is asked if a class stands there, and else nothing changes
    module _ (visited : (k : ClassShape) → class_at world at ≡ Some k → IsVisited (look at k) old new place)
        (unchanged : class_at world at ≡ None → new ≡ old) where
      at_class : (o : Option ClassShape) → class_at world at ≡ o
          → step_of look world at ≡ option_map_or (λ k. step_from world at (look at k)) o Ends
      at_class o e = ap (λ p. option_map_or (λ k. step_from world at (look at k)) p Ends) e

      pub ends_here : superclass_of world at ≡ None → found_at new.methods place ≡ virtual_method_of world c token asker
      ends_here up = by_class (class_at world at) refl
        where
          by_class : (o : Option ClassShape) → class_at world at ≡ o
              → found_at new.methods place ≡ virtual_method_of world c token asker
          by_class o h1 = grind (arith, known_nothing, at_class, ends_at)

      stands : (next : ClassName) → superclass_of world at ≡ Some next → (k : ClassShape) × (class_at world at ≡ Some k)
      stands next up = by_class (class_at world at) refl
        where
          by_class : (o : Option ClassShape) → class_at world at ≡ o → (k : ClassShape) × (class_at world at ≡ Some k)
          by_class None e = absurd (none_some next (sym (nowhere e) ∙ up))
            where
              nowhere : class_at world at ≡ None → superclass_of world at ≡ None
              nowhere e =
                  ap (λ o. option_and_then (class_named world (home_of at)) (option_and_then (λ k. superclass_ref k.body) o)) e
          by_class (Some k) e = (k, e)

      pub comes_round : (next : ClassName) → superclass_of world at ≡ Some next → is_same_name next anchor ≡ true
          → found_at new.methods place ≡ virtual_method_of world c token asker
      comes_round next up round =
          let k = stands next up in
          round_at next (look at k.0) (at_class (Some k.0) k.1) (visited k.0 k.1) up round

      pub goes_on : (next kept : ClassName) → superclass_of world at ≡ Some next → (kept ≡ next) ⊎ (kept ≡ anchor)
          → IsAsked world asker kept next m c new place token
      goes_on next kept up one_of =
          let k = stands next up in
          goes_to next kept (look at k.0) (at_class (Some k.0) k.1) (visited k.0 k.1) up one_of

pub begins : (world : List Shape) (asker : ℕ) (c : ClassName) (walked : Walked)
    (place token : ℕ) → asks_above walked place ≡ true → found_at walked.methods place ≡ None
    → IsAsked world asker c c (most_classes - 0) c walked place token
begins world asker c walked place token asks none = grind (arith, from_start, all_steps, true_false)

-- ---- one token more

module _ (first old new : Walked) (n : ℕ) (same : (t : ℕ) → n ≤ t → IsSameAt first old t)
    (others : (t : ℕ) → (t < n) ⊎ (n < t) → IsSameAt old new t) where
  pub asked_before : (visit : ℕ → Visit MethodName) → ((t : ℕ) → t < n → IsVisited (visit t) first old t)
      → IsVisited (visit n) old new n → (t : ℕ) → t < n + 1 → IsVisited (visit t) first new t
  asked_before visit before here t less = by_order (cases_lt t n)
    where
      by_order : (t < n) ⊎ (n ≤ t) → IsVisited (visit t) first new t
      by_order (inl less) =
          record {
            asks = (others t (inl less)).asks ∙ (before t less).asks;
            found = (others t (inl less)).found ∙ (before t less).found;
          }
      by_order (inr least) =
          let is : n ≡ t = omega (arith, less, least) in
          subst (λ i. IsVisited (visit i) first new i) is (at_it (same n (omega arith)))
        where
          at_it : IsSameAt first old n → IsVisited (visit n) first new n
          at_it s = grind arith

  pub not_asked : (t : ℕ) → n + 1 ≤ t → IsSameAt first new t
  not_asked t least = grind arith
