-- The rows of a class and of its superclasses, which may end where they come to a class again.
use Rattle.std.proofs.Common.{◌≡◌, ℕ, zero, suc, ◌+◌, ◌≤◌, ◌⊎◌, inl, inr, ◌||◌, Bool, true, false, Option, Some, None, List, [], map, refl, sym, ap, subst, ◌∙◌, arith}
use Rattle.std.proofs.lemmas.List.Folds.{list_any-append}
use Rattle.std.specs.List.{list_any}
use Rattle.std.specs.Option.{option_and_then, option_map_or}
use Rattle.jc_cap_desc.specs.Shape.{ClassShape, Shape}
use Rattle.jc_names.specs.Names.{is_same_name}
use Rattle.jc_classes.specs.Listed.{ListNothing, class_behind}
use Rattle.jc_classes.specs.Record.{interface_rows}
use Rattle.jc_names.specs.Names.{home_of}
use Rattle.jc_classes.specs.World.{class_at, superclass_of}
use Rattle.jc_names.specs.declared.name.ClassName.{ClassName}
use Rattle.jc_link.specs.Inherited.{ListedRow, breaks_interface, rows_of, rows_along}
use Rattle.jc_link.specs.PrivateRows.{IsOnRows}
use Rattle.jc_link.proofs.Listed.{list_any_map}
use Rattle.jc_link.proofs.SameNames.{same_name}

pub rows_of_class : (test : ListedRow → Bool) (world : List Shape) (at : ClassName)
    → list_any test (rows_of world at)
    ≡ option_map_or (λ k. list_any (λ row. test (record { home = home_of at; row = row })) (interface_rows k.body))
    (class_at world at) false
rows_of_class test world at = grind (arith, list_any_map)

-- where neither a class nor a superclass of it lists anything
no_rows_along : (world : List Shape) (n : ℕ) (c : ClassName) → ListNothing world c → rows_along world n c ≡ []
no_rows_along world zero c nothing = refl
no_rows_along world (suc n) c nothing =
    grind (arith, no_rows_of (class_at world c) refl, by_above (superclass_of world c) refl (no_rows_along world n))
  where
    no_rows_of : (o : Option ClassShape) → class_at world c ≡ o
        → option_map_or
        (λ k. map {B = ListedRow} (λ row. record { home = home_of c; row = row }) (interface_rows k.body)) o []
        ≡ []
    no_rows_of None e = refl
    no_rows_of (Some k) e =
        ap (map {B = ListedRow} (λ row. record { home = home_of c; row = row })) (nothing 0 c k refl e)

    by_above : (o : Option ClassName) → superclass_of world c ≡ o
        → ((s : ClassName) → ListNothing world s → rows_along world n s ≡ [])
        → option_map_or (rows_along world n) o [] ≡ []
    by_above None e rest = refl
    by_above (Some s) e rest = rest s
        (λ m d k here there. nothing (suc m) d k (ap (option_and_then (class_behind world m)) e ∙ here) there)

pub none_to_break : (world : List Shape) (c : ClassName) (b : Bool) → (b ≡ false → ListNothing world c) → b ≡ false
    → false ≡ breaks_interface world c
none_to_break world c b nothing e = grind (arith, no_rows_along)

module _ (test : ListedRow → Bool) (world : List Shape) where
  pub one_more : (k : ℕ) (at : ClassName) (b : Bool) (o : Option ClassName) → list_any test (rows_of world at) ≡ b
      → superclass_of world at ≡ o
      → list_any test (rows_along world (suc k) at) ≡ (b || list_any test (option_map_or (rows_along world k) o []))
  one_more k at b o e f = grind (arith, list_any-append)

  -- fewer classes have no such row where more have none
  pub none_of_fewer : (n m : ℕ) (at : ClassName) → n ≤ m → list_any test (rows_along world m at) ≡ false
      → list_any test (rows_along world n at) ≡ false
  none_of_fewer zero m at l e = refl
  none_of_fewer (suc n) zero at l e = absurd (omega arith)
  none_of_fewer (suc n) (suc m) at l e =
      one_more n at (list_any test (rows_of world at)) (superclass_of world at) refl refl
      ∙ by_step (list_any test (rows_of world at)) (superclass_of world at)
      (sym (one_more m at (list_any test (rows_of world at)) (superclass_of world at) refl refl) ∙ e)
      (λ d. none_of_fewer n m d (omega arith))
    where
      by_step : (b : Bool) (o : Option ClassName)
          → (b || list_any test (option_map_or (rows_along world m) o [])) ≡ false
          → ((d : ClassName) → list_any test (rows_along world m d) ≡ false
          → list_any test (rows_along world n d) ≡ false)
          → (b || list_any test (option_map_or (rows_along world n) o [])) ≡ false
      by_step b o h1 h2 = grind arith

  -- where some classes more have such a row exactly where fewer do, however many there are, none has one
  module _ (c : ClassName) (between : ℕ)
      (round : (n : ℕ)
      → list_any test (rows_along world (n + suc between) c) ≡ list_any test (rows_along world n c)) where
    none_past : (n : ℕ) → (m : ℕ) × (n ≤ m) × (list_any test (rows_along world m c) ≡ false)
    none_past zero = (0, omega arith, refl)
    none_past (suc n) = let p = none_past n in (p.0 + suc between, omega (arith, p.1), round p.0 ∙ p.2)

    none_at_all : (n : ℕ) → list_any test (rows_along world n c) ≡ false
    none_at_all n = let p = none_past n in none_of_fewer n p.0 c p.1 p.2

  pub from_start : (n : ℕ) (c : ClassName) (total : Bool) → list_any test (rows_along world n c) ≡ total
      → IsOnRows test world c c n total
  from_start n c total e = grind arith

  -- a walk of n classes, with one looked at and m left
  module _ (anchor at : ClassName) (n m : ℕ) (total : Bool) (one : n ≡ suc m)
      (on : IsOnRows test world anchor at n total) where
    walked : list_any test (rows_along world (suc m) at) ≡ total
    walked = ap (λ i. list_any test (rows_along world i at)) (sym one) ∙ on.so_far

    pub broken_here : list_any test (rows_of world at) ≡ true → true ≡ total
    broken_here e = sym (one_more m at true (superclass_of world at) e refl) ∙ walked

    pub broken_nowhere : list_any test (rows_of world at) ≡ false → superclass_of world at ≡ None → false ≡ total
    broken_nowhere e f = sym (one_more m at false None e f) ∙ walked

    module _ (next : ClassName) (kept_here : list_any test (rows_of world at) ≡ false)
        (up : superclass_of world at ≡ Some next) where
      from_here : list_any test (rows_along world m next) ≡ total
      from_here = sym (one_more m at false (Some next) kept_here up) ∙ walked

      further : (k : ℕ)
          → list_any test (rows_along world (k + suc on.between) anchor) ≡ list_any test (rows_along world k next)
      further k =
          let shift : k + suc on.between ≡ suc k + on.between = omega arith in
          grind (arith, one_more)

      pub comes_round : is_same_name next anchor ≡ true → false ≡ total
      comes_round e =
          let is = same_name next anchor e in
          sym (none_at_all anchor on.between (λ k. further k ∙ ap (λ c. list_any test (rows_along world k c)) is) m)
          ∙ ap (λ c. list_any test (rows_along world m c)) (sym is) ∙ from_here

      pub goes_on : (kept : ClassName) → (kept ≡ next) ⊎ (kept ≡ anchor) → IsOnRows test world kept next m total
      goes_on kept (inl is) = grind (arith, from_start, from_here)
      goes_on kept (inr is) =
          subst (λ a. IsOnRows test world a next m total) (sym is)
          (record { so_far = from_here; between = suc on.between; anchored = further })
