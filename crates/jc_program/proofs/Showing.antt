-- Tables of package-visible methods.
use Rattle.std.proofs.Common.{◌≡◌, ◌≢◌, ℕ, ◌+◌, ◌-◌, ◌<◌, ◌≤◌, ◌==◌, Bool, true, List, [], ◌∷◌, length}
use Rattle.std.proofs.Common.{Option, Some, None, slice_get, unwrap_or, refl, sym, ap, subst, ◌∙◌, arith}
use Rattle.std.proofs.lemmas.Bool.{eqb-false, eqb-true, ne_eqb}
use Rattle.std.proofs.lemmas.Option.{slice_get_within}
use Rattle.std.specs.Option.{option_map_or}
use Rattle.jc_cap_desc.specs.Shape.{Shape}
use Rattle.jc_classes.specs.Methods.{package_visible, virtual_method_of}
use Rattle.jc_names.specs.Names.{home_at, home_of}
use Rattle.jc_names.specs.declared.name.ClassName.{ClassName}
use Rattle.jc_program.specs.Called.{AreVisible, KeyedTable, called_of, keyed_in}
use Rattle.jc_program.specs.Methods.{LoadedMethod}
use Rattle.jc_program.specs.PrivateCalled.{AreListed, HasAt, HasCalled, HasVisible}
use Rattle.jc_program.specs.PrivateChained.{AreChained, Chained, IsHead, head_of, lists_in, number_behind, tables_at}
use Rattle.jc_program.specs.PrivateChained.{with_table}
use Rattle.jc_program.specs.PrivateNearest.{FindsAs, FindsAsNumber, IsNearest}
use Rattle.jc_program.specs.declared.nearest.Nearest.{Nearest}
use Rattle.jc_entries.specs.declared.called.Called.{Called}
use Rattle.jc_entries.specs.declared.called.Called.TheVariants.{Nothing}
use Rattle.jc_program.proofs.Sharing.{head_behind, list_of, same_behind, table_put}

-- ---- the tables of a class

abbrev keyed : ℕ → List Called → KeyedTable
keyed key called = record { key = key; called = called }

-- where nothing is found, no table is needed
none_found : (world : List Shape) (methods : List LoadedMethod) (c : ClassName) (home : ℕ)
    → ((token : ℕ) → package_visible ≤ token → virtual_method_of world c token home ≡ None)
    → HasAt world methods c [] home
none_found world methods c home none token low = grind arith

-- what another class has, from which the same is found
same_found : (world : List Shape) (methods : List LoadedMethod) (c d : ClassName) (tables : List KeyedTable) (home : ℕ)
    → FindsAs world c d home → HasAt world methods d tables home → HasAt world methods c tables home
same_found world methods c d tables home same has token low = grind arith

-- the list of a class that is known, from which the same is found
known_has : (world : List Shape) (methods : List LoadedMethod) (names : List ClassName)
    (lists : List (List KeyedTable)) (c : ClassName) (number : Option ℕ) (asker : ℕ)
    → AreListed (HasVisible world methods) names (length lists) lists
    → ((n : ℕ) → number ≡ Some n → n < length lists)
    → FindsAsNumber world names c number (home_at asker)
    → HasAt world methods c (option_map_or (λ n. unwrap_or (slice_get lists n) []) number []) (home_at asker)
known_has world methods names lists c None asker are within found =
    none_found world methods c (home_at asker) found
known_has world methods names lists c (Some n) asker are within found =
    same_found world methods c found.0 (unwrap_or (slice_get lists n) []) (home_at asker) found.2
    (are.there n found.0 (within n refl) found.1 asker)

module _ (world : List Shape) (methods : List LoadedMethod) (names : List ClassName) (t : Chained)
    (heads : List (Option ℕ)) (count : ℕ) (c : ClassName) (nearest : Nearest)
    (is : IsNearest world names count c nearest)
    (all : count ≡ length (lists_in t heads))
    (are : AreListed (HasVisible world methods) names (length (lists_in t heads)) (lists_in t heads)) where
  nearest_has : (asker : ℕ) → FindsAsNumber world names c nearest.number (home_at asker)
      → HasAt world methods c (tables_at t (head_of heads nearest.number)) (home_at asker)
  nearest_has asker found =
      subst (λ ks. HasAt world methods c ks (home_at asker)) (list_of t heads nearest.number)
      (known_has world methods names (lists_in t heads) c nearest.number asker are
      (λ n e. subst (λ k. n < k) all (is.within n e)) found)

  pub others_there : (asker : ℕ) → home_of c ≢ home_at asker
      → HasAt world methods c (tables_at t (head_of heads nearest.number)) (home_at asker)
  others_there asker other = nearest_has asker (is.others (home_at asker) other)

  pub all_there : nearest.shares ≡ true
      → HasVisible world methods c (tables_at t (head_of heads nearest.number))
  all_there shared asker = nearest_has asker (is.all shared (home_at asker))

-- a table for the class's own package, before those for others
pub own_before : (world : List Shape) (methods : List LoadedMethod) (c : ClassName) (called : List Called)
    (others : List KeyedTable) (asker : ℕ) → HasCalled world methods 128 (home_of c) 128 c called
    → (home_of c ≢ home_at asker → HasAt world methods c others (home_at asker))
    → HasAt world methods c (keyed (home_of c) called ∷ others) (home_at asker)
own_before world methods c called others asker own has token low = by_test (home_of c == home_at asker) refl
  where
    by_test : (b : Bool) → (home_of c == home_at asker) ≡ b
        → unwrap_or (keyed_in (keyed (home_of c) called ∷ others) (home_at asker) token) Nothing
        ≡ called_of methods (virtual_method_of world c (package_visible + token) (home_at asker))
    by_test b h1 = grind (arith, eqb-true, eqb-false)

-- the list of a class with a table of its own
pub put_has : (world : List Shape) (methods : List LoadedMethod) (c : ClassName) (t u : Chained) (called : List Called)
    (above next : Option ℕ) (number : ℕ) → AreChained t → IsHead (length t.tables) above
    → next ≡ number_behind t above (home_of c) → number ≡ length t.tables
    → u ≡ with_table t (keyed (home_of c) called) next → HasCalled world methods 128 (home_of c) 128 c called
    → ((asker : ℕ) → home_of c ≢ home_at asker → HasAt world methods c (tables_at t above) (home_at asker))
    → HasVisible world methods c (tables_at u (Some number))
put_has world methods c t u called above next number are is next_is number_is u_is own has asker =
    subst (λ ks. HasAt world methods c ks (home_at asker)) (sym list_is)
    (own_before world methods c called (tables_at t (number_behind t above (home_of c))) asker own
    (λ other token low. ap (λ o. unwrap_or o Nothing)
    (same_behind t (home_of c) are above (home_at asker) token is (ne_eqb (home_of c) (home_at asker) other))
    ∙ has asker other token low))
  where
    list_is : tables_at u (Some number)
        ≡ keyed (home_of c) called ∷ tables_at t (number_behind t above (home_of c))
    list_is = grind (arith, table_put, head_behind)

pub are_visible : (world : List Shape) (methods : List LoadedMethod) (names : List ClassName)
    (lists : List (List KeyedTable)) → AreListed (HasVisible world methods) names (length names) lists
    → AreVisible world methods names lists
are_visible world methods names lists made number token asker c here high low =
    let less : token - package_visible < 128 = omega (arith, high, low) in
    let same : package_visible + (token - package_visible) ≡ token = omega (arith, high) in
    made.there number c (slice_get_within names number c here) here asker (token - package_visible) less
    ∙ ap (λ k. called_of methods (virtual_method_of world c k (home_at asker))) same
