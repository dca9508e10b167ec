-- Ways up from a class, step by step. A shortest one meets no class twice, so the steps of is_subtype find all.
use Rattle.std.proofs.Common.{◌≡◌, ◌↔◌, ◌⊎◌, inl, inr, ℕ, zero, suc, ◌+◌, ◌-◌, ◌*◌, ◌<◌, ◌≤◌, ◌==◌, ◌||◌, Bool, true, false, List, [], ◌∷◌, length, map, Option, Some, None, refl, sym, ap, subst, ◌∙◌, arith, unwrap_or}
use Rattle.std.proofs.lemmas.Bool.{eqb-true}
use Rattle.std.proofs.lemmas.List.{length-map}
use Rattle.std.proofs.lemmas.Map.Keys.{IsDistinct-cons}
use Rattle.std.proofs.lemmas.Map.Steps.{length-le_from_distinct_below}
use Rattle.std.proofs.lemmas.Option.{slice_get_within}
use Rattle.std.specs.List.{AllByRecursion, IsDistinct, list_any}
use Rattle.std.specs.Option.{option_map_or}
use Rattle.jc_cap_desc.specs.Shape.{ClassShape, Shape}
use Rattle.jc_api.specs.declared.class.ApiClass.TheVariants.{Object}
use Rattle.jc_classes.proofs.Below.{edge, list_edge, list_there, name_is, name_itself, super_edge, super_there}
use Rattle.jc_classes.proofs.Filling.{is_index, there_index}
use Rattle.jc_classes.proofs.Standing.{true_false}
use Rattle.jc_classes.proofs.Superclasses.{found_by, way_up}
use Rattle.jc_classes.proofs.Tabling.{one_class}
use Rattle.jc_classes.proofs.Walking.{most_is}
use Rattle.jc_classes.specs.Limits.{IsSmall}
use Rattle.jc_names.specs.Names.{is_same_name}
use Rattle.jc_classes.specs.PrivateSearch.{above, IsWay, arrives, goes}
use Rattle.jc_classes.specs.PrivateTables.{index_at}
use Rattle.jc_classes.specs.Subtype.{IsAmong, IsSubtype, Lists, by_interface, by_superclass, is_at_or_above, is_class_below, is_subtype, is_subtype_within, object, same}
use Rattle.jc_classes.specs.Walk.{most_classes}
use Rattle.jc_names.specs.Names.{home_of}
use Rattle.jc_classes.specs.World.{class_at, interfaces_of, superclass_of}
use Rattle.jc_names.specs.declared.name.ClassName.{ClassName}
use Rattle.jc_names.specs.declared.name.ClassName.TheVariants.{Api}

-- ---- tests

first_true : (a b : Bool) → a ≡ true → (a || b) ≡ true
first_true a b h1 = grind (arith, true_false)

second_true : (a b : Bool) → b ≡ true → (a || b) ≡ true
second_true a b h1 = grind arith

either : (a b : Bool) → (a || b) ≡ true → (a ≡ true) ⊎ (b ≡ true)
either a b h1 = grind arith

any_among : (test : ClassName → Bool) (classes : List ClassName) (c : ClassName)
    → IsAmong c classes → test c ≡ true → list_any test classes ≡ true
any_among test [] c m e = absurd m
any_among test (d ∷ classes) c (inl one) e = first_true (test d) (list_any test classes) (ap test one ∙ e)
any_among test (d ∷ classes) c (inr m) e = second_true (test d) (list_any test classes) (any_among test classes c m e)

some_among : (test : ClassName → Bool) (classes : List ClassName) → list_any test classes ≡ true
    → (c : ClassName) × IsAmong c classes × (test c ≡ true)
some_among test [] e = absurd (true_false (sym e))
some_among test (d ∷ classes) e = by_first (either (test d) (list_any test classes) e) (some_among test classes)
  where
    by_first : (test d ≡ true) ⊎ (list_any test classes ≡ true)
        → (list_any test classes ≡ true → (c : ClassName) × IsAmong c classes × (test c ≡ true))
        → (c : ClassName) × IsAmong c (d ∷ classes) × (test c ≡ true)
    by_first (inl f) behind = (d, inl refl, f)
    by_first (inr f) behind = let rest = behind f in (rest.0, inr rest.1, rest.2)

-- ---- steps

module _ (world : List Shape) (n : ℕ) (c d : ClassName) where
  abbrev by_super : Bool
  by_super = option_map_or (λ e. is_subtype_within world n e d) (superclass_of world c) false

  abbrev by_list : Bool
  by_list = list_any (λ e. is_subtype_within world n e d) (interfaces_of world c)

  there_already : c ≡ d → is_subtype_within world (suc n) c d ≡ true
  there_already one = grind (arith, first_true, name_itself)

  through_super : (s : ClassName) → superclass_of world c ≡ Some s → is_subtype_within world n s d ≡ true
      → is_subtype_within world (suc n) c d ≡ true
  through_super s up e = grind (arith, first_true, second_true)

  through_list : (i : ClassName) → Lists world c i → is_subtype_within world n i d ≡ true
      → is_subtype_within world (suc n) c d ≡ true
  through_list i m e = grind (arith, second_true, any_among)

-- ---- what the steps find

found_steps : (world : List Shape) (n : ℕ) (c d : ClassName) → is_subtype_within world n c d ≡ true
    → IsSubtype world c d
found_steps world zero c d e = absurd (true_false (sym e))
found_steps world (suc n) c d e =
    by_way (either (is_same_name c d || by_super world n c d) (by_list world n c d) e) (λ s. found_steps world n s d)
  where
    of_super : (o : Option ClassName) → superclass_of world c ≡ o
        → option_map_or (λ e. is_subtype_within world n e d) o false ≡ true
        → ((s : ClassName) → is_subtype_within world n s d ≡ true → IsSubtype world s d) → IsSubtype world c d
    of_super None up f rest = absurd (true_false (sym f))
    of_super (Some s) up f rest = by_superclass c s d up (rest s f)

    by_first : (is_same_name c d ≡ true) ⊎ (by_super world n c d ≡ true)
        → ((s : ClassName) → is_subtype_within world n s d ≡ true → IsSubtype world s d) → IsSubtype world c d
    by_first (inl f) rest = subst (IsSubtype world c) (name_is c d f) (same c)
    by_first (inr f) rest = of_super (superclass_of world c) refl f rest

    by_way : ((is_same_name c d || by_super world n c d) ≡ true) ⊎ (by_list world n c d ≡ true)
        → ((s : ClassName) → is_subtype_within world n s d ≡ true → IsSubtype world s d) → IsSubtype world c d
    by_way (inl f) rest = by_first (either (is_same_name c d) (by_super world n c d) f) rest
    by_way (inr f) rest =
        let i = some_among (λ e. is_subtype_within world n e d) (interfaces_of world c) f in
        by_interface c i.0 d i.1 (rest i.0 i.2)

pub found_is : (world : List Shape) (c d : ClassName) → is_subtype world c d ≡ true → IsSubtype world c d
found_is world c d e = by_way (either (is_same_name (Api Object) d) (is_subtype_within world most_classes c d) e)
  where
    by_way : (is_same_name (Api Object) d ≡ true) ⊎ (is_subtype_within world most_classes c d ≡ true)
        → IsSubtype world c d
    by_way (inl f) = subst (IsSubtype world c) (name_is (Api Object) d f) (object c)
    by_way (inr f) = found_steps world most_classes c d f

-- ---- along superclasses

climbed : (world : List Shape) (n : ℕ) (d c : ClassName) → is_at_or_above world n d c ≡ true
    → is_subtype_within world n c d ≡ true
climbed world zero d c e = absurd (true_false (sym e))
climbed world (suc n) d c e = by_way (found_by world d c n e) (λ s. climbed world n d s)
  where
    by_way : (c ≡ d) ⊎ ((s : ClassName) × (superclass_of world c ≡ Some s) × (is_at_or_above world n d s ≡ true))
        → ((s : ClassName) → is_at_or_above world n d s ≡ true → is_subtype_within world n s d ≡ true)
        → is_subtype_within world (suc n) c d ≡ true
    by_way h1 h2 = grind (arith, there_already, through_super)

below_object : (world : List Shape) (c d : ClassName) → Api Object ≡ d → is_subtype world c d ≡ true
below_object world c d one = grind (arith, first_true, name_itself)

pub below_is_found : (world : List Shape) (c d : ClassName) → is_class_below world c d ≡ true
    → is_subtype world c d ≡ true
below_is_found world c d e = grind (arith, way_up, below_object, second_true, climbed)

-- ---- ways

-- as many steps as there are classes on a way find its end
found_on : (world : List Shape) (to : ClassName) (n : ℕ) (c : ClassName) (way : List ClassName)
    → IsWay world to c way → length way ≤ n → is_subtype_within world n c to ≡ true
found_on world to zero _ _ arrives l = absurd (omega arith)
found_on world to (suc n) _ _ arrives l = there_already world n to to refl
found_on world to zero _ _ (goes c d way m r) l = absurd (omega arith)
found_on world to (suc n) _ _ (goes c d way m r) l =
    by_edge (edge world c d m) (found_on world to n d way r (omega arith))
  where
    by_edge : (superclass_of world c ≡ Some d) ⊎ Lists world c d → is_subtype_within world n d to ≡ true
        → is_subtype_within world (suc n) c to ≡ true
    by_edge h1 h2 = grind (arith, through_super, through_list)

way_of : (world : List Shape) (c e : ClassName) → IsSubtype world c e
    → (Api Object ≡ e) ⊎ ((way : List ClassName) × IsWay world e c way)
way_of world _ _ (same c) = inr (c ∷ [], arrives)
way_of world _ _ (object c) = inl refl
way_of world _ _ (by_superclass c d e s r) = behind (way_of world d e r)
  where
    behind : (Api Object ≡ e) ⊎ ((way : List ClassName) × IsWay world e d way)
        → (Api Object ≡ e) ⊎ ((way : List ClassName) × IsWay world e c way)
    behind (inl one) = inl one
    behind (inr w) = inr (c ∷ w.0, goes c d w.0 (super_edge world c d s) w.1)
way_of world _ _ (by_interface c i e m r) = behind (way_of world i e r)
  where
    behind : (Api Object ≡ e) ⊎ ((way : List ClassName) × IsWay world e i way)
        → (Api Object ≡ e) ⊎ ((way : List ClassName) × IsWay world e c way)
    behind (inl one) = inl one
    behind (inr w) = inr (c ∷ w.0, goes c i w.0 (list_edge world c i m) w.1)

-- ---- numbers that tell the classes of a small world apart

abbrev IsThere : List Shape → ClassName → Type 0
IsThere world c = (k : ClassShape) × (class_at world c ≡ Some k)

abbrev number : List Shape → ClassName → ℕ
number world c = 255 * home_of c + unwrap_or (index_at world c) 0

record IsNumbered (world : List Shape) (c : ClassName) : Type 0 where
  index : ℕ
  at : index_at world c ≡ Some index
  number_is : number world c ≡ 255 * home_of c + index
  small : index < 255
  low : home_of c < 67

is_numbered : (world : List Shape) (c : ClassName) → IsSmall world → IsThere world c → IsNumbered world c
is_numbered world c small there = grind (arith, there_index, is_index, slice_get_within)

one_number : (world : List Shape) (c d : ClassName) → IsSmall world → IsThere world c → IsThere world d
    → number world c ≡ number world d → c ≡ d
one_number world c d small e f one =
    let p = is_numbered world c small e in
    let q = is_numbered world d small f in
    let home : home_of d ≡ home_of c = omega (arith, one, p.number_is, q.number_is, p.small, q.small) in
    let index : q.index ≡ p.index = omega (arith, one, p.number_is, q.number_is, home) in
    one_class world c d p.index q.index small p.at q.at home index

number_below : (world : List Shape) (c : ClassName) → IsSmall world → IsThere world c → number world c < most_classes
number_below world c small e =
    let p = is_numbered world c small e in omega (arith, most_is, p.number_is, p.small, p.low)

-- ---- ways that meet no class twice

all_apart : (q : ℕ) (xs : List ℕ) → list_any (λ r. q == r) xs ≡ false → AllByRecursion (λ r. (q == r) ≡ false) xs
all_apart q [] e = tt
all_apart q (x ∷ xs) e = by_first (q == x) refl e (all_apart q xs)
  where
    by_first : (b : Bool) → (q == x) ≡ b → (b || list_any (λ r. q == r) xs) ≡ false
        → (list_any (λ r. q == r) xs ≡ false → AllByRecursion (λ r. (q == r) ≡ false) xs)
        → ((q == x) ≡ false) × AllByRecursion (λ r. (q == r) ≡ false) xs
    by_first true f e behind = absurd (true_false e)
    by_first false f e behind = (f, behind e)

none_distinct : IsDistinct ◌==◌ []
unfolding IsDistinct
none_distinct = tt

rest_distinct : (x : ℕ) (xs : List ℕ) → IsDistinct ◌==◌ (x ∷ xs) → IsDistinct ◌==◌ xs
unfolding IsDistinct
rest_distinct x xs d = d.1

record IsShort (world : List Shape) (to c : ClassName) : Type 0 where
  way : List ClassName
  leads : IsWay world to c way
  distinct : IsDistinct ◌==◌ (map (number world) way)
  there : AllByRecursion (IsThere world) way

-- a way from a class that is met
from_there : (world : List Shape) (to c : ClassName) (q : ℕ) (way : List ClassName) → IsWay world to c way
    → IsDistinct ◌==◌ (map (number world) way) → AllByRecursion (IsThere world) way
    → list_any (λ r. q == r) (map (number world) way) ≡ true
    → (d : ClassName) × (q ≡ number world d) × IsThere world d × IsShort world to d
from_there world to _ q _ arrives distinct there e = by_first (either (q == number world to) false e)
  where
    by_first : ((q == number world to) ≡ true) ⊎ (false ≡ true)
        → (d : ClassName) × (q ≡ number world d) × IsThere world d × IsShort world to d
    by_first (inl f) =
        let short : IsShort world to to =
        record { way = to ∷ []; leads = arrives; distinct = distinct; there = there } in
        (to, eqb-true q (number world to) f, there.0, short)
    by_first (inr f) = absurd (true_false (sym f))
from_there world to _ q _ (goes c d way m r) distinct there e =
    by_first (either (q == number world c) (list_any (λ r. q == r) (map (number world) way)) e)
    (from_there world to d q way r (rest_distinct (number world c) (map (number world) way) distinct) there.1)
  where
    by_first : ((q == number world c) ≡ true) ⊎ (list_any (λ r. q == r) (map (number world) way) ≡ true)
        → (list_any (λ r. q == r) (map (number world) way) ≡ true
        → (d : ClassName) × (q ≡ number world d) × IsThere world d × IsShort world to d)
        → (d : ClassName) × (q ≡ number world d) × IsThere world d × IsShort world to d
    by_first (inl f) rest = (
      c,
      eqb-true q (number world c) f,
      there.0,
      record { way = c ∷ way; leads = goes c d way m r; distinct = distinct; there = there },
    )
    by_first (inr f) rest = rest f

module _ (world : List Shape) (small : IsSmall world) (to : ClassName) where
  one_longer : (c d : ClassName) → IsThere world c → IsAmong d (above world c) → IsShort world to d → IsShort world to c
  one_longer c d there m s = by_test (list_any (λ r. number world c == r) (map (number world) s.way)) refl
    where
      by_test : (b : Bool) → list_any (λ r. number world c == r) (map (number world) s.way) ≡ b → IsShort world to c
      by_test true e =
          let met = from_there world to d (number world c) s.way s.leads s.distinct s.there e in
          subst (IsShort world to) (sym (one_number world c met.0 small there met.2 met.1)) met.3
      by_test false e = record {
        way = c ∷ s.way;
        leads = goes c d s.way m s.leads;
        distinct =
            IsDistinct-cons ◌==◌ (number world c) (map (number world) s.way)
            (all_apart (number world c) (map (number world) s.way) e) s.distinct;
        there = (there, s.there);
      }

  edge_there : (c d : ClassName) → IsAmong d (above world c) → IsThere world c × IsThere world d
  edge_there c d m = by_edge (edge world c d m)
    where
      by_edge : (superclass_of world c ≡ Some d) ⊎ Lists world c d → IsThere world c × IsThere world d
      by_edge (inl up) = super_there world c d up
      by_edge (inr up) = list_there world c d up

  shortened : (c : ClassName) (way : List ClassName) → IsWay world to c way → IsThere world c → IsShort world to c
  shortened _ _ arrives there = record {
    way = to ∷ [];
    leads = arrives;
    distinct = IsDistinct-cons ◌==◌ (number world to) [] tt none_distinct;
    there = (there, tt);
  }
  shortened _ _ (goes c d way m r) there = one_longer c d there m (shortened d way r (edge_there c d m).1)

  all_below : (q : ℕ) (way : List ClassName) → AllByRecursion (IsThere world) way
      → list_any (λ r. q == r) (map (number world) way) ≡ true → q < most_classes
  all_below q [] there e = absurd (true_false (sym e))
  all_below q (c ∷ way) there e = grind (arith, either, eqb-true, number_below, all_below q way there.1)

  short_is_found : (c : ClassName) → IsShort world to c → is_subtype_within world most_classes c to ≡ true
  short_is_found c s =
      let few =
      length-le_from_distinct_below (map (number world) s.way) most_classes s.distinct
      (λ q. all_below q s.way s.there) in
      found_on world to most_classes c s.way s.leads (omega (arith, few, length-map s.way (number world)))

  way_is_found : (c : ClassName) (way : List ClassName) → IsWay world to c way
      → is_subtype_within world most_classes c to ≡ true
  way_is_found _ _ arrives =
      let one : most_classes ≡ suc (most_classes - 1) = omega (arith, most_is) in
      ap (λ n. is_subtype_within world n to to) one ∙ there_already world (most_classes - 1) to to refl
  way_is_found _ _ (goes c d way m r) = short_is_found c (shortened c (c ∷ way) (goes c d way m r) (edge_there c d m).0)

pub all_are_found : (world : List Shape) → IsSmall world → (c d : ClassName) → IsSubtype world c d
    → is_subtype world c d ≡ true
all_are_found world small c d s = grind (arith, way_of, below_object, second_true, way_is_found)

-- ---- classes

same_tests : (a b : Bool) → (a ≡ true → b ≡ true) → (b ≡ true → a ≡ true) → a ≡ b
same_tests a b h1 h2 = grind (arith, true_false)

pub same_of_classes : (world : List Shape) (c d : ClassName) → (is_class_below world c d ≡ true ↔ IsSubtype world c d)
    → is_subtype world c d ≡ is_class_below world c d
same_of_classes world c d law = grind (arith, same_tests, found_is, below_is_found)
