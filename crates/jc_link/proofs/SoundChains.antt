-- What fit classes say of the chains of superclasses: they come to an end, in Object, and whoever walks them finds the same with more steps.
use Rattle.std.proofs.Common.{◌≡◌, ℕ, zero, suc, ◌+◌, ◌-◌, ◌*◌, ◌<◌, ◌≤◌, ◌==◌, ◌&&◌, ◌||◌, ◌⊎◌, inl, inr, Bool, true, false, not, cond, List, [], ◌∷◌, length, Option, Some, None, refl, sym, ap, subst, ◌∙◌, arith, is_some, slice_get}
use Rattle.std.proofs.lemmas.Bool.{eqb-true}
use Rattle.std.proofs.lemmas.List.Folds.{find_at}
use Rattle.std.proofs.lemmas.Map.Keys.{IsDistinct-cons}
use Rattle.std.proofs.lemmas.Map.Steps.{length-le_from_distinct_below}
use Rattle.std.proofs.lemmas.Option.{slice_get_within}
use Rattle.std.specs.List.{AllByRecursion, IsDistinct, cons_option, filter_map, list_any, position_or_len}
use Rattle.std.specs.Option.{option_and_then, option_map_or}
use Rattle.jc_base.specs.declared.class_ref.ClassRef.{ClassRef}
use Rattle.jc_cap.specs.ClassComponent.{is_class}
use Rattle.jc_cap_desc.specs.Shape.{ClassShape, Shape}
use Rattle.jc_api.specs.declared.class.ApiClass.TheVariants.{Object}
use Rattle.jc_api.specs.declared.class.ApiPackage.{ApiPackage}
use Rattle.jc_classes.specs.Limits.{IsSmall}
use Rattle.jc_names.specs.Names.{is_same_name}
use Rattle.jc_classes.specs.Subtype.{comes_to_end, IsAmong, Lists, is_class_at, is_interface_at, is_at_or_above}
use Rattle.jc_classes.specs.Walk.{found_from, most_classes, walk}
use Rattle.jc_names.specs.Names.{api_home, home_of, offset_of}
use Rattle.jc_classes.specs.World.{class_at, class_named, if_there, class_spelled, package_at, superclass_of}
use Rattle.jc_names.specs.declared.name.ClassName.{ClassName}
use Rattle.jc_names.specs.declared.name.ClassName.TheVariants.{Api}
use Rattle.jc_link.proofs.GrownParts.{the_some, none_some, some_of, then_same, or_same}
use Rattle.jc_link.proofs.Nones.{true_false, left_false, right_false, then_false, not_false, found_passes}
use Rattle.jc_link.proofs.SameNames.{same_name, same_number, name_itself}
use Rattle.jc_link.proofs.Superclasses.{most_is}
use Rattle.jc_link.specs.Named.{cells_above, size_of}
use Rattle.jc_link.specs.PrivateFit.{AreFit, IsRoot}
use Rattle.jc_link.specs.Sound.{IsHeir, itself, behind, HaveSuperclasses}

-- ---- chains

pub heir_of_walk : (world : List Shape) (n : ℕ) (d c : ClassName) → is_at_or_above world n d c ≡ true → IsHeir world c d
heir_of_walk world zero d c e = true_false (sym e)
heir_of_walk world (suc n) d c e = by_name (is_same_name c d) refl (superclass_of world c) refl e (λ s. heir_of_walk world n d s)
  where
    by_name : (b : Bool) → is_same_name c d ≡ b → (o : Option ClassName) → superclass_of world c ≡ o → (b || option_map_or (is_at_or_above world n d) o false) ≡ true
        → ((s : ClassName) → is_at_or_above world n d s ≡ true → IsHeir world s d) → IsHeir world c d
    by_name true same o f e rest = subst (IsHeir world c) (same_name c d same) (itself c)
    by_name false other None f e rest = true_false (sym e)
    by_name false other (Some s) f e rest = behind c s d f (rest s e)

-- ---- walks with enough steps

-- one class less is enough above it
pub ends_above : (world : List Shape) (n : ℕ) (c d : ClassName) → comes_to_end world (suc n) c ≡ true → superclass_of world c ≡ Some d → comes_to_end world n d ≡ true
ends_above world n c d e f = sym (ap (λ (o : Option ClassName). option_map_or (comes_to_end world n) o true) f) ∙ e

pub walk_enough : {A : Type 0} (visit : ClassName → ClassShape → _) (world : List Shape) (n m : ℕ) (c : ClassName)
    → comes_to_end world n c ≡ true → n ≤ m → walk {A = A} visit world m c ≡ walk visit world n c
walk_enough visit world zero m c e l = true_false (sym e)
walk_enough visit world (suc n) zero c e l = absurd (omega arith)
walk_enough visit world (suc n) (suc m) c e l =
    ap (λ above. option_and_then (λ k. found_from (visit c k) above) (class_at world c))
    (then_same (walk visit world m) (walk visit world n) (superclass_of world c) (λ d f. walk_enough visit world n m d (ends_above world n c d e f) (omega arith)))

cells_enough : (world : List Shape) (n m : ℕ) (c : ClassName) → comes_to_end world n c ≡ true → n ≤ m → cells_above world m c ≡ cells_above world n c
cells_enough world zero m c e l = true_false (sym e)
cells_enough world (suc n) zero c e l = absurd (omega arith)
cells_enough world (suc n) (suc m) c e l =
    or_same (λ d. size_of world d + cells_above world m d) (λ d. size_of world d + cells_above world n d) 0 (superclass_of world c)
    (λ d f. ap (λ n. size_of world d + n) (cells_enough world n m d (ends_above world n c d e f) (omega arith)))

pub cells_follow : (world : List Shape) → HaveSuperclasses world → (c d : ClassName) → superclass_of world c ≡ Some d
    → cells_above world most_classes c ≡ size_of world d + cells_above world most_classes d
cells_follow world have c d e =
    let one : most_classes ≡ suc (most_classes - 1) = omega (arith, most_is) in
    let ends : comes_to_end world (suc (most_classes - 1)) c ≡ true = ap (λ n. comes_to_end world n c) (sym one) ∙ have.orderly.ends c in
    grind (
      arith,
      cells_enough world (most_classes - 1) most_classes d (ends_above world (most_classes - 1) c d ends e) (omega arith),
    )

-- ---- where a class has a superclass

pub named_there : (world : List Shape) (home : ℕ) (ref : ClassRef) (c : ClassName) → class_named world home ref ≡ Some c → (k : ClassShape) × (class_at world c ≡ Some k)
named_there world home ref c e =
    let a = some_of (if_there world) (class_spelled world home ref) c e in
    by_class a.0 (class_at world a.0) refl a.2
  where
    by_class : (d : ClassName) (o : Option ClassShape) → class_at world d ≡ o → cond (is_some o) (Some d) None ≡ Some c → (k : ClassShape) × (class_at world c ≡ Some k)
    by_class d None at f = absurd (none_some c f)
    by_class d (Some k) at f = (k, ap (class_at world) (sym (the_some d c f)) ∙ at)

-- it is there itself, as a class that names the superclass, which is there too
pub record HasSuperclass (world : List Shape) (c d : ClassName) : Type 0 where
  pub shape : ClassShape
  pub there : class_at world c ≡ Some shape
  pub class : is_class shape.body ≡ true
  pub above : ClassShape
  pub there_above : class_at world d ≡ Some above

pub has_superclass : (world : List Shape) (c d : ClassName) → superclass_of world c ≡ Some d → HasSuperclass world c d
has_superclass world c d e = grind (arith, some_of, named_there, none_some)

-- ---- numbers that tell the classes of a small world apart

pub package_there : (world : List Shape) (c : ClassName) (s : Shape) → package_at world c ≡ Some s → slice_get world (home_of c) ≡ Some s
package_there world c s h1 = grind (arith, none_some)

pub api_low : (p : ApiPackage) → api_home p < 2
api_low p = grind arith

-- names of one place are one, where packages have numbers
one_name : (world : List Shape) (c d : ClassName) (s t : Shape) → package_at world c ≡ Some s → package_at world d ≡ Some t → home_of c ≡ home_of d → offset_of c ≡ offset_of d → c ≡ d
one_name world c d s t h1 h2 h3 h4 = grind (arith, same_number, none_some, api_low)

abbrev index_of : List Shape → ClassName → ℕ
index_of world c = option_map_or (λ s. position_or_len (λ k. k.offset == offset_of c) s.classes) (package_at world c) 0

abbrev number : List Shape → ClassName → ℕ
number world c = 255 * home_of c + index_of world c

record IsNumbered (world : List Shape) (c : ClassName) (k : ClassShape) : Type 0 where
  shape : Shape
  home : package_at world c ≡ Some shape
  found : slice_get shape.classes (index_of world c) ≡ Some k
  offset : k.offset ≡ offset_of c
  small : index_of world c < 255
  low : home_of c < 67

is_numbered : (world : List Shape) (c : ClassName) (k : ClassShape) → IsSmall world → class_at world c ≡ Some k → IsNumbered world c k
is_numbered world c k small e = grind (arith, some_of, package_there, find_at, slice_get_within, eqb-true, found_passes)

one_number : (world : List Shape) (c d : ClassName) (k l : ClassShape) → IsSmall world → class_at world c ≡ Some k → class_at world d ≡ Some l → number world c ≡ number world d → c ≡ d
one_number world c d k l small e f same =
    let p = is_numbered world c k small e in
    let q = is_numbered world d l small f in
    let home : home_of c ≡ home_of d = omega (arith, same, p.small, q.small) in
    let index : index_of world c ≡ index_of world d = omega (arith, same, home) in
    let shapes : p.shape ≡ q.shape = the_some _ _ (sym (package_there world c p.shape p.home) ∙ ap (slice_get world) home ∙ package_there world d q.shape q.home) in
    let both : k ≡ l = the_some _ _ (sym p.found ∙ ap (λ (s : Shape). slice_get s.classes (index_of world c)) shapes ∙ ap (slice_get (q.shape).classes) index ∙ q.found) in
    one_name world c d p.shape q.shape p.home q.home home (sym p.offset ∙ ap (λ (k : ClassShape). k.offset) both ∙ q.offset)

number_below : (world : List Shape) (c : ClassName) (k : ClassShape) → IsSmall world → class_at world c ≡ Some k → number world c < most_classes
number_below world c k small e = let p = is_numbered world c k small e in omega (arith, most_is, p.small, p.low)

-- ---- the numbers of a chain

abbrev chain : List Shape → ℕ → ClassName → List ℕ
chain world zero c = []
chain world (suc n) c = number world c ∷ option_map_or (chain world n) (superclass_of world c) []

long : (world : List Shape) (n : ℕ) (c : ClassName) → comes_to_end world n c ≡ false → suc n ≤ length (chain world (suc n) c)
long world zero c e = omega arith
long world (suc n) c e = by_superclass (superclass_of world c) e (λ d. long world n d)
  where
    by_superclass : (o : Option ClassName) → option_map_or (comes_to_end world n) o true ≡ false → ((d : ClassName) → comes_to_end world n d ≡ false → suc n ≤ length (chain world (suc n) d))
        → suc (suc n) ≤ suc (length (option_map_or (chain world (suc n)) o []))
    by_superclass o h1 h2 = grind (arith, true_false)

-- a class of a chain with a number
record IsOnChain (world : List Shape) (n : ℕ) (c : ClassName) (q : ℕ) : Type 0 where
  class : ClassName
  shape : ClassShape
  there : class_at world class ≡ Some shape
  number : q ≡ number world class
  above : is_at_or_above world n class c ≡ true

or_true : (a b : Bool) → b ≡ true → (a || b) ≡ true
or_true a b h1 = grind arith

on_chain : (world : List Shape) (n : ℕ) (c : ClassName) (k : ClassShape) (q : ℕ) → class_at world c ≡ Some k → list_any (λ r. q == r) (chain world n c) ≡ true → IsOnChain world n c q
on_chain world zero c k q there e = true_false (sym e)
on_chain world (suc n) c k q there e = by_first (q == number world c) (eqb-true q (number world c)) (superclass_of world c) refl e (λ d. on_chain world n d)
  where
    by_first : (b : Bool) → (b ≡ true → q ≡ number world c) → (o : Option ClassName) → superclass_of world c ≡ o → (b || list_any (λ r. q == r) (option_map_or (chain world n) o [])) ≡ true
        → ((d : ClassName) (l : ClassShape) (q : ℕ) → class_at world d ≡ Some l → list_any (λ r. q == r) (chain world n d) ≡ true → IsOnChain world n d q) → IsOnChain world (suc n) c q
    by_first true same o f e rest = grind (arith, name_itself)
    by_first false other None f e rest = true_false (sym e)
    by_first false other (Some d) f e rest =
        let up = has_superclass world c d f in
        let on = rest d up.above q up.there_above e in
        grind (arith, or_true)

-- more steps find what fewer do
above_more : (world : List Shape) (n m : ℕ) (d c : ClassName) → n ≤ m → is_at_or_above world n d c ≡ true → is_at_or_above world m d c ≡ true
above_more world zero m d c l e = true_false (sym e)
above_more world (suc n) zero d c l e = absurd (omega arith)
above_more world (suc n) (suc m) d c l e = by_name (is_same_name c d) (superclass_of world c) e (λ s. above_more world n m d s (omega arith))
  where
    by_name : (b : Bool) (o : Option ClassName) → (b || option_map_or (is_at_or_above world n d) o false) ≡ true
        → ((s : ClassName) → is_at_or_above world n d s ≡ true → is_at_or_above world m d s ≡ true) → (b || option_map_or (is_at_or_above world m d) o false) ≡ true
    by_name b o h1 h2 = grind arith

all_apart : (q : ℕ) (xs : List ℕ) → list_any (λ r. q == r) xs ≡ false → AllByRecursion (λ r. (q == r) ≡ false) xs
all_apart q [] e = tt
all_apart q (x ∷ xs) e = (left_false (q == x) (list_any (λ r. q == r) xs) e, all_apart q xs (right_false (q == x) (list_any (λ r. q == r) xs) e))

none_distinct : IsDistinct ◌==◌ []
unfolding IsDistinct
none_distinct = tt

module _ (world : List Shape) (small : IsSmall world) (fit : AreFit world) where
  -- a class isn't on the chain of its superclass
  not_above : (n : ℕ) (c d : ClassName) → n ≤ most_classes → superclass_of world c ≡ Some d → list_any (λ r. number world c == r) (chain world n d) ≡ false
  not_above n c d l e = by_test (list_any (λ r. number world c == r) (chain world n d)) refl
    where
      by_test : (b : Bool) → list_any (λ r. number world c == r) (chain world n d) ≡ b → b ≡ false
      by_test false f = refl
      by_test true f =
          let up = has_superclass world c d e in
          let on = on_chain world n d up.above (number world c) up.there_above f in
          let same : c ≡ on.class = one_number world c on.class up.shape on.shape small up.there on.there on.number in
          let round : is_at_or_above world most_classes c d ≡ true = above_more world n most_classes c d l (ap (λ a. is_at_or_above world n a d) same ∙ on.above) in
          true_false (sym (ap (λ (o : Option ClassName). option_map_or (is_at_or_above world most_classes c) o false) e ∙ round) ∙ (fit c up.shape up.there).round)

  distinct : (n : ℕ) (c : ClassName) → n ≤ suc most_classes → IsDistinct ◌==◌ (chain world n c)
  distinct zero c l = none_distinct
  distinct (suc n) c l = by_superclass (superclass_of world c) refl (λ d. distinct n d (omega arith))
    where
      by_superclass : (o : Option ClassName) → superclass_of world c ≡ o → ((d : ClassName) → IsDistinct ◌==◌ (chain world n d)) → IsDistinct ◌==◌ (number world c ∷ option_map_or (chain world n) o [])
      by_superclass None e rest = IsDistinct-cons ◌==◌ (number world c) [] tt none_distinct
      by_superclass (Some d) e rest = IsDistinct-cons ◌==◌ (number world c) (chain world n d) (all_apart (number world c) (chain world n d) (not_above n c d (omega arith) e)) (rest d)

  ends : (c : ClassName) → comes_to_end world most_classes c ≡ true
  ends c = by_test (comes_to_end world most_classes c) refl
    where
      one : most_classes ≡ suc (most_classes - 1)
      one = omega (arith, most_is)

      there : (o : Option ClassName) → superclass_of world c ≡ o → comes_to_end world (suc (most_classes - 1)) c ≡ false → (k : ClassShape) × (class_at world c ≡ Some k)
      there o h1 h2 = grind (arith, true_false, has_superclass)

      by_test : (b : Bool) → comes_to_end world most_classes c ≡ b → b ≡ true
      by_test true e = refl
      by_test false e =
          let k = there (superclass_of world c) refl (ap (λ n. comes_to_end world n c) (sym one) ∙ e) in
          let many = long world most_classes c e in
          let few = length-le_from_distinct_below (chain world (suc most_classes) c) most_classes (distinct (suc most_classes) c (omega arith))
          (λ q h. let on = on_chain world (suc most_classes) c k.0 q k.1 h in let below = number_below world on.class on.shape small on.there in omega (arith, below, on.number)) in
          absurd (omega (arith, many, few))

-- ---- superclasses and interfaces of fit classes

module _ (world : List Shape) (fit : AreFit world) where
  -- a class is Object, or has a superclass, which is a class
  class_above : (c : ClassName) (k : ClassShape) → class_at world c ≡ Some k → is_class k.body ≡ true → IsRoot world c ⊎ (option_map_or (is_class_at world) (superclass_of world c) false ≡ true)
  class_above c k there class = by_kind (fit c k there).superclass
    where
      by_kind : IsRoot world c ⊎ ((is_class k.body && not (option_map_or (is_class_at world) (superclass_of world c) false)) ≡ false)
          → IsRoot world c ⊎ (option_map_or (is_class_at world) (superclass_of world c) false ≡ true)
      by_kind h1 = grind (arith, not_false, then_false)

  superclasses_are_classes : (c d : ClassName) → superclass_of world c ≡ Some d → is_class_at world d ≡ true
  superclasses_are_classes c d e = let up = has_superclass world c d e in by_kind (class_above c up.shape up.there up.class)
    where
      by_kind : IsRoot world c ⊎ (option_map_or (is_class_at world) (superclass_of world c) false ≡ true) → is_class_at world d ≡ true
      by_kind h1 = grind (arith, none_some)

  up_to_object : (n : ℕ) (c : ClassName) → comes_to_end world n c ≡ true → is_class_at world c ≡ true → IsHeir world c (Api Object)
  up_to_object zero c e class = true_false (sym e)
  up_to_object (suc n) c e class = by_class (class_at world c) refl class (λ d. up_to_object n d)
    where
      by_superclass : (o : Option ClassName) → superclass_of world c ≡ o → option_map_or (is_class_at world) o false ≡ true
          → ((d : ClassName) → comes_to_end world n d ≡ true → is_class_at world d ≡ true → IsHeir world d (Api Object)) → IsHeir world c (Api Object)
      by_superclass None f has rest = true_false (sym has)
      by_superclass (Some d) f has rest = behind c d (Api Object) f (rest d (ends_above world n c d e f) has)

      by_kind : IsRoot world c ⊎ (option_map_or (is_class_at world) (superclass_of world c) false ≡ true)
          → ((d : ClassName) → comes_to_end world n d ≡ true → is_class_at world d ≡ true → IsHeir world d (Api Object)) → IsHeir world c (Api Object)
      by_kind (inl root) rest = subst (IsHeir world c) root.object (itself c)
      by_kind (inr has) rest = by_superclass (superclass_of world c) refl has rest

      by_class : (o : Option ClassShape) → class_at world c ≡ o → option_map_or (λ k. is_class k.body) o false ≡ true
          → ((d : ClassName) → comes_to_end world n d ≡ true → is_class_at world d ≡ true → IsHeir world d (Api Object)) → IsHeir world c (Api Object)
      by_class o h1 h2 h3 = grind (arith, true_false, by_kind, class_above)

  among_interfaces : (home : ℕ) (refs : List ClassRef) (i : ClassName) → list_any (λ ref. not (option_map_or (is_interface_at world) (class_named world home ref) false)) refs ≡ false
      → IsAmong i (filter_map (class_named world home) refs) → is_interface_at world i ≡ true
  among_interfaces home [] i e m = absurd m
  among_interfaces home (ref ∷ refs) i e m =
      by_name (class_named world home ref) (left_false _ (list_any no_interface refs) e) m (among_interfaces home refs i (right_false (no_interface ref) (list_any no_interface refs) e))
    where
      no_interface : ClassRef → Bool
      no_interface ref = not (option_map_or (is_interface_at world) (class_named world home ref) false)

      by_name : (o : Option ClassName) → not (option_map_or (is_interface_at world) o false) ≡ false → IsAmong i (cons_option o (filter_map (class_named world home) refs))
          → (IsAmong i (filter_map (class_named world home) refs) → is_interface_at world i ≡ true) → is_interface_at world i ≡ true
      by_name o h1 h2 h3 = grind (arith, not_false)

  listed_are_interfaces : (c i : ClassName) → Lists world c i → is_interface_at world i ≡ true
  listed_are_interfaces c i m = grind (arith, among_interfaces)

-- where Object had a superclass, the chain of no class that leads to Object would come to an end
never_ends : (world : List Shape) (d : ClassName) → superclass_of world (Api Object) ≡ Some d → IsHeir world d (Api Object) → (n : ℕ) (c : ClassName) → IsHeir world c (Api Object)
    → comes_to_end world n c ≡ false
never_ends world d e h zero c g = refl
never_ends world d e h (suc n) _ (itself _) = ap (λ (o : Option ClassName). option_map_or (comes_to_end world n) o true) e ∙ never_ends world d e h n d h
never_ends world d e h (suc n) _ (behind c s _ up g) = ap (λ (o : Option ClassName). option_map_or (comes_to_end world n) o true) up ∙ never_ends world d e h n s g

object_alone : (world : List Shape) → ((c : ClassName) → comes_to_end world most_classes c ≡ true)
    → ((c d : ClassName) → superclass_of world c ≡ Some d → is_class_at world d ≡ true) → ((c : ClassName) → is_class_at world c ≡ true → IsHeir world c (Api Object))
    → superclass_of world (Api Object) ≡ None
object_alone world ends classes object = by_super (superclass_of world (Api Object)) refl
  where
    by_super : (o : Option ClassName) → superclass_of world (Api Object) ≡ o → o ≡ None
    by_super None e = refl
    by_super (Some d) e = true_false (sym (ends (Api Object)) ∙ never_ends world d e (object d (classes (Api Object) d e)) most_classes (Api Object) (itself (Api Object)))

pub superclasses_hold : (world : List Shape) → IsSmall world → AreFit world → HaveSuperclasses world
superclasses_hold world small fit = record {
  orderly = record { ends = ends world small fit; interfaces = listed_are_interfaces world fit };
  classes = superclasses_are_classes world fit;
  object = λ c class. up_to_object world fit most_classes c (ends world small fit c) class;
  top = object_alone world (ends world small fit) (superclasses_are_classes world fit) (λ c class. up_to_object world fit most_classes c (ends world small fit c) class);
  heirs = λ c d e. heir_of_walk world most_classes d c e;
}
