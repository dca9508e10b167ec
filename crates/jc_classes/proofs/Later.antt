-- Many packages behind the others are seen by none of them.
use Rattle.std.proofs.Common.{◌≡◌, ◌⊎◌, ℕ, zero, suc, ◌+◌, ◌<◌, ◌≤◌, ◌||◌, Bool, true, false, not, cond, nat_lt, List, [], ◌∷◌, ◌++◌, length, take, drop, Option, Some, None, inl, inr, refl, sym, ap, subst, ◌∙◌, arith, is_some, slice_get, append_assoc, append-nil, length-append, take-append-drop}
use Rattle.std.proofs.lemmas.Bool.{cases_lt, ltb-false}
use Rattle.std.proofs.lemmas.Option.{slice_get_within}
use Rattle.std.specs.List.{find, list_any}
use Rattle.std.specs.Option.{option_and_then, option_map, option_map_or}
use Rattle.jc_base.proofs.Binding.{none_some, the_some}
use Rattle.jc_cap_desc.specs.Shape.{ClassShape, MethodShape, Shape}
use Rattle.jc_api.specs.Class.{package_of}
use Rattle.jc_api.specs.Member.{ApiMember}
use Rattle.jc_api.specs.declared.class.ApiClass.TheVariants.{Object}
use Rattle.jc_classes.proofs.Below.{api_low, name_itself}
use Rattle.jc_classes.proofs.Growing.{adding_keeps, get_before, listed_within, name_home, superclass_within}
use Rattle.jc_classes.proofs.Standing.{some_of, package_there}
use Rattle.jc_classes.proofs.Superclasses.{above_more, below_object, met, walked_up}
use Rattle.jc_classes.proofs.Walking.{most_is}
use Rattle.jc_classes.proofs.Ways.{below_is_found, found_is}
use Rattle.jc_classes.specs.Growth.{grown, IsMethodWithin, IsWithin, KeepsAllLookups, LiesWithin, StandWithin}
use Rattle.jc_classes.specs.Limits.{IsSmall}
use Rattle.jc_names.specs.Names.{method_home, method_offset}
use Rattle.jc_classes.specs.Members.{DeclaredMethod, declared_in, method_at, name_of}
use Rattle.jc_classes.specs.Methods.{method_name, method_of_class}
use Rattle.jc_names.specs.Names.{is_same_name}
use Rattle.jc_classes.specs.Subtype.{IsAmong, IsSubtype, by_interface, by_superclass, is_at_or_above, is_class_below, is_subtype, is_subtype_within, object, same}
use Rattle.jc_classes.specs.Walk.{most_classes}
use Rattle.jc_names.specs.Names.{api_home, home_of, name_in}
use Rattle.jc_classes.specs.World.{class_at, interfaces_of, superclass_of}
use Rattle.jc_names.specs.declared.name.ClassName.{ClassName}
use Rattle.jc_names.specs.declared.name.ClassName.TheVariants.{Api}
use Rattle.jc_names.specs.declared.name.MethodName.{MethodName}
use Rattle.jc_names.specs.declared.name.MethodName.TheVariants.{Loaded}

-- ---- what is there is within

class_within : (world : List Shape) (c : ClassName) (k : ClassShape) → class_at world c ≡ Some k → IsWithin world c
class_within world c k e = grind (arith, some_of, slice_get_within, package_there)

method_within : (world : List Shape) (m : MethodName) (d : DeclaredMethod) → method_at world m ≡ Some d
    → IsMethodWithin world m
method_within world m d e home at = grind (arith, some_of, the_some, slice_get_within)

class_of_declared : (home : ℕ) (c : ClassName) (o : Option MethodShape) (d : DeclaredMethod) → home_of c ≡ home
    → option_map (λ m. record { class = c; method = m }) o ≡ Some d → home_of d.class ≡ home
class_of_declared home c o d h1 h2 = grind (arith, none_some, the_some)

chosen_of : {A : Type 0} (b : Bool) (o : Option A) (a : A) → cond b o None ≡ Some a → o ≡ Some a
chosen_of b o a h1 = grind (arith, none_some)

declared_home : (home offset : ℕ) (shape : Shape) (d : DeclaredMethod) → declared_in home offset shape ≡ Some d
    → home_of d.class ≡ home
declared_home home offset shape d e =
    let in_class : ClassShape → ClassName → Option DeclaredMethod =
    λ k class. option_map (λ m. record { class = class; method = m }) (method_of_class offset k) in
    let k =
    some_of (λ k. option_and_then (in_class k) (name_of home k))
    (find (λ k. is_some (method_of_class offset k)) shape.classes) d e in
    let n = some_of (in_class k.0) (name_of home k.0) d k.2 in
    let named = chosen_of (nat_lt (k.0).offset 0x10000) (name_in home (k.0).offset) n.0 n.1 in
    class_of_declared home n.0 (method_of_class offset k.0) d (name_home home (k.0).offset n.0 named) n.2

declared_within : (world : List Shape) (m : MethodName) (d : DeclaredMethod) → method_at world m ≡ Some d
    → IsWithin world d.class
declared_within world m d e =
    let a =
    some_of (λ home. option_and_then (declared_in home (method_offset m)) (slice_get world home)) (method_home m) d e in
    let b = some_of (declared_in a.0 (method_offset m)) (slice_get world a.0) d a.2 in
    let same = declared_home a.0 (method_offset m) b.0 d b.2 in
    omega (arith, same, slice_get_within world a.0 b.0 b.1)

loaded_home : (number offset home : ℕ) → 1 ≤ number → method_home (Loaded number offset) ≡ Some home → number + 1 ≡ home
loaded_home number offset home h1 h2 = grind (arith, the_some)

api_member_low : (o : Option ApiMember) (there : ℕ) → option_map (λ m. api_home (package_of m.class)) o ≡ Some there
    → there < 2
api_member_low o there h1 = grind (arith, none_some, the_some, api_low)

name_within : (world : List Shape) (home offset : ℕ) → 2 ≤ length world → home < length world
    → IsMethodWithin world (method_name home offset)
name_within world home offset two h = grind (arith, ltb-false, api_member_low, loaded_home)

-- what a class of a world is below is of a package of it
above_within : (world : List Shape) (c d : ClassName) → IsSubtype world c d → IsWithin world c → IsWithin world d
above_within world _ _ (same c) w = w
above_within world _ _ (object c) w = let l : home_of c < length world = w in omega (arith, l)
above_within world _ _ (by_superclass c d e s r) w = above_within world d e r (superclass_within world c d w s)
above_within world _ _ (by_interface c i e m r) w = above_within world i e r (listed_within world c i w m)

pub all_within : (world : List Shape) → StandWithin world
all_within world = grind (arith, class_within, method_within, declared_within, name_within, above_within)

-- the first packages of a world lie within it
pub first_lie_within : (world : List Shape) (count : ℕ) → LiesWithin (take count world) world
first_lie_within [] zero = refl
first_lie_within [] (suc n) = refl
first_lie_within (shape ∷ world) zero = refl
first_lie_within (shape ∷ world) (suc n) = ap (λ (rest : List Shape). shape ∷ rest) (first_lie_within world n)

-- ---- orders and subtypes, where superclasses and interfaces are the same

or_same : {A : Type 0} (f g : A → Bool) (o : Option A) → ((a : A) → o ≡ Some a → f a ≡ g a)
    → option_map_or f o false ≡ option_map_or g o false
or_same f g o h1 = grind arith

any_same : (f g : ClassName → Bool) (classes : List ClassName) → ((c : ClassName) → IsAmong c classes → f c ≡ g c)
    → list_any f classes ≡ list_any g classes
any_same f g [] h = refl
any_same f g (c ∷ classes) h =
    ap (λ b. b || list_any f classes) (h c (inl refl)) ∙ ap (λ b. g c || b) (any_same f g classes (λ d m. h d (inr m)))

module _ (before after : List Shape)
    (superclasses : (c : ClassName) → IsWithin before c → superclass_of after c ≡ superclass_of before c) where
  at_or_above_stays : (n : ℕ) (d c : ClassName) → IsWithin before c
      → is_at_or_above after n d c ≡ is_at_or_above before n d c
  at_or_above_stays zero d c w = refl
  at_or_above_stays (suc n) d c w =
      ap (λ (o : Option ClassName). is_same_name c d || option_map_or (is_at_or_above after n d) o false)
      (superclasses c w)
      ∙ ap (λ b. is_same_name c d || b)
      (or_same (is_at_or_above after n d) (is_at_or_above before n d) (superclass_of before c)
      (λ s e. at_or_above_stays n d s (superclass_within before c s w e)))

  order_stays : (c d : ClassName) → IsWithin before c → is_class_below after c d ≡ is_class_below before c d
  order_stays c d w = ap (λ b. is_same_name (Api Object) d || b) (at_or_above_stays most_classes d c w)

  module _ (interfaces : (c : ClassName) → IsWithin before c → interfaces_of after c ≡ interfaces_of before c) where
    subtype_stays : (n : ℕ) (c d : ClassName) → IsWithin before c
        → is_subtype_within after n c d ≡ is_subtype_within before n c d
    subtype_stays zero c d w = refl
    subtype_stays (suc n) c d w =
        all_same
        (ap (λ (o : Option ClassName). option_map_or (λ e. is_subtype_within after n e d) o false) (superclasses c w)
        ∙ or_same (λ e. is_subtype_within after n e d) (λ e. is_subtype_within before n e d) (superclass_of before c)
        (λ s e. subtype_stays n s d (superclass_within before c s w e)))
        (ap (list_any (λ e. is_subtype_within after n e d)) (interfaces c w)
        ∙ any_same (λ e. is_subtype_within after n e d) (λ e. is_subtype_within before n e d) (interfaces_of before c)
        (λ i m. subtype_stays n i d (listed_within before c i w m)))
      where
        all_same : {p q r s : Bool} → p ≡ q → r ≡ s → (is_same_name c d || p || r) ≡ (is_same_name c d || q || s)
        all_same {p} {q} {r} {s} e f = ap (λ b. is_same_name c d || b || r) e ∙ ap (λ b. is_same_name c d || q || b) f

    found_subtype_stays : (c d : ClassName) → IsWithin before c → is_subtype after c d ≡ is_subtype before c d
    found_subtype_stays c d w = ap (λ b. is_same_name (Api Object) d || b) (subtype_stays most_classes c d w)

-- ---- what is of no package of the earlier world has nothing above it there

module _ (world : List Shape) (c : ClassName) (past : length world ≤ home_of c) where
  nothing_there : class_at world c ≡ None
  nothing_there = grind (arith, class_within)

  no_superclass : superclass_of world c ≡ None
  no_superclass = grind (arith, nothing_there)

  no_interfaces : interfaces_of world c ≡ []
  no_interfaces = grind (arith, nothing_there)

  alone : (d : ClassName) → IsSubtype world c d → (Api Object ≡ d) ⊎ (c ≡ d)
  alone d s = by_way c d s no_superclass no_interfaces
    where
      by_way : (c d : ClassName) → IsSubtype world c d → superclass_of world c ≡ None → interfaces_of world c ≡ []
          → (Api Object ≡ d) ⊎ (c ≡ d)
      by_way _ _ (same c) none empty = inr refl
      by_way _ _ (object c) none empty = inl refl
      by_way _ _ (by_superclass c d e up r) none empty = absurd (none_some d (sym none ∙ up))
      by_way _ _ (by_interface c i e m r) none empty = absurd (subst (IsAmong i) empty m)

  stays_below : (later : List Shape) (d : ClassName) → IsSubtype world c d → is_class_below later c d ≡ true
  stays_below later d s = by_way (alone d s)
    where
      by_way : (Api Object ≡ d) ⊎ (c ≡ d) → is_class_below later c d ≡ true
      by_way (inl one) = below_object later c d one
      by_way (inr one) =
          let first = met later d c 0 (ap (is_same_name c) (sym one) ∙ name_itself c) in
          walked_up later c d (above_more later 1 most_classes d c (omega (arith, most_is)) first)

module _ (before later : List Shape) where
  still_below : ((c d : ClassName) → IsWithin before c → is_class_below later c d ≡ is_class_below before c d)
      → (c d : ClassName) → is_class_below before c d ≡ true → is_class_below later c d ≡ true
  still_below order c d e = grind (arith, cases_lt, stays_below, found_is, below_is_found)

  still_found : ((c d : ClassName) → IsWithin before c → is_subtype later c d ≡ is_subtype before c d)
      → (c d : ClassName) → is_subtype before c d ≡ true → is_subtype later c d ≡ true
  still_found found c d e = grind (arith, cases_lt, below_is_found, stays_below, found_is)

-- ---- one package more, and one behind the other

method_stays : (before after : List Shape) (m : MethodName)
    → ((home : ℕ) → method_home m ≡ Some home → home < length before → method_at after m ≡ method_at before m)
    → IsMethodWithin before m → method_at after m ≡ method_at before m
method_stays before after m keeps w = grind arith

one_more : (before : List Shape) (more : Shape) → KeepsAllLookups before (grown before more)
one_more before more =
    let one = adding_keeps before more in
    let order = order_stays before (grown before more) one.superclasses in
    let found = found_subtype_stays before (grown before more) one.superclasses one.interfaces in
    record {
      count = omega (arith, length-append before (more ∷ []));
      packages = λ home h. get_before before more home h;
      classes = one.classes;
      are_classes = grind arith;
      are_interfaces = grind (arith, not);
      references = one.references;
      superclasses = one.superclasses;
      interfaces = one.interfaces;
      virtual_methods = one.virtual_methods;
      interface_methods = one.interface_methods;
      order = order;
      still_below = still_below before (grown before more) order;
      found_subtypes = found;
      still_found = still_found before (grown before more) found;
      subtypes = one.subtypes;
      implementations = one.implementations;
      methods = λ m w. method_stays before (grown before more) m (one.methods m) w;
    }

no_more : (world : List Shape) → KeepsAllLookups world world
no_more world = grind (arith, still_below, still_found)

module _ (first middle last : List Shape) (f : KeepsAllLookups first middle) (g : KeepsAllLookups middle last) where
  further : (c : ClassName) → IsWithin first c → IsWithin middle c
  further c w = omega (arith, w, f.count)

  both_keep : KeepsAllLookups first last
  both_keep = grind (arith, further, still_below, still_found)

-- ---- many packages

all_behind : (before more : List Shape) → KeepsAllLookups before (before ++ more)
all_behind before [] = subst (KeepsAllLookups before) (sym (append-nil before)) (no_more before)
all_behind before (shape ∷ more) =
    both_keep before (grown before shape) (before ++ shape ∷ more) (one_more before shape)
    (subst (KeepsAllLookups (grown before shape)) (append_assoc before (shape ∷ []) more)
    (all_behind (grown before shape) more))

pub all_kept : (before after : List Shape) → LiesWithin before after → KeepsAllLookups before after
all_kept before after lies =
    let whole : before ++ drop (length before) after ≡ after =
    ap (λ (first : List Shape). first ++ drop (length before) after) (sym lies)
    ∙ take-append-drop (length before) after in
    subst (KeepsAllLookups before) whole (all_behind before (drop (length before) after))

pub small_within : (before after : List Shape) → LiesWithin before after → IsSmall after → IsSmall before
small_within before after lies small = grind (arith, all_kept, slice_get_within)
