-- Each class of a world has a number.
use Rattle.std.proofs.Common.{◌≡◌, ℕ, zero, suc, ◌+◌, ◌-◌, ◌<◌, ◌==◌, Bool, true, false, cond, List, [], ◌∷◌, ◌++◌}
use Rattle.std.proofs.Common.{◌&&◌, ◌⊎◌, ◌≤◌, inl, inr, is_some, length, Option, Some}
use Rattle.std.proofs.Common.{None, slice_get, nat_lt, refl, sym, ap, ◌∙◌, arith}
use Rattle.std.proofs.lemmas.Bool.{eq-eqb, eqb-true, le-ltb, lt-ltb}
use Rattle.std.proofs.lemmas.Iterator.Adapters.{position_from-zero}
use Rattle.std.proofs.lemmas.List.{append-nil, append_assoc}
use Rattle.std.proofs.lemmas.Option.{same_Some}
use Rattle.std.specs.List.{cons_option, filter_map, find, position, position_from, range_with_len}
use Rattle.std.specs.Option.{option_and_then}
use Rattle.jc_api.specs.Bound.{Bound}
use Rattle.jc_api.specs.Class.{class_of, number_of, numbered_classes, package_of}
use Rattle.jc_api.specs.declared.class.ApiClass.{ApiClass}
use Rattle.jc_api.specs.declared.class.ApiClass.TheVariants.{Object}
use Rattle.jc_api.specs.declared.class.ApiPackage.{ApiPackage}
use Rattle.jc_api.specs.declared.class.ApiPackage.TheVariants.{Lang, Framework}
use Rattle.jc_cap_desc.specs.Shape.{ClassShape, Shape}
use Rattle.jc_classes.specs.Api.{api_shape, api_world, class_in_api, class_shape_of, those_to}
use Rattle.jc_classes.specs.Growth.{grown}
use Rattle.jc_classes.specs.Members.{name_of}
use Rattle.jc_classes.specs.World.{class_at, class_in, package_at}
use Rattle.jc_link.specs.Built.{IsBuilt, api, loaded}
use Rattle.jc_names.specs.Names.{api_home, api_name, home_of, is_same_name, name_in, offset_of}
use Rattle.jc_names.specs.declared.name.ClassName.{ClassName}
use Rattle.jc_names.specs.declared.name.ClassName.TheVariants.{Api, Loaded}
use Rattle.jc_program.specs.Classes.{HasNumber, HaveNumbers, KeepsNumbers, class_names, class_number, names_from}
use Rattle.jc_program.specs.Classes.{names_in}
use Rattle.jc_program.proofs.Calling.{found_there}
use Rattle.jc_program.proofs.Same.{is_placed, left_true, name_itself, named, numbered_again, right_true}

-- ---- members of lists

get_left : {A : Type 0} (xs ys : List A) (n : ℕ) (x : A) → slice_get xs n ≡ Some x → slice_get (xs ++ ys) n ≡ Some x
get_left [] ys n x at = absurd cc
get_left (y ∷ xs) ys zero x at = at
get_left (y ∷ xs) ys (suc n) x at = get_left xs ys n x at

get_right : {A : Type 0} (xs ys : List A) (n : ℕ) (x : A) → slice_get ys n ≡ Some x
    → (k : ℕ) × (slice_get (xs ++ ys) k ≡ Some x)
get_right [] ys n x at = (n, at)
get_right (y ∷ xs) ys n x at = let r = get_right xs ys n x at in (suc r.0, r.1)

kept : {A B : Type 0} (h : A → Option B) (xs : List A) (k : ℕ) (x : A) (y : B) → slice_get xs k ≡ Some x
    → h x ≡ Some y → (n : ℕ) × (slice_get (filter_map h xs) n ≡ Some y)
kept h [] k x y at e = absurd cc
kept {A} {B} h (z ∷ xs) zero x y at e = (zero, ap (λ o. slice_get (cons_option o (filter_map h xs)) 0) (here ∙ e))
  where
    here : h z ≡ h x
    here = let P : Option A → Option B = λ o. option_and_then h o in ap P at
kept h (z ∷ xs) (suc k) x y at e = by_first (h z) (kept h xs k x y at e)
  where
    by_first : (o : Option _) → (n : ℕ) × (slice_get (filter_map h xs) n ≡ Some y)
        → (n : ℕ) × (slice_get (cons_option o (filter_map h xs)) n ≡ Some y)
    by_first None r = r
    by_first (Some b) r = (suc r.0, r.1)

-- ---- names of a world

named_from : (shapes : List Shape) (first i k : ℕ) (shape : Shape) (class : ClassShape) (c : ClassName)
    → slice_get shapes i ≡ Some shape → slice_get shape.classes k ≡ Some class → name_of (first + i) class ≡ Some c
    → (n : ℕ) × (slice_get (names_from first shapes) n ≡ Some c)
named_from [] first i k shape class c at there name = absurd cc
named_from (s ∷ shapes) first zero k shape class c at there name =
    let same : first + 0 ≡ first = omega arith in
    let r = kept (name_of first) s.classes k class c
    (ap (λ (o : Option Shape). option_and_then (λ (t : Shape). slice_get t.classes k) o) at ∙ there)
    (ap (λ h. name_of h class) (sym same) ∙ name) in
    (r.0, get_left (names_in first s) (names_from (suc first) shapes) r.0 c r.1)
named_from (s ∷ shapes) first (suc i) k shape class c at there name =
    let same : suc first + i ≡ first + suc i = omega arith in
    let r = named_from shapes (suc first) i k shape class c at there (ap (λ h. name_of h class) same ∙ name) in
    get_right (names_in first s) (names_from (suc first) shapes) r.0 c r.1

-- a class of a package has the name that is looked up
module _ (world : List Shape) (c : ClassName) (small : offset_of c < 0x10000) where
  stands : (home : ℕ) (shape : Shape) (k : ClassShape) → slice_get world home ≡ Some shape
      → class_in (offset_of c) shape ≡ Some k → name_in home (offset_of c) ≡ Some c
      → (n : ℕ) × (slice_get (class_names world) n ≡ Some c)
  stands home shape k at found name =
      let r = found_there (λ (k : ClassShape). k.offset == offset_of c) shape.classes k found in
      let offset : k.offset ≡ offset_of c = eqb-true k.offset (offset_of c) r.2 in
      let low : nat_lt k.offset 0x10000 ≡ true = lt-ltb k.offset 0x10000 (omega (arith, offset, small)) in
      let none : 0 + home ≡ home = omega arith in
      named_from world 0 home r.0 shape k c at r.1
      (ap (λ h. name_of h k) none ∙ ap (λ b. cond b (name_in home k.offset) None) low ∙ ap (name_in home) offset ∙ name)

  in_package : (home : ℕ) (o : Option Shape) (k : ClassShape) → slice_get world home ≡ o
      → option_and_then (class_in (offset_of c)) o ≡ Some k → name_in home (offset_of c) ≡ Some c
      → (n : ℕ) × (slice_get (class_names world) n ≡ Some c)
  in_package home o k h1 h2 h3 = grind (arith, None, Some, stands)

api_named : (a : ApiClass) → name_in (api_home (package_of a)) (number_of a) ≡ Some (Api a)
api_named a = by_package (package_of a) refl
  where
    by_package : (p : ApiPackage) → package_of a ≡ p → name_in (api_home p) (number_of a) ≡ Some (Api a)
    by_package p h1 = grind (arith, Some, None, numbered_again)

loaded_named : (n offset : ℕ) → name_in (suc (suc n)) offset ≡ Some (Loaded (suc n) offset)
loaded_named n offset = grind (arith, Some, le-ltb)

has_name : (world : List Shape) (c : ClassName) (k : ClassShape) → offset_of c < 0x10000 → class_at world c ≡ Some k
    → (n : ℕ) × (slice_get (class_names world) n ≡ Some c)
has_name world c k h1 h2 = grind (arith, in_package, slice_get, api_named, loaded_named)

-- ---- each name is a class's

are_numbered : List ApiClass → ℕ → Bool
are_numbered [] n = true
are_numbered (a ∷ classes) n = number_of a == n && are_numbered classes (n + 1)

told_number : (classes : List ApiClass) (first n : ℕ) (a : ApiClass) → are_numbered classes first ≡ true
    → slice_get classes n ≡ Some a → number_of a ≡ first + n
unfolding are_numbered
told_number [] first n a e at = absurd cc
told_number (b ∷ classes) first zero a e at =
    let one = eqb-true (number_of b) first (left_true (number_of b == first) (are_numbered classes (first + 1)) e) in
    ap number_of (sym (same_Some b a at)) ∙ one ∙ omega arith
told_number (b ∷ classes) first (suc n) a e at =
    told_number classes (first + 1) n a (right_true (number_of b == first) (are_numbered classes (first + 1)) e) at
    ∙ omega arith

number_back : (n : ℕ) (a : ApiClass) → class_of n ≡ Some a → number_of a ≡ n
unfolding are_numbered
number_back zero a e = absurd cc
number_back (suc n) a e = told_number numbered_classes 1 n a refl e ∙ omega arith

-- where the class with a name stands
record StandsIn (world : List Shape) (home offset : ℕ) (c : ClassName) : Type 0 where
  home_is : package_at world c ≡ slice_get world home
  home_at : home_of c ≡ home
  offset_is : offset_of c ≡ offset

stands_in : (world : List Shape) (home offset : ℕ) (c : ClassName) → name_in home offset ≡ Some c
    → StandsIn world home offset c
stands_in world home offset c e = by_api (nat_lt home 2) refl e
  where
    by_home : (a : ApiClass) (b : Bool) → class_of offset ≡ Some a → (api_home (package_of a) == home) ≡ b
        → cond b (Some (Api a)) None ≡ Some c → StandsIn world home offset c
    by_home a b h1 h2 h3 = grind (arith, same_Some, slice_get, eqb-true, number_back)

    by_class : (o : Option ApiClass) → class_of offset ≡ o
        → option_and_then (λ class. cond (api_home (package_of class) == home) (Some (Api class)) None) o ≡ Some c
        → StandsIn world home offset c
    by_class o h1 h2 = grind (arith, None, Some, by_home)

    by_place : (h : ℕ) → nat_lt h 2 ≡ false → StandsIn world h offset (Loaded (h - 1) offset)
    by_place h h1 = grind arith

    by_api : (b : Bool) → nat_lt home 2 ≡ b
        → cond b (api_name home offset) (Some (Loaded (home - 1) offset)) ≡ Some c → StandsIn world home offset c
    by_api true t e = by_class (class_of offset) refl e
    by_api false t e = search (arith, by_class, same_Some, by_place)

-- where a name comes from
record Origin (shapes : List Shape) (first : ℕ) (c : ClassName) : Type 0 where
  place : ℕ
  shape : Shape
  index : ℕ
  class : ClassShape
  shape_at : slice_get shapes place ≡ Some shape
  class_at : slice_get shape.classes index ≡ Some class
  name : name_of (first + place) class ≡ Some c

get_either : {A : Type 0} (xs ys : List A) (n : ℕ) (x : A) → slice_get (xs ++ ys) n ≡ Some x
    → ((k : ℕ) × (slice_get xs k ≡ Some x)) ⊎ ((k : ℕ) × (slice_get ys k ≡ Some x))
get_either [] ys n x at = inr (n, at)
get_either (y ∷ xs) ys zero x at = inl (zero, at)
get_either (y ∷ xs) ys (suc n) x at = behind (get_either xs ys n x at)
  where
    behind : ((k : ℕ) × (slice_get xs k ≡ Some x)) ⊎ ((k : ℕ) × (slice_get ys k ≡ Some x))
        → ((k : ℕ) × (slice_get (y ∷ xs) k ≡ Some x)) ⊎ ((k : ℕ) × (slice_get ys k ≡ Some x))
    behind (inl r) = inl (suc r.0, r.1)
    behind (inr r) = inr r

kept_from : {A B : Type 0} (h : A → Option B) (xs : List A) (y : B) (n : ℕ) → slice_get (filter_map h xs) n ≡ Some y
    → (x : A) × (k : ℕ) × (slice_get xs k ≡ Some x) × (h x ≡ Some y)
kept_from h [] y n e = absurd cc
kept_from {A} {B} h (z ∷ xs) y n e = by_first (h z) refl (kept_from h xs y) n e
  where
    by_first : (o : Option B) → h z ≡ o
        → ((m : ℕ) → slice_get (filter_map h xs) m ≡ Some y
        → (x : A) × (k : ℕ) × (slice_get xs k ≡ Some x) × (h x ≡ Some y))
        → (m : ℕ) → slice_get (cons_option o (filter_map h xs)) m ≡ Some y
        → (x : A) × (k : ℕ) × (slice_get (z ∷ xs) k ≡ Some x) × (h x ≡ Some y)
    by_first None t rest m e = let r = rest m e in (r.0, suc r.1, r.2, r.3)
    by_first (Some b) t rest zero e = (z, zero, refl, t ∙ e)
    by_first (Some b) t rest (suc m) e = let r = rest m e in (r.0, suc r.1, r.2, r.3)

origin : (shapes : List Shape) (first n : ℕ) (c : ClassName) → slice_get (names_from first shapes) n ≡ Some c
    → Origin shapes first c
origin [] first n c at = absurd cc
origin (s ∷ shapes) first n c at =
    by_part (get_either (names_in first s) (names_from (suc first) shapes) n c at) (origin shapes (suc first))
  where
    by_part : ((k : ℕ) × (slice_get (names_in first s) k ≡ Some c))
        ⊎ ((k : ℕ) × (slice_get (names_from (suc first) shapes) k ≡ Some c))
        → ((m : ℕ) (d : ClassName) → slice_get (names_from (suc first) shapes) m ≡ Some d
        → Origin shapes (suc first) d)
        → Origin (s ∷ shapes) first c
    by_part (inl r) rest =
        let f = kept_from (name_of first) s.classes c r.0 r.1 in
        let same : first ≡ first + 0 = omega arith in
        record {
          place = zero;
          shape = s;
          index = f.1;
          class = f.0;
          shape_at = refl;
          class_at = f.2;
          name = ap (λ h. name_of h f.0) (sym same) ∙ f.3;
        }
    by_part (inr r) rest =
        let o = rest r.0 c r.1 in
        let same : suc first + o.place ≡ first + suc o.place = omega arith in
        record {
          place = suc o.place;
          shape = o.shape;
          index = o.index;
          class = o.class;
          shape_at = o.shape_at;
          class_at = o.class_at;
          name = ap (λ h. name_of h o.class) (sym same) ∙ o.name;
        }

some_found : {A : Type 0} (p : A → Bool) (xs : List A) (k : ℕ) (x : A) → slice_get xs k ≡ Some x → p x ≡ true
    → is_some (find p xs) ≡ true
some_found p [] k x at t = absurd cc
some_found p (y ∷ xs) zero x at t = ap (λ b. is_some (cond b (Some y) (find p xs))) (ap p (same_Some y x at) ∙ t)
some_found p (y ∷ xs) (suc k) x at t = by_first (p y) (some_found p xs k x at t)
  where
    by_first : (b : Bool) → is_some (find p xs) ≡ true → is_some (cond b (Some y) (find p xs)) ≡ true
    by_first b h1 = grind arith

spelled : (b : Bool) (o : Option ClassName) (c : ClassName) → cond b o None ≡ Some c → o ≡ Some c
spelled true o c e = e
spelled false o c e = absurd cc

pub is_there : (world : List Shape) (n : ℕ) (c : ClassName) → slice_get (class_names world) n ≡ Some c
    → is_some (class_at world c) ≡ true
is_there world n c at =
    let o = origin world 0 n c at in
    let none : 0 + o.place ≡ o.place = omega arith in
    let s = stands_in world o.place o.class.offset c
    (spelled (nat_lt o.class.offset 0x10000) (name_in o.place o.class.offset) c
    (ap (λ h. name_of h o.class) (sym none) ∙ o.name)) in
    ap (λ (p : Option Shape). is_some (option_and_then (class_in (offset_of c)) p)) (s.home_is ∙ o.shape_at)
    ∙ ap (λ offset. is_some (class_in offset o.shape)) s.offset_is
    ∙ some_found (λ (k : ClassShape). k.offset == o.class.offset) o.shape.classes o.index o.class o.class_at
    (eq-eqb o.class.offset o.class.offset refl)

pub numbered : (world : List Shape) → HaveNumbers world
numbered world = record { numbers = told; classes = is_there world }
  where
    told : (c : ClassName) (k : ClassShape) → offset_of c < 0x10000 → class_at world c ≡ Some k
        → HasNumber (class_names world) c
    told c k small e =
        let r = has_name world c k small e in
        let p = is_placed (λ d. is_same_name d c) (class_names world) r.0 c r.1 (name_itself c) in
        record { number = p.0; found = p.1; there = named (class_names world) c p.0 p.1 }

-- ---- a package more

place_kept : {A : Type 0} (p : A → Bool) (xs ys : List A) (first n : ℕ) → position_from p first xs ≡ Some n
    → position_from p first (xs ++ ys) ≡ Some n
place_kept p [] ys first n e = absurd cc
place_kept p (x ∷ xs) ys first n e = by_first (p x) (place_kept p xs ys (first + 1) n) e
  where
    by_first : (b : Bool)
        → (position_from p (first + 1) xs ≡ Some n → position_from p (first + 1) (xs ++ ys) ≡ Some n)
        → cond b (Some first) (position_from p (first + 1) xs) ≡ Some n
        → cond b (Some first) (position_from p (first + 1) (xs ++ ys)) ≡ Some n
    by_first b h1 h2 = grind arith

position_kept : {A : Type 0} (p : A → Bool) (xs ys : List A) (n : ℕ) → position p xs ≡ Some n
    → position p (xs ++ ys) ≡ Some n
position_kept p xs ys n e = grind (arith, position_from-zero, place_kept)

names_grown : (shapes : List Shape) (first home : ℕ) (more : Shape) → home ≡ first + length shapes
    → names_from first (shapes ++ more ∷ []) ≡ names_from first shapes ++ names_in home more
names_grown [] first home more is = append-nil (names_in first more) ∙ ap (λ h. names_in h more) (omega (arith, is))
names_grown (s ∷ shapes) first home more is =
    ap (λ ns. names_in first s ++ ns) (names_grown shapes (suc first) home more (omega (arith, is)))
    ∙ sym (append_assoc (names_in first s) (names_from (suc first) shapes) (names_in home more))

pub keeps_numbers : (world : List Shape) (more : Shape) → KeepsNumbers world more
keeps_numbers world more = record {
  names = grows;
  numbers = λ c n e. ap (λ ns. class_number ns c) grows
      ∙ position_kept (λ d. is_same_name d c) (class_names world) (names_in (length world) more) n e;
}
  where
    grows : class_names (grown world more) ≡ class_names world ++ names_in (length world) more
    grows = names_grown world 0 (length world) more (omega arith)

-- the names behind those of before are of the package that is put behind
pub get_front : {A : Type 0} (xs ys : List A) (n : ℕ) → n < length xs → slice_get (xs ++ ys) n ≡ slice_get xs n
get_front [] ys n less = absurd (omega (arith, less))
get_front (x ∷ xs) ys zero less = refl
get_front (x ∷ xs) ys (suc n) less = get_front xs ys n (omega (arith, less))

get_rest : {A : Type 0} (xs ys : List A) (n : ℕ) → length xs ≤ n → (k : ℕ) × (slice_get (xs ++ ys) n ≡ slice_get ys k)
get_rest [] ys n past = (n, refl)
get_rest (x ∷ xs) ys zero past = absurd (omega (arith, past))
get_rest (x ∷ xs) ys (suc n) past = get_rest xs ys n (omega (arith, past))

pub new_at_home : (world : List Shape) (more : Shape) (m : ℕ) (d : ClassName) → length (class_names world) ≤ m
    → slice_get (class_names (grown world more)) m ≡ Some d → home_of d ≡ length world
new_at_home world more m d past at =
    let home = length world in
    let r = get_rest (class_names world) (names_in home more) m past in
    let f = kept_from (name_of home) more.classes d r.0
    (sym r.1 ∙ ap (λ ns. slice_get ns m) (sym (keeps_numbers world more).names) ∙ at) in
    let offset = (f.0).offset in
    (stands_in world home offset d (spelled (nat_lt offset 0x10000) (name_in home offset) d f.3)).home_at

-- ---- Object

first_of_those : {A : Type 0} (f : ℕ → Option A) (n : ℕ) (x : A) → f 1 ≡ Some x
    → those_to (suc n) f ≡ x ∷ filter_map f (range_with_len (1 + 1) n)
unfolding those_to
first_of_those f n x e = ap (λ o. cons_option o (filter_map f (range_with_len (1 + 1) n))) e

first_here : (names : List ClassName) → class_number (Api Object ∷ names) (Api Object) ≡ Some 0
first_here names = position_from-zero (λ d. is_same_name d (Api Object)) (Api Object ∷ names)

object_of_api : (bound : Bound) → class_number (class_names (api_world bound)) (Api Object) ≡ Some 0
object_of_api bound =
    let f : ℕ → Option ClassShape = class_shape_of bound Lang in
    let rest = filter_map f (range_with_len (1 + 1) 21) in
    let behind = names_from 1 (api_shape bound Framework ∷ []) in
    ap (λ ks. class_number (filter_map (name_of 0) ks ++ behind) (Api Object))
    (first_of_those f 21 (class_in_api bound Object) refl)
    ∙ first_here (filter_map (name_of 0) rest ++ behind)

pub object_is_first : (world : List Shape) → IsBuilt world → class_number (class_names world) (Api Object) ≡ Some 0
object_is_first world (api bound clear) = object_of_api bound
object_is_first world (loaded before p built fine) =
    (keeps_numbers before p.shape).numbers (Api Object) 0 (object_is_first before built)
