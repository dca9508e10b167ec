-- What a class is below, from what stands right above it.
use Rattle.std.proofs.Common.{◌≡◌, ◌⊎◌, inl, inr, ℕ, zero, suc, ◌+◌, ◌-◌, ◌<◌, ◌≤◌, ◌==◌, ◌&&◌, ◌||◌, Bool, true, false}
use Rattle.std.proofs.Common.{cond, nat_lt, List, [], ◌∷◌, ◌++◌, length, map, drop, Option, Some, None, slice_get}
use Rattle.std.proofs.Common.{unwrap_or, refl, sym, ap, subst, ◌∙◌, arith, length-append}
use Rattle.std.proofs.lemmas.Bool.{cases_lt, eq-eqb, eqb-true, lt-ltb, ltb-true, ne_eqb}
use Rattle.std.proofs.lemmas.Iterator.Adapters.{position_from-zero}
use Rattle.std.proofs.lemmas.List.{append-nil, append_assoc, length-map, map-append}
use Rattle.std.proofs.lemmas.Option.{same_Some, slice_get_within}
use Rattle.std.specs.List.{filter_map, position_from}
use Rattle.std.specs.Option.{option_and_then, option_map_or, option_to_list}
use Rattle.jc_api.specs.declared.class.ApiClass.TheVariants.{Object}
use Rattle.jc_cap.specs.ClassComponent.{is_class}
use Rattle.jc_cap.specs.declared.record.RecordBody.{RecordBody}
use Rattle.jc_cap_desc.specs.Shape.{Shape}
use Rattle.jc_classes.specs.Record.{interface_rows, superinterfaces}
use Rattle.jc_classes.specs.Subtype.{IsAmong, IsSubtype, by_interface, by_superclass, is_subtype, object, same}
use Rattle.jc_classes.specs.World.{interfaces_of, listed_refs, superclass_of}
use Rattle.jc_names.specs.Names.{is_same_name}
use Rattle.jc_names.specs.declared.name.ClassName.{ClassName}
use Rattle.jc_names.specs.declared.name.ClassName.TheVariants.{Api}
use Rattle.jc_program.specs.Classes.{class_number}
use Rattle.jc_program.specs.BitRow.{has_bit}
use Rattle.jc_program.specs.PrivateBitRows.{AreSettled, IsRightAbove, has_number}
use Rattle.jc_program.specs.PrivateSupertypes.{AreAbove, AreBegun, AreNumbersOf, AreRight, AreWithin, HasObjects, IsPut}
use Rattle.jc_program.specs.PrivateSupertypes.{itself_and_above}
use Rattle.jc_program.specs.Supertypes.{AreSupertypes, is_listed}
use Rattle.jc_program.proofs.Calling.{get_before, get_last}
use Rattle.jc_program.proofs.Interfacing.{none_left, rest_more}
use Rattle.jc_program.proofs.Rowing.{empty_row}
use Rattle.jc_program.proofs.Same.{left_true, name_itself, named, right_true, same_name, true_false}

-- ---- how many interfaces a record lists

pub class_lists : (body : RecordBody) → is_class body ≡ true → length (interface_rows body) ≡ length (listed_refs body)
class_lists body h1 = grind (arith, length-map)

pub interface_lists : (body : RecordBody) → is_class body ≡ false
    → length (superinterfaces body) ≡ length (listed_refs body)
interface_lists body h1 = grind (arith, length-map)

-- ---- numbers of classes

-- a number among those of classes is a class's, and each of the classes has its number there
number_is : (names classes : List ClassName) (numbers : List ℕ) (n : ℕ) → AreNumbersOf names classes numbers
    → has_number n numbers ≡ true → (c : ClassName) × IsAmong c classes × (class_number names c ≡ Some n)
number_is names classes [] n are has = absurd cc
number_is names [] (k ∷ numbers) n are has = absurd cc
number_is names (c ∷ classes) (k ∷ numbers) n are has =
    by_first (k == n) refl (number_is names classes numbers n rest) has
  where
    first : Some k ≡ class_number names c
    first = cc

    rest : AreNumbersOf names classes numbers
    rest = cc

    by_first : (b : Bool) → (k == n) ≡ b
        → (has_number n numbers ≡ true → (d : ClassName) × IsAmong d classes × (class_number names d ≡ Some n))
        → (b || has_number n numbers) ≡ true
        → (d : ClassName) × IsAmong d (c ∷ classes) × (class_number names d ≡ Some n)
    by_first b h1 h2 h3 = grind (arith, first, Some, eqb-true)

number_of : (names classes : List ClassName) (numbers : List ℕ) (c : ClassName) → AreNumbersOf names classes numbers
    → IsAmong c classes → (n : ℕ) × (class_number names c ≡ Some n) × (has_number n numbers ≡ true)
number_of names [] numbers c are among = absurd among
number_of names (d ∷ classes) [] c are among = absurd cc
number_of names (d ∷ classes) (k ∷ numbers) c are among = by_place among (number_of names classes numbers c rest)
  where
    first : Some k ≡ class_number names d
    first = cc

    rest : AreNumbersOf names classes numbers
    rest = cc

    or_true : (a b : Bool) → b ≡ true → (a || b) ≡ true
    or_true a b h1 = grind arith

    by_place : (d ≡ c) ⊎ IsAmong c classes
        → (IsAmong c classes → (n : ℕ) × (class_number names c ≡ Some n) × (has_number n numbers ≡ true))
        → (n : ℕ) × (class_number names c ≡ Some n) × (has_number n (k ∷ numbers) ≡ true)
    by_place (inl e) later =
        (k, ap (class_number names) (sym e) ∙ sym first, ap (λ b. b || has_number k numbers) (eq-eqb k k refl))
    by_place (inr m) later = let r = later m in (r.0, r.1, or_true (k == r.0) (has_number r.0 numbers) r.2)

-- the first place of a name is no later than another one
place_first : {A : Type 0} (p : A → Bool) (xs : List A) (from k n : ℕ) (x : A) → slice_get xs k ≡ Some x → p x ≡ true
    → position_from p from xs ≡ Some n → n ≤ from + k
place_first p [] from k n x at t e = absurd cc
place_first p (y ∷ xs) from zero n x at t e =
    let same : from ≡ n = same_Some from n
    (sym (ap (λ b. cond b (Some from) (position_from p (from + 1) xs)) (ap p (same_Some y x at) ∙ t)) ∙ e) in
    omega (arith, same)
place_first p (y ∷ xs) from (suc k) n x at t e = by_first (p y) (place_first p xs (from + 1) k n x at t) e
  where
    by_first : (b : Bool) → (position_from p (from + 1) xs ≡ Some n → n ≤ from + 1 + k)
        → cond b (Some from) (position_from p (from + 1) xs) ≡ Some n → n ≤ from + suc k
    by_first b h1 h2 = grind (arith, same_Some)

number_first : (names : List ClassName) (c : ClassName) (n k : ℕ) → slice_get names k ≡ Some c
    → class_number names c ≡ Some n → n ≤ k
number_first names c n k at e = grind (arith, place_first, name_itself, position_from-zero)

-- ---- numbers of interfaces, one more at a time

pub numbers_more : {A B : Type 0} (h : A → Option B) (f : B → Option ℕ) (refs : List A) (at : ℕ)
    (old so_far more : List ℕ)
    → map Some so_far ++ map f (filter_map h (drop at refs)) ≡ map Some old ++ map f (filter_map h refs)
    → map Some more ≡ map Some so_far ++ map f (option_to_list (option_and_then h (slice_get refs at)))
    → at < length refs
    → map Some more ++ map f (filter_map h (drop (at + 1) refs)) ≡ map Some old ++ map f (filter_map h refs)
numbers_more h f refs at old so_far more before put less =
    ap (λ ns. ns ++ map f (filter_map h (drop (at + 1) refs))) put
    ∙ append_assoc (map Some so_far) (map f (option_to_list (option_and_then h (slice_get refs at))))
    (map f (filter_map h (drop (at + 1) refs)))
    ∙ ap (λ ns. map Some so_far ++ ns) (sym (map-append f (option_to_list (option_and_then h (slice_get refs at)))
    (filter_map h (drop (at + 1) refs))) ∙ ap (map f) (rest_more h refs at less))
    ∙ before

pub numbers_all : {A B : Type 0} (h : A → Option B) (f : B → Option ℕ) (refs : List A) (at : ℕ) (old so_far : List ℕ)
    → map Some so_far ++ map f (filter_map h (drop at refs)) ≡ map Some old ++ map f (filter_map h refs)
    → length refs ≤ at → map Some so_far ≡ map Some old ++ map f (filter_map h refs)
numbers_all h f refs at old so_far before past = grind (arith, append-nil, map, Some, none_left)

pub none_listed : (names : List ClassName) (numbers : List ℕ)
    → map Some numbers ≡ map Some numbers ++ map (class_number names) []
none_listed names numbers = sym (append-nil (map Some numbers))

-- ---- rows as they begin

pub listed_within : (rows : List (List ℕ)) (k m : ℕ) → is_listed rows k m ≡ true → k < length rows
listed_within [] k m e = true_false (sym e ∙ empty_row m)
listed_within (r ∷ rows) zero m e = omega arith
listed_within (r ∷ rows) (suc k) m e = let l = listed_within rows k m e in omega (arith, l)

either_way : (a b : Bool) → (a || b) ≡ true → (a ≡ true) ⊎ (b ≡ true)
either_way a b h1 = grind arith

pub objects_none : (names : List ClassName) → HasObjects names 0 []
objects_none names = grind (arith, empty_row)

pub objects_more : (names : List ClassName) (at : ℕ) (name : ClassName) (old new : List ℕ) → HasObjects names at old
    → slice_get names at ≡ Some name
    → ((m : ℕ) → has_bit new m ≡ (has_bit old m || (is_same_name (Api Object) name && m == at)))
    → HasObjects names (at + 1) new
objects_more names at name old new so_far here bits = record {
  before = λ m d less there. by_order m d less there (cases_lt m at);
  behind = λ m past. bits m
      ∙ ap (λ b. b || (is_same_name (Api Object) name && m == at)) (so_far.behind m (omega (arith, past)))
      ∙ ap (λ b. is_same_name (Api Object) name && b) (ne_eqb m at (λ e. omega (arith, e, past)))
      ∙ none_of (is_same_name (Api Object) name);
}
  where
    none_of : (b : Bool) → (b && false) ≡ false
    none_of b = grind arith

    all_of : (b : Bool) → (b && true) ≡ b
    all_of b = grind arith

    or_none : (b : Bool) → (b || false) ≡ b
    or_none b = grind arith

    by_order : (m : ℕ) (d : ClassName) → m < at + 1 → slice_get names m ≡ Some d → (m < at) ⊎ (at ≤ m)
        → has_bit new m ≡ is_same_name (Api Object) d
    by_order m d h1 h2 h3 = grind (arith, ne_eqb, none_of, or_none, same_Some, slice_get, eq-eqb, all_of)

pub begun_first : (names : List ClassName) (first : ℕ) (objects : List ℕ) (rows : List (List ℕ))
    → first + length rows ≡ length names → HasObjects names (length names) objects
    → ((k m : ℕ) → k < length rows → is_listed rows k m ≡ has_bit objects m) → AreBegun names first first rows
begun_first names first objects rows count objects_are rows_are = record {
  count = count;
  object = λ k m d less at is. rows_are k m less ∙ object_is m d at ∙ is;
  own = λ k m d less at number. let l = number_first names d (first + k) m at number in absurd (omega (arith, l, less));
  only = λ k m d listed at.
      inl (sym (object_is m d at) ∙ sym (rows_are k m (listed_within rows k m listed)) ∙ listed);
  within = λ k m listed. by_order k m listed (cases_lt m (length names));
}
  where
    object_is : (m : ℕ) (d : ClassName) → slice_get names m ≡ Some d → has_bit objects m ≡ is_same_name (Api Object) d
    object_is m d at = objects_are.before m d (slice_get_within names m d at) at

    by_order : (k m : ℕ) → is_listed rows k m ≡ true → (m < length names) ⊎ (length names ≤ m) → m < length names
    by_order k m h1 h2 = grind (arith, true_false, listed_within)

module _ (names : List ClassName) (first at number : ℕ) (name : ClassName) (old new : List (List ℕ))
    (begun : AreBegun names first at old) (here : slice_get names at ≡ Some name)
    (is : class_number names name ≡ Some number) (put : IsPut first number at old new) where
  put_kept : (k m : ℕ) → k < length old → is_listed old k m ≡ true → is_listed new k m ≡ true
  put_kept k m less e = put.bits k m less ∙ ap (λ b. b || (first + k == number && m == at)) e

  number_within : (k : ℕ) (d : ClassName) → class_number names d ≡ Some (first + k) → k < length old
  number_within k d e = grind (arith, slice_get_within, first, named)

  own_more : (k m : ℕ) (d : ClassName) → m < at + 1 → slice_get names m ≡ Some d
      → class_number names d ≡ Some (first + k) → is_listed new k m ≡ true
  own_more k m d less there e = by_order (cases_lt m at)
    where
      by_order : (m < at) ⊎ (at ≤ m) → is_listed new k m ≡ true
      by_order (inl before) = put_kept k m (number_within k d e) (begun.own k m d before there e)
      by_order (inr behind) =
          let same : m ≡ at = omega (arith, behind, less) in
          let one : d ≡ name = same_Some d name (sym there ∙ ap (slice_get names) same ∙ here) in
          let place : first + k ≡ number = same_Some (first + k) number (sym e ∙ ap (class_number names) one ∙ is) in
          put.bits k m (number_within k d e)
          ∙ ap (λ b. is_listed old k m || (b && m == at)) (eq-eqb (first + k) number place)
          ∙ ap (λ b. is_listed old k m || b) (eq-eqb m at same)
          ∙ or_true (is_listed old k m)
        where
          or_true : (a : Bool) → (a || true) ≡ true
          or_true a = grind arith

  only_more : (k m : ℕ) (d : ClassName) → is_listed new k m ≡ true → slice_get names m ≡ Some d
      → (is_same_name (Api Object) d ≡ true) ⊎ (class_number names d ≡ Some (first + k))
  only_more k m d e there =
      by_bit (either_way (is_listed old k m) (first + k == number && m == at) (sym (put.bits k m within) ∙ e))
    where
      within : k < length old
      within = let l = listed_within new k m e in let n = put.count in omega (arith, l, n)

      by_bit : (is_listed old k m ≡ true) ⊎ ((first + k == number && m == at) ≡ true)
          → (is_same_name (Api Object) d ≡ true) ⊎ (class_number names d ≡ Some (first + k))
      by_bit h1 = grind (arith, eqb-true, first, left_true, right_true, same_Some, slice_get, Some)

  within_more : AreWithin (length names) new
  within_more k m e =
      by_bit (either_way (is_listed old k m) (first + k == number && m == at) (sym (put.bits k m within) ∙ e))
    where
      within : k < length old
      within = let l = listed_within new k m e in let n = put.count in omega (arith, l, n)

      by_bit : (is_listed old k m ≡ true) ⊎ ((first + k == number && m == at) ≡ true) → m < length names
      by_bit h1 = grind (arith, within, eqb-true, right_true, first, slice_get_within)

  pub begun_more : AreBegun names first (at + 1) new
  begun_more = record {
    count = let n = begun.count in let m = put.count in omega (arith, n, m);
    object = λ k m d less there e.
        let m' = put.count in
        let l : k < length old = omega (arith, less, m') in
        put_kept k m l (begun.object k m d l there e);
    own = own_more;
    only = only_more;
    within = within_more;
  }

-- ---- rows of all

listed_before : (made rows : List (List ℕ)) (n m : ℕ) → n < length made
    → is_listed (made ++ rows) n m ≡ is_listed made n m
listed_before [] rows n m less = absurd (omega (arith, less))
listed_before (r ∷ made) rows zero m less = refl
listed_before (r ∷ made) rows (suc n) m less = listed_before made rows n m (omega (arith, less))

listed_behind : (made rows : List (List ℕ)) (n k m : ℕ) → n ≡ length made + k
    → is_listed (made ++ rows) n m ≡ is_listed rows k m
listed_behind [] rows n k m is = ap (λ i. is_listed rows i m) (omega (arith, is))
listed_behind (r ∷ made) rows zero k m is = absurd (omega (arith, is))
listed_behind (r ∷ made) rows (suc n) k m is = listed_behind made rows n k m (omega (arith, is))

same_answer : (a b : Bool) → (a ≡ true → b ≡ true) → (b ≡ true → a ≡ true) → a ≡ b
same_answer a b h1 h2 = grind arith

among_behind : (c : ClassName) (xs ys : List ClassName) → IsAmong c ys → IsAmong c (xs ++ ys)
among_behind c [] ys m = m
among_behind c (x ∷ xs) ys m = inr (among_behind c xs ys m)

among_either : (c : ClassName) (o : Option ClassName) (ys : List ClassName) → IsAmong c (option_to_list o ++ ys)
    → (o ≡ Some c) ⊎ IsAmong c ys
among_either c o ys h1 = grind (arith, None, Some)

among_first : (c : ClassName) (o : Option ClassName) (ys : List ClassName) → o ≡ Some c
    → IsAmong c (option_to_list o ++ ys)
among_first c o ys h1 = grind (arith, None, Some, same_Some)

-- rows that have no number from one on, before and behind what is put into them
pub all_within : (Above : ℕ → ℕ → Type 0) (count : ℕ) (made begun rows : List (List ℕ)) → AreWithin count made
    → AreWithin count begun → AreSettled Above (made ++ begun) (made ++ rows) → AreWithin count (made ++ rows)
all_within Above count made begun rows made_fit begun_fit settled k m listed =
    ltb-true m count (settled.risen.sound (λ n i. nat_lt i count) (λ n a i above fit. fit) fit_before k m listed)
  where
    by_order : (n i : ℕ) → is_listed (made ++ begun) n i ≡ true → (n < length made) ⊎ (length made ≤ n) → i < count
    by_order n i e (inl less) = made_fit n i (sym (listed_before made begun n i less) ∙ e)
    by_order n i e (inr past) =
        begun_fit (n - length made) i (sym (listed_behind made begun n (n - length made) i (omega (arith, past))) ∙ e)

    fit_before : (n i : ℕ) → is_listed (made ++ begun) n i ≡ true → nat_lt i count ≡ true
    fit_before n i e = lt-ltb i count (by_order n i e (cases_lt n (length made)))

module _ (world : List Shape) (names : List ClassName)
    (found : (c d : ClassName) → is_subtype world c d ≡ true → IsSubtype world c d)
    (all : (c d : ClassName) → IsSubtype world c d → is_subtype world c d ≡ true)
    (made begun lists rows : List (List ℕ)) (right : AreRight world names made)
    (begins : AreBegun names (length made) (length names) begun)
    (above : AreAbove world names (length made) lists) (as_many : length lists ≡ length begun)
    (settled : AreSettled (IsRightAbove (length made) (length lists) lists) (made ++ begun) (made ++ rows)) where
  abbrev first : ℕ
  first = length made

  -- ---- what is listed is above

  abbrev fits : ℕ → ℕ → Bool
  fits n m =
      option_map_or (λ c. option_map_or (λ d. is_subtype world c d) (slice_get names m) true) (slice_get names n) true

  fits_from : (n m : ℕ) → ((c d : ClassName) → slice_get names n ≡ Some c → slice_get names m ≡ Some d
      → is_subtype world c d ≡ true) → fits n m ≡ true
  fits_from n m each = by_class (slice_get names n) refl
    where
      by_other : (c : ClassName) → slice_get names n ≡ Some c → (o : Option ClassName) → slice_get names m ≡ o
          → option_map_or (λ d. is_subtype world c d) o true ≡ true
      by_other c h1 o h2 = grind (arith, None, Some)

      by_class : (o : Option ClassName) → slice_get names n ≡ o
          → option_map_or (λ c. option_map_or (λ d. is_subtype world c d) (slice_get names m) true) o true ≡ true
      by_class o h1 = grind (arith, None, Some, by_other, slice_get)

  fits_at : (n m : ℕ) (c d : ClassName) → slice_get names n ≡ Some c → slice_get names m ≡ Some d
      → fits n m ≡ is_subtype world c d
  fits_at n m c d here there = grind (arith, slice_get)

  -- what stands right above a class
  up_one : (c e d : ClassName) → IsAmong e (itself_and_above world c) → IsSubtype world e d → IsSubtype world c d
  up_one c e d (inl same_one) below = subst (λ k. IsSubtype world k d) (sym same_one) below
  up_one c e d (inr among) below = by_part (among_either e (superclass_of world c) (interfaces_of world c) among)
    where
      by_part : (superclass_of world c ≡ Some e) ⊎ IsAmong e (interfaces_of world c) → IsSubtype world c d
      by_part (inl is) = by_superclass c e d is below
      by_part (inr m) = by_interface c e d m below

  numbers_at : (n k : ℕ) (c : ClassName) → k < length lists → n ≡ first + k → slice_get names n ≡ Some c
      → AreNumbersOf names (itself_and_above world c) (unwrap_or (slice_get lists k) [])
  numbers_at n k c less is here = above.there k c less (ap (slice_get names) (sym is) ∙ here)

  step_fits : (n a m : ℕ) → IsRightAbove first (length lists) lists n a → fits a m ≡ true → fits n m ≡ true
  step_fits n a m r fit = fits_from n m (λ c d here there.
      let e = number_is names (itself_and_above world c) (unwrap_or (slice_get lists r.0) []) a
      (numbers_at n r.0 c r.1 r.2 here) r.3 in
      all c d (up_one c e.0 d e.1 (found e.0 d
      (sym (fits_at a m e.0 d (named names e.0 a e.2) there) ∙ fit))))

  begun_fits : (n m : ℕ) → is_listed (made ++ begun) n m ≡ true → fits n m ≡ true
  begun_fits n m listed = fits_from n m (λ c d here there. by_order c d here there (cases_lt n first))
    where
      by_reason : (c d : ClassName) → slice_get names n ≡ Some c
          → (is_same_name (Api Object) d ≡ true) ⊎ (class_number names d ≡ Some n) → IsSubtype world c d
      by_reason c d here (inl is) = subst (IsSubtype world c) (same_name (Api Object) d is) (object c)
      by_reason c d here (inr is) =
          let one : c ≡ d = same_Some c d (sym here ∙ named names d n is) in subst (IsSubtype world c) one (same c)

      by_order : (c d : ClassName) → slice_get names n ≡ Some c → slice_get names m ≡ Some d
          → (n < first) ⊎ (first ≤ n) → is_subtype world c d ≡ true
      by_order c d here there (inl before) =
          sym (right n m c d before here there) ∙ sym (listed_before made begun n m before) ∙ listed
      by_order c d here there (inr behind) =
          let k = n - first in
          let is : n ≡ first + k = omega (arith, behind) in
          all c d (by_reason c d here (subst
          (λ i. (is_same_name (Api Object) d ≡ true) ⊎ (class_number names d ≡ Some i)) (sym is)
          (begins.only k m d (sym (listed_behind made begun n k m is) ∙ listed) there)))

  sound : (n m : ℕ) (c d : ClassName) → slice_get names n ≡ Some c → slice_get names m ≡ Some d
      → is_listed (made ++ rows) n m ≡ true → is_subtype world c d ≡ true
  sound n m c d here there listed =
      sym (fits_at n m c d here there) ∙ settled.risen.sound fits step_fits begun_fits n m listed

  -- ---- and what is above is listed

  made_listed : (n m : ℕ) (c d : ClassName) → n < first → slice_get names n ≡ Some c → slice_get names m ≡ Some d
      → IsSubtype world c d → is_listed (made ++ rows) n m ≡ true
  made_listed n m c d before here there below = grind (arith, listed_before)

  -- a class of those that are made, with its place among them
  within : (n : ℕ) (c : ClassName) → first ≤ n → slice_get names n ≡ Some c
      → (k : ℕ) × (n ≡ first + k) × (k < length lists)
  within n c behind here =
      let l = slice_get_within names n c here in
      let count = begins.count in
      (n - first, omega (arith, behind), omega (arith, behind, l, count, as_many))

  from_begun : (n k m : ℕ) → n ≡ first + k → is_listed begun k m ≡ true → is_listed (made ++ rows) n m ≡ true
  from_begun n k m is listed = settled.risen.kept n m (listed_behind made begun n k m is ∙ listed)

  -- the row of the first class of a name
  first_of_name : (a m : ℕ) (c : ClassName) → class_number names c ≡ Some a → slice_get names m ≡ Some c
      → is_listed (made ++ rows) a m ≡ true
  first_of_name a m c number there = by_order (cases_lt a first)
    where
      by_order : (a < first) ⊎ (first ≤ a) → is_listed (made ++ rows) a m ≡ true
      by_order (inl before) = made_listed a m c c before (named names c a number) there (same c)
      by_order (inr behind) =
          let w = within a c behind (named names c a number) in
          from_begun a w.0 m w.1 (begins.own w.0 m c (slice_get_within names m c there) there
          (number ∙ ap Some w.1))

  -- what the rows right above a class have, its own has
  from_above : (n m : ℕ) (c e : ClassName) → first ≤ n → slice_get names n ≡ Some c
      → IsAmong e (itself_and_above world c)
      → ((a : ℕ) → class_number names e ≡ Some a → is_listed (made ++ rows) a m ≡ true)
      → is_listed (made ++ rows) n m ≡ true
  from_above n m c e behind here among has =
      let w = within n c behind here in
      let a = number_of names (itself_and_above world c) (unwrap_or (slice_get lists w.0) []) e
      (numbers_at n w.0 c w.2 w.1 here) among in
      settled.closed n a.0 m (w.0, w.2, w.1, a.2) (has a.0 a.1)

  complete : (c d : ClassName) → IsSubtype world c d → (n m : ℕ) → slice_get names n ≡ Some c
      → slice_get names m ≡ Some d → is_listed (made ++ rows) n m ≡ true
  complete c d (same e) n m here there = by_order (cases_lt n first)
    where
      by_order : (n < first) ⊎ (first ≤ n) → is_listed (made ++ rows) n m ≡ true
      by_order (inl before) = made_listed n m e e before here there (same e)
      by_order (inr behind) = from_above n m e e behind here (inl refl) (λ a number. first_of_name a m e number there)
  complete c d (object e) n m here there = by_order (cases_lt n first)
    where
      by_order : (n < first) ⊎ (first ≤ n) → is_listed (made ++ rows) n m ≡ true
      by_order (inl before) = made_listed n m e (Api Object) before here there (object e)
      by_order (inr behind) =
          let w = within n e behind here in
          from_begun n w.0 m w.1 (begins.object w.0 m (Api Object) (let l = w.2 in omega (arith, l, as_many)) there
          (name_itself (Api Object)))
  complete c d (by_superclass b s e is below) n m here there = by_order (complete s e below) (cases_lt n first)
    where
      by_order : ((a k : ℕ) → slice_get names a ≡ Some s → slice_get names k ≡ Some e
          → is_listed (made ++ rows) a k ≡ true) → (n < first) ⊎ (first ≤ n) → is_listed (made ++ rows) n m ≡ true
      by_order rest (inl before) = made_listed n m b e before here there (by_superclass b s e is below)
      by_order rest (inr behind) =
          from_above n m b s behind here (inr (among_first s (superclass_of world b) (interfaces_of world b) is))
          (λ a number. rest a m (named names s a number) there)
  complete c d (by_interface b i e lists_it below) n m here there = by_order (complete i e below) (cases_lt n first)
    where
      by_order : ((a k : ℕ) → slice_get names a ≡ Some i → slice_get names k ≡ Some e
          → is_listed (made ++ rows) a k ≡ true) → (n < first) ⊎ (first ≤ n) → is_listed (made ++ rows) n m ≡ true
      by_order rest (inl before) = made_listed n m b e before here there (by_interface b i e lists_it below)
      by_order rest (inr behind) =
          from_above n m b i behind here
          (inr (among_behind i (option_to_list (superclass_of world b)) (interfaces_of world b) lists_it))
          (λ a number. rest a m (named names i a number) there)

  pub are_supertypes : AreSupertypes world names (made ++ rows)
  are_supertypes n m c d here there = grind (arith, same_answer, sound, complete)

-- ---- lists of what stands above, one more

pub above_more : (world : List Shape) (names : List ClassName) (first at : ℕ) (c : ClassName) (lists : List (List ℕ))
    (list : List ℕ) → AreAbove world names first lists → first + length lists ≡ at → slice_get names at ≡ Some c
    → AreNumbersOf names (itself_and_above world c) list → AreAbove world names first (lists ++ list ∷ [])
above_more world names first at c lists list so_far count here fits = record {
  there = λ k d less is. by_order k d less is (cases_lt k (length lists));
}
  where
    by_order : (k : ℕ) (d : ClassName) → k < length (lists ++ list ∷ []) → slice_get names (first + k) ≡ Some d
        → (k < length lists) ⊎ (length lists ≤ k)
        → AreNumbersOf names (itself_and_above world d) (unwrap_or (slice_get (lists ++ list ∷ []) k) [])
    by_order k d less is (inl before) =
        subst (λ o. AreNumbersOf names (itself_and_above world d) (unwrap_or o []))
        (sym (get_before lists list k before))
        (so_far.there k d before is)
    by_order k d less is (inr behind) =
        let a = length-append lists (list ∷ []) in
        let same : k ≡ length lists = omega (arith, behind, less, a) in
        let place : first + k ≡ at = omega (arith, same, count) in
        let one : c ≡ d = same_Some c d (sym here ∙ ap (slice_get names) (sym place) ∙ is) in
        subst (λ o. AreNumbersOf names (itself_and_above world d) (unwrap_or o []))
        (sym (ap (slice_get (lists ++ list ∷ [])) same ∙ get_last lists list))
        (subst (λ e. AreNumbersOf names (itself_and_above world e) list) one fits)
