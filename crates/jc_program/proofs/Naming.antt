-- Names of classes by number, and numbers by name.
use Rattle.std.proofs.Common.{◌*◌, ◌-◌, length-append, ◌≡◌, ◌≢◌, ◌⊎◌, ℕ, zero, suc, ◌+◌, ◌<◌, ◌≤◌, ◌==◌}
use Rattle.std.proofs.Common.{Bool, true, false, cond, List, [], ◌∷◌, ◌++◌, length, drop, Option, Some, None}
use Rattle.std.proofs.Common.{slice_get, get_or, nat_lt, refl, sym, ap, ◌∙◌, arith}
use Rattle.std.proofs.Math.Path.{fun_ext}
use Rattle.std.proofs.lemmas.Bool.{ltb-true, ne_eqb}
use Rattle.std.proofs.lemmas.Bool.Decides.{eqb_tells}
use Rattle.std.proofs.lemmas.List.{append-nil, append_assoc}
use Rattle.std.proofs.lemmas.Option.{same_Some}
use Rattle.std.specs.List.{cons_option, filter_map, position, position_or_len}
use Rattle.std.specs.Option.{option_map_or, option_to_list}
use Rattle.jc_cap_desc.specs.Shape.{Shape}
use Rattle.jc_names.specs.Names.{is_same_name, offset_of}
use Rattle.jc_names.specs.declared.name.ClassName.{ClassName}
use Rattle.jc_classes.specs.Limits.{IsSmall}
use Rattle.jc_classes.specs.Members.{name_of}
use Rattle.jc_program.specs.Classes.{class_names, class_number, names_from, names_in}
use Rattle.jc_program.specs.PrivateClasses.{AreNamesBefore, AreNumbered, is_placed, table_of}
use Rattle.jc_program.specs.PrivateLaid.{number_in}
use Rattle.jc_program.proofs.Counting.{keeps_numbers}

-- ---- names of one package

pub first_option : {B : Type 0} (o : Option B) (rest : List B) → option_to_list o ++ rest ≡ cons_option o rest
first_option o rest = grind (arith, None, Some)

-- one class more of those whose names are put behind others
named_more : {A B : Type 0} (h : A → Option B) (xs : List A) (so_far total : List B) (i : ℕ) (x : A)
    → so_far ++ filter_map h (drop i xs) ≡ total → i < length xs → x ≡ get_or xs i x
    → (so_far ++ option_to_list (h x)) ++ filter_map h (drop (suc i) xs) ≡ total
named_more h [] so_far total i x all less at = absurd (omega (arith, less))
named_more h (y ∷ xs) so_far total zero x all less at =
    let is : x ≡ y = at in
    append_assoc so_far (option_to_list (h x)) (filter_map h xs)
    ∙ ap (λ k. so_far ++ (option_to_list (h k) ++ filter_map h xs)) is
    ∙ ap (λ l. so_far ++ l) (first_option (h y) (filter_map h xs)) ∙ all
named_more h (y ∷ xs) so_far total (suc i) x all less at =
    named_more h xs so_far total i x all (omega (arith, less)) at

pub one_more : {A B : Type 0} (h : A → Option B) (xs : List A) (so_far total : List B) (i : ℕ) (x : A)
    → so_far ++ filter_map h (drop i xs) ≡ total → i < length xs → x ≡ get_or xs i x
    → (so_far ++ option_to_list (h x)) ++ filter_map h (drop (i + 1) xs) ≡ total
one_more h xs so_far total i x all less at = grind (arith, drop, named_more)

pub all_named : {A B : Type 0} (h : A → Option B) (xs : List A) (so_far total : List B) (i : ℕ)
    → so_far ++ filter_map h (drop i xs) ≡ total → length xs ≤ i → so_far ≡ total
all_named h [] so_far total zero all less = sym (append-nil so_far) ∙ all
all_named h [] so_far total (suc i) all less = sym (append-nil so_far) ∙ all
all_named h (x ∷ xs) so_far total zero all less = absurd (omega (arith, less))
all_named h (x ∷ xs) so_far total (suc i) all less = all_named h xs so_far total i all (omega (arith, less))

-- ---- those of all

one_package : (shapes : List Shape) (so_far total : List ClassName) (i place : ℕ)
    → so_far ++ names_from place (drop i shapes) ≡ total → i < length shapes
    → (so_far ++ option_map_or (names_in place) (slice_get shapes i) []) ++ names_from (suc place)
    (drop (suc i) shapes) ≡ total
one_package [] so_far total i place all less = absurd (omega (arith, less))
one_package (s ∷ shapes) so_far total zero place all less =
    append_assoc so_far (names_in place s) (names_from (suc place) shapes) ∙ all
one_package (s ∷ shapes) so_far total (suc i) place all less =
    one_package shapes so_far total i place all (omega (arith, less))

pub package_more : (shapes : List Shape) (so_far total : List ClassName) (home : ℕ)
    → so_far ++ names_from home (drop home shapes) ≡ total → home < length shapes
    → (so_far ++ option_map_or (names_in home) (slice_get shapes home) []) ++ names_from (home + 1)
    (drop (home + 1) shapes) ≡ total
package_more shapes so_far total home all less = grind (arith, slice_get, drop, one_package)

last_there : {A : Type 0} (xs : List A) (x : A) → slice_get (xs ++ x ∷ []) (length xs) ≡ Some x
last_there [] x = refl
last_there (y ∷ xs) x = last_there xs x

-- those of the last package stand behind the others
last_names : (world : List Shape) (names : List ClassName) → AreNamesBefore world names
    → class_names world ≡ names ++ option_map_or (names_in (length world - 1)) (slice_get world (length world - 1)) []
last_names world names are =
    let before = are.before in let more = are.more in
    let n = length-append before (more ∷ []) in let same = ap (λ shapes. length shapes) are.world_is in
    let home : length before ≡ length world - 1 = omega (arith, n, same) in
    ap class_names are.world_is ∙ (keeps_numbers before more).names
    ∙ ap (λ ns. ns ++ names_in (length before) more) (sym are.names_are)
    ∙ ap (λ (o : Option Shape). names ++ option_map_or (names_in (length before)) o [])
    (sym (last_there before more))
    ∙ ap (λ shapes. names ++ option_map_or (names_in (length before)) (slice_get shapes (length before)) [])
    (sym are.world_is)
    ∙ ap (λ h. names ++ option_map_or (names_in h) (slice_get world h) []) home

pub grown_names : (world : List Shape) (names more : List ClassName) (home : ℕ) → AreNamesBefore world names
    → home ≡ length world - 1 → more ≡ option_map_or (names_in home) (slice_get world home) []
    → names ++ more ≡ class_names world
grown_names world names more home are last is = grind (arith, slice_get, last_names)

-- ---- how many there are

fewer : {A B : Type 0} (h : A → Option B) (xs : List A) → length (filter_map h xs) ≤ length xs
fewer h [] = omega arith
fewer h (x ∷ xs) = by_first (h x) (fewer h xs)
  where
    by_first : (o : Option _) → length (filter_map h xs) ≤ length xs
        → length (cons_option o (filter_map h xs)) ≤ suc (length xs)
    by_first o h1 = grind (arith, None, Some)

names_few : (shapes : List Shape) (home : ℕ)
    → ((i : ℕ) (shape : Shape) → slice_get shapes i ≡ Some shape → length shape.classes ≤ 255)
    → length (names_from home shapes) ≤ 255 * length shapes
names_few [] home few = omega arith
names_few (s ∷ shapes) home few =
    let a = length-append (names_in home s) (names_from (suc home) shapes) in
    let b = fewer (name_of home) s.classes in let c = few zero s refl in
    let d = names_few shapes (suc home) (λ i. few (suc i)) in
    omega (arith, a, b, c, d)

pub few_names : (world : List Shape) (names : List ClassName) → names ≡ class_names world → IsSmall world
    → length names < 0x10000
few_names world names are small = grind (arith, names_few, length)

-- ---- numbers

next_same : (a b : ℕ) → (suc a == suc b) ≡ (a == b)
next_same a b = by_tests (eqb_tells (suc a) (suc b)) (eqb_tells a b)
  where
    by_tests : ((suc a == suc b ≡ true) × (suc a ≡ suc b)) ⊎ ((suc a == suc b ≡ false) × (suc a ≢ suc b))
        → ((a == b ≡ true) × (a ≡ b)) ⊎ ((a == b ≡ false) × (a ≢ b)) → (suc a == suc b) ≡ (a == b)
    by_tests h1 h2 = grind arith

-- classes that stand at one place have one name
placed_same : (c d : ClassName) → is_placed (table_of c) (offset_of c) d ≡ is_same_name d c
placed_same c d = grind (arith, ne_eqb, next_same)

pub number_is : (tables : List (List (Option ℕ))) (names : List ClassName) (c : ClassName) → AreNumbered tables names
    → number_in tables (table_of c) (offset_of c) ≡ class_number names c
number_is tables names c are = grind (arith, fun_ext, placed_same)

pub position_below : {A : Type 0} (p : A → Bool) (xs : List A) (n : ℕ) → position p xs ≡ Some n → n < length xs
position_below p xs n e =
    by_place (nat_lt (position_or_len p xs) (length xs)) (ltb-true (position_or_len p xs) (length xs)) e
  where
    by_place : (b : Bool) → (b ≡ true → position_or_len p xs < length xs)
        → cond b (Some (position_or_len p xs)) None ≡ Some n → n < length xs
    by_place b h1 h2 = grind (arith, same_Some)

pub number_below : (tables : List (List (Option ℕ))) (names : List ClassName) (c : ClassName) (n : ℕ)
    → AreNumbered tables names → number_in tables (table_of c) (offset_of c) ≡ Some n → n < 0x10000
number_below tables names c n are e = grind (arith, position_below, number_is)
