-- Tables that are made until each class has one whose superclass chain comes to its end.
use Rattle.std.proofs.Common.{◌≡◌, ◌⊎◌, inl, inr, ℕ, zero, suc, ◌+◌, ◌*◌, ◌<◌, ◌≤◌, ◌&&◌, ◌||◌, Bool, true, false, List, [], ◌∷◌, ◌++◌, length, set, Option, Some, None, IfSome, IfNone, Result, IfOk, refl, sym, ap, subst, ◌∙◌, arith, is_some, slice_get, unwrap_or, length-append}
use Rattle.std.proofs.lemmas.Bool.{cases_lt, eq-eqb, lt-ltb, le-ltb}
use Rattle.std.proofs.lemmas.List.{length-set}
use Rattle.std.proofs.lemmas.Option.{slice_get_past, slice_get-get_or}
use Rattle.std.specs.Option.{option_map, option_and_then, option_map_or}
use Rattle.jc_base.proofs.Binding.{the_some, none_some, both_true}
use Rattle.jc_cap_desc.specs.Shape.{ClassShape, Shape}
use Rattle.jc_classes.proofs.Below.{position_if_found, class_of_place, numbered_again, api_low, super_there}
use Rattle.jc_classes.proofs.Growing.{name_home}
use Rattle.jc_classes.proofs.Standing.{true_false, either_false, some_of, position_is, package_there, stands_there}
use Rattle.jc_classes.proofs.Tabling.{index_within, placed_index, one_class}
use Rattle.jc_classes.proofs.Walking.{most_is}
use Rattle.jc_classes.specs.Limits.{IsSmall}
use Rattle.jc_classes.specs.PrivatePlaces.{place_at}
use Rattle.jc_classes.specs.PrivateSearch.{class_placed}
use Rattle.jc_classes.specs.PrivateTables.{Tabled, IsTabled, IsTabledAbove, depth_above, index_at, table_in, table_of, AreTables, AreBefore, rows_so_far, table_so_far, AreInMaking, LacksTableAbove, IsSettled, empty_places, IsFurther, AreSettled, name_placed}
use Rattle.jc_classes.specs.Subtype.{comes_to_end, has_whole_chain}
use Rattle.jc_classes.specs.Walk.{most_classes}
use Rattle.jc_names.specs.Names.{home_of, offset_of, name_in}
use Rattle.jc_classes.specs.World.{package_at, class_at, superclass_of}
use Rattle.jc_names.specs.declared.name.ClassName.{ClassName}

-- ---- options

pub none_is_none : {A B : Type 0} (f : A → B) (o : Option A) (x : Option B) → is_some o ≡ false → option_map f o ≡ x → x ≡ None
none_is_none f o x h1 h2 = grind (arith, true_false)

pub map_ok : {A E : Type 0} (P Q : A → Type 0) (r : Result A E) → ((a : A) → P a → Q a) → IfOk r P → IfOk r Q
map_ok P Q r h1 h2 = grind arith

pub if_some : {A B : Type 0} (f : A → B) (P : B → Type 0) (o : Option A) (x : Option B) → option_map f o ≡ x → ((b : B) → x ≡ Some b → P b) → IfSome o (λ a. P (f a))
if_some f P o x h1 h2 = grind arith

pub if_none : {A B : Type 0} (f : A → B) (P : Type 0) (o : Option A) (x : Option B) → option_map f o ≡ x → (x ≡ None → P) → IfNone o P
if_none f P o x h1 h2 = grind arith

-- ---- classes that are there

some_there : {A : Type 0} (o : Option A) → is_some o ≡ true → (a : A) × (o ≡ Some a)
some_there o h1 = grind (arith, true_false)

pub whole_there : (world : List Shape) (c : ClassName) → has_whole_chain world c ≡ true → (k : ClassShape) × (class_at world c ≡ Some k)
whole_there world c e = some_there (class_at world c) (both_true (is_some (class_at world c)) (comes_to_end world most_classes c) e).0

whole_ends : (world : List Shape) (c : ClassName) → has_whole_chain world c ≡ true → comes_to_end world most_classes c ≡ true
whole_ends world c e = (both_true (is_some (class_at world c)) (comes_to_end world most_classes c) e).1

pub there_index : (world : List Shape) (c : ClassName) (k : ClassShape) → class_at world c ≡ Some k
    → (i : ℕ) × (index_at world c ≡ Some i)
there_index world c k e = grind (arith, some_of, position_if_found)

pub no_index : (world : List Shape) (c : ClassName) → index_at world c ≡ None → has_whole_chain world c ≡ true → ⊥
no_index world c none whole = grind (arith, whole, whole_there, there_index, none_some)

-- which class of its package, and its name
pub record IsIndex (world : List Shape) (c : ClassName) (i : ℕ) : Type 0 where
  pub shape : Shape
  pub home : package_at world c ≡ Some shape
  pub there : slice_get world (home_of c) ≡ Some shape
  pub within : i < length shape.classes

pub is_index : (world : List Shape) (c : ClassName) (i : ℕ) → index_at world c ≡ Some i → IsIndex world c i
is_index world c i e = grind (arith, some_of, package_there, position_is)

-- how many classes the last package has
abbrev pub count_in : List Shape → ℕ → ℕ
count_in world home = option_map_or (λ (s : Shape). length s.classes) (slice_get world home) 0

index_less : (world : List Shape) (c : ClassName) (i home : ℕ) → home_of c ≡ home → index_at world c ≡ Some i → i < count_in world home
index_less world c i home same e = grind (arith, is_index)

name_again : (world : List Shape) (c : ClassName) (s : Shape) → package_at world c ≡ Some s → name_in (home_of c) (offset_of c) ≡ Some c
name_again world c s h1 = grind (arith, lt-ltb, api_low, numbered_again, eq-eqb, none_some, le-ltb)

named_at : (world : List Shape) (c : ClassName) (i : ℕ) → IsSmall world → index_at world c ≡ Some i → name_placed world (home_of c) i ≡ Some c
named_at world c i small e =
    let p = is_index world c i e in
    let few = small.classes (home_of c) p.shape p.there in
    let place = placed_index world c i e in
    let k = class_of_place world c (256 * home_of c + i) small place in
    let at = stands_there world c (home_of c) i small (omega (arith, few, p.within)) place in
    grind (arith, name_again)

-- ---- tables so far

module _ (world : List Shape) (tables : List (List (Option Tabled))) where
  rows_before : (old new : List (Option Tabled)) (home : ℕ) → home < length tables → rows_so_far tables old home ≡ rows_so_far tables new home
  rows_before old new home less =
      let at = slice_get-get_or tables home old less in
      ap (λ (o : Option (List (Option Tabled))). unwrap_or o old) at ∙ sym (ap (λ (o : Option (List (Option Tabled))). unwrap_or o new) at)

  same_before : (old new : List (Option Tabled)) (c : ClassName) → home_of c < length tables → table_so_far world tables old c ≡ table_so_far world tables new c
  same_before old new c less = ap (λ (row : List (Option Tabled)). option_and_then (place_at row) (index_at world c)) (rows_before old new (home_of c) less)

  whole_before : (made : List (Option Tabled)) (c : ClassName) → home_of c < length tables → table_so_far world tables made c ≡ table_of world tables c
  whole_before made c less =
      let at = slice_get-get_or tables (home_of c) made less in
      grind arith

  of_last : (made : List (Option Tabled)) (c : ClassName) → length tables ≤ home_of c → table_so_far world tables made c ≡ option_and_then (place_at made) (index_at world c)
  of_last made c past = ap (λ (o : Option (List (Option Tabled))). option_and_then (place_at (unwrap_or o made)) (index_at world c)) (slice_get_past tables (home_of c) past)

  -- the last package without tables
  pub begun : (made : List (Option Tabled)) (count : ℕ) → IsSmall world → AreBefore world tables → count ≡ count_in world (length tables) → count < length made → ((i : ℕ) → place_at made i ≡ None) → AreInMaking world tables made
  begun made count small b all long none = record {
    small = small;
    count = b.count;
    right = λ c t e. by_home c t (cases_lt (home_of c) (length tables)) e;
    before = λ c less e. b.complete c less (sym (whole_before made c less) ∙ e);
    room = λ c i h e. let less = index_less world c i (length tables) h e in omega (arith, less, all, long);
  }
    where
      by_home : (c : ClassName) (t : Tabled) → (home_of c < length tables) ⊎ (length tables ≤ home_of c) → table_so_far world tables made c ≡ Some t → IsTabled world c t
      by_home c t (inl less) e = b.right c t (sym (whole_before made c less) ∙ e)
      by_home c t (inr past) e = grind (arith, some_of, of_last, none_some)

-- ---- a table that is put

place_set : (xs : List (Option Tabled)) (i j : ℕ) (t u : Tabled) → place_at (set xs i (Some t)) j ≡ Some u → (place_at xs j ≡ Some u) ⊎ ((j ≡ i) × (u ≡ t))
place_set [] i j t u e = inl e
place_set (x ∷ xs) zero zero t u e = inr (refl, sym (the_some t u e))
place_set (x ∷ xs) zero (suc j) t u e = inl e
place_set (x ∷ xs) (suc i) zero t u e = inl e
place_set (x ∷ xs) (suc i) (suc j) t u e = grind (arith, place_set xs i j t u e)

fewer_set : (xs : List (Option Tabled)) (i : ℕ) (t : Tabled) → i < length xs → place_at xs i ≡ None → empty_places (set xs i (Some t)) < empty_places xs
fewer_set [] i t less e = absurd (omega arith)
fewer_set (None ∷ xs) zero t less e = omega arith
fewer_set (Some u ∷ xs) zero t less e = absurd (none_some u (sym e))
fewer_set (None ∷ xs) (suc i) t less e = let k = fewer_set xs i t (omega arith) e in omega (arith, k)
fewer_set (Some u ∷ xs) (suc i) t less e = fewer_set xs i t (omega arith) e

pub put_further : (world : List Shape) (tables : List (List (Option Tabled))) (old : List (Option Tabled)) (c : ClassName) (index : ℕ) (table : Tabled) → AreInMaking world tables old → home_of c ≡ length tables
    → table_so_far world tables old c ≡ None → index_at world c ≡ Some index → IsTabled world c table → IsFurther world tables old (set old index (Some table)) true
put_further world tables old c index table m last none at right = record {
  making = record {
    small = m.small;
    count = m.count;
    right = λ d u e. by_home d u (cases_lt (home_of d) (length tables)) e;
    before = λ d less e. m.before d less (same_before world tables old new d less ∙ e);
    room = λ d i h e. let r = m.room d i h e in omega (arith, r, length-set old index (Some table));
  };
  same = λ e. absurd (true_false e);
  fewer = λ e. fewer_set old index table (m.room c index last at) empty;
}
  where
    new : List (Option Tabled)
    new = set old index (Some table)

    empty : place_at old index ≡ None
    empty = sym (ap (option_and_then (place_at old)) at) ∙ sym (of_last world tables old c (omega (arith, last))) ∙ none

    by_put : (d : ClassName) (u : Tabled) (j : ℕ) → length tables ≤ home_of d → index_at world d ≡ Some j → (place_at old j ≡ Some u) ⊎ ((j ≡ index) × (u ≡ table)) → IsTabled world d u
    by_put d u j past there (inl before) = m.right d u (of_last world tables old d past ∙ ap (option_and_then (place_at old)) there ∙ before)
    by_put d u j past there (inr now) =
        let w = index_within world d j there in
        let home : home_of d ≡ home_of c = omega (arith, w, past, last, m.count) in
        subst (λ x. IsTabled world x u) (one_class world c d index j m.small at there home now.0) (subst (IsTabled world c) (sym now.1) right)

    by_home : (d : ClassName) (u : Tabled) → (home_of d < length tables) ⊎ (length tables ≤ home_of d) → table_so_far world tables (set old index (Some table)) d ≡ Some u → IsTabled world d u
    by_home d u (inl less) e = m.right d u (same_before world tables old (set old index (Some table)) d less ∙ e)
    by_home d u (inr past) e =
        let i = some_of (place_at (set old index (Some table))) (index_at world d) u (sym (of_last world tables (set old index (Some table)) d past) ∙ e) in
        by_put d u i.0 past i.1 (place_set old index i.0 table u i.2)

-- ---- classes that are settled

-- a chain that comes to its end isn't too long for a table
pub not_too_deep : (world : List Shape) (c : ClassName) (above : Option Tabled) → IsTabledAbove world c above → 17_085 ≤ depth_above above → has_whole_chain world c ≡ true → ⊥
not_too_deep world c above up deep whole = let l = up.least most_classes (whole_ends world c whole) in omega (arith, l, deep, most_is)

pub one_settled : (world : List Shape) (tables : List (List (Option Tabled))) (made : List (Option Tabled)) (index : ℕ) (class : ClassName) → IsSmall world → name_placed world (length tables) index ≡ Some class → IsSettled world tables made class → AreSettled world tables made index (index + 1)
one_settled world tables made index class small name s c i home at from to none = grind (arith, named_at, the_some)

pub none_settled : (world : List Shape) (tables : List (List (Option Tabled))) (made : List (Option Tabled)) (index : ℕ) → IsSmall world → name_placed world (length tables) index ≡ None → AreSettled world tables made index (index + 1)
none_settled world tables made index small name c i home at from to none = grind (arith, none_some, named_at)

pub last_home : (world : List Shape) (home index : ℕ) (class : ClassName) → name_placed world home index ≡ Some class → home_of class ≡ home
last_home world home index class e =
    let a = some_of (λ (k : ClassShape). name_in home k.offset) (class_placed world home index) class e in
    name_home home (a.0).offset class a.2

pub both_further : (world : List Shape) (tables : List (List (Option Tabled))) (old mid new : List (Option Tabled)) (a b : Bool) → IsFurther world tables old mid a → IsFurther world tables mid new b → IsFurther world tables old new (a || b)
both_further world tables old mid new a b h1 h2 = grind (arith, new, true_false)

pub both_settled : (world : List Shape) (tables : List (List (Option Tabled))) (mid new : List (Option Tabled)) (a b : Bool) (n : ℕ) → (a ≡ false → AreSettled world tables mid 0 n) → IsFurther world tables mid new b → (b ≡ false → AreSettled world tables new n (n + 1))
    → a || b ≡ false → AreSettled world tables new 0 (n + 1)
both_settled world tables mid new a b n f g s e =
    let h = either_false a b e in
    let first = subst (λ xs. AreSettled world tables xs 0 n) (sym (g.same h.1)) (f h.0) in
    λ c i home at from to. by_order (cases_lt i n) c home at to first
  where
    by_order : {i : ℕ} → (i < n) ⊎ (n ≤ i) → (c : ClassName) → home_of c ≡ length tables → index_at world c ≡ Some i → i < n + 1 → AreSettled world tables new 0 n → IsSettled world tables new c
    by_order h1 c h2 h3 h4 h5 = grind (arith, either_false)

-- ---- all tables

ends_more : (world : List Shape) (n m : ℕ) (c : ClassName) → comes_to_end world n c ≡ true → n ≤ m → comes_to_end world m c ≡ true
ends_more world zero m c e h = absurd (true_false (sym e))
ends_more world (suc n) zero c e h = absurd (omega arith)
ends_more world (suc n) (suc m) c e h = above (superclass_of world c) e (λ d f. ends_more world n m d f (omega arith))
  where
    above : (o : Option ClassName) → option_map_or (comes_to_end world n) o true ≡ true → ((d : ClassName) → comes_to_end world n d ≡ true → comes_to_end world m d ≡ true) → option_map_or (comes_to_end world m) o true ≡ true
    above o h1 h2 = grind arith

rows_appended : (tables : List (List (Option Tabled))) (made : List (Option Tabled)) (home i : ℕ) → home ≤ length tables → table_in (tables ++ made ∷ []) home i ≡ place_at (rows_so_far tables made home) i
rows_appended [] made zero i h = refl
rows_appended [] made (suc home) i h = absurd (omega arith)
rows_appended (first ∷ tables) made zero i h = refl
rows_appended (first ∷ tables) made (suc home) i h = rows_appended tables made home i (omega arith)

module _ (world : List Shape) (tables : List (List (Option Tabled))) (made : List (Option Tabled)) (m : AreInMaking world tables made) where
  same_table : (c : ClassName) → table_of world (tables ++ made ∷ []) c ≡ table_so_far world tables made c
  same_table c = grind (arith, index_within, rows_appended)

  module _ (settled : AreSettled world tables made 0 (count_in world (length tables))) where
    -- a class without a table has one above it that has none, and so on; but the chain comes to its end
    no_gap : (n : ℕ) (c : ClassName) (k : ClassShape) → class_at world c ≡ Some k → comes_to_end world n c ≡ true → n ≤ most_classes → table_so_far world tables made c ≡ None → ⊥
    no_gap zero c k at ends few none = true_false (sym ends)
    no_gap (suc n) c k at ends few none = by_home (cases_lt (home_of c) (length tables)) (there_index world c k at) (λ d k there e. no_gap n d k there e (omega (arith, few)))
      where
        whole : has_whole_chain world c ≡ true
        whole = ap (λ (o : Option ClassShape). is_some o && comes_to_end world most_classes c) at ∙ ends_more world (suc n) most_classes c ends few

        by_above : ((d : ClassName) (k : ClassShape) → class_at world d ≡ Some k → comes_to_end world n d ≡ true → table_so_far world tables made d ≡ None → ⊥) → LacksTableAbove world tables made c → ⊥
        by_above rest a =
            let there = (super_there world c a.0 a.1).1 in
            rest a.0 there.0 there.1 (sym (ap (λ (o : Option ClassName). option_map_or (comes_to_end world n) o true) a.1) ∙ ends) a.2

        by_home : (home_of c < length tables) ⊎ (length tables ≤ home_of c) → (i : ℕ) × (index_at world c ≡ Some i)
            → ((d : ClassName) (k : ClassShape) → class_at world d ≡ Some k → comes_to_end world n d ≡ true → table_so_far world tables made d ≡ None → ⊥) → ⊥
        by_home (inl less) i rest = true_false (sym whole ∙ m.before c less none)
        by_home (inr past) i rest =
            let w = index_within world c i.0 i.1 in
            let home : home_of c ≡ length tables = omega (arith, w, past, m.count) in
            by_above rest (settled c i.0 home i.1 (omega arith) (index_less world c i.0 (length tables) home i.1) none whole)

    pub all_made : AreTables world (tables ++ made ∷ [])
    all_made = record {
      count = omega (arith, m.count, length-append tables (made ∷ []));
      right = λ c t e. m.right c t (sym (same_table c) ∙ e);
      complete = λ c e. by_chain c (sym (same_table c) ∙ e) (has_whole_chain world c) refl;
    }
      where
        by_chain : (c : ClassName) → table_so_far world tables made c ≡ None → (b : Bool) → has_whole_chain world c ≡ b → b ≡ false
        by_chain c none false e = refl
        by_chain c none true e =
            let k = whole_there world c e in
            absurd (no_gap most_classes c k.0 k.1 (whole_ends world c e) (omega arith) none)
