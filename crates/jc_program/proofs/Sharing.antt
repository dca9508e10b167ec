-- Lists of tables that share what they have in common.
use Rattle.std.proofs.Common.{◌≡◌, ◌⊎◌, inl, inr, ℕ, zero, suc, ◌+◌, ◌-◌, ◌<◌, ◌≤◌, ◌==◌, Bool, true, false, cond}
use Rattle.std.proofs.Common.{List, []}
use Rattle.std.proofs.Common.{◌∷◌, ◌++◌, min, length, take, Option, Some, None, slice_get, unwrap_or, refl, sym, ap}
use Rattle.std.proofs.Common.{◌∙◌}
use Rattle.std.proofs.Common.{arith, length-append}
use Rattle.std.proofs.lemmas.Bool.{cases_lt, eq-eqb, eqb-true, ne_eqb}
use Rattle.std.proofs.lemmas.List.{length-take, map-append}
use Rattle.std.proofs.lemmas.Option.{same_Some, slice_get-map, slice_get_within}
use Rattle.std.specs.List.{find}
use Rattle.std.specs.Option.{option_map, option_map_or}
use Rattle.jc_program.specs.Called.{KeyedTable, called_at, called_in, keyed_in}
use Rattle.jc_program.specs.PrivateCalled.{lists_of}
use Rattle.jc_program.specs.PrivateChained.{AreChained, AreHeads, AreKept, Chained, IsHead, first_chained}
use Rattle.jc_program.specs.PrivateChained.{head_of, lists_in, number_at, number_behind, tables_at, tables_from}
use Rattle.jc_program.specs.PrivateChained.{with_table}
use Rattle.jc_entries.specs.declared.called.Called.{Called}
use Rattle.jc_program.proofs.Beginning.{begins_long}
use Rattle.jc_program.proofs.Calling.{get_before, get_last}
use Rattle.jc_program.proofs.Parting.{take_get_at}

-- ---- lists and numbers

take_front : {A : Type 0} (count : ℕ) (xs : List A) (i : ℕ) → i < count
    → slice_get (take count xs) i ≡ slice_get xs i
take_front zero xs i less = absurd (omega (arith, less))
take_front (suc count) [] i less = refl
take_front (suc count) (x ∷ xs) zero less = refl
take_front (suc count) (x ∷ xs) (suc i) less = take_front count xs i (omega (arith, less))

take_again : {A : Type 0} (count : ℕ) (xs : List A) → take (length (take count xs)) xs ≡ take count xs
take_again zero xs = refl
take_again (suc count) [] = refl
take_again (suc count) (x ∷ xs) = ap (λ ys. x ∷ ys) (take_again count xs)

number_there : (numbers : List (Option ℕ)) (n m : ℕ) → number_at numbers n ≡ Some m
    → slice_get numbers n ≡ Some (Some m)
number_there numbers n m e = by_get (slice_get numbers n) e
  where
    by_get : (o : Option (Option ℕ)) → unwrap_or o None ≡ Some m → o ≡ Some (Some m)
    by_get o h1 = grind arith

-- ---- tables that follow

abbrev chained : List KeyedTable → List (Option ℕ) → Chained
chained tables nexts = record { tables = tables; nexts = nexts }

none_from : (t : Chained) (steps : ℕ) → tables_from t steps None ≡ []
none_from t steps = grind arith

-- the first tables, of which two chains have the same, lead to the same lists, however many steps more are left
module _ (t u : Chained) (bound : ℕ) (are : AreChained t)
    (tables : (i : ℕ) → i < bound → slice_get u.tables i ≡ slice_get t.tables i)
    (nexts : (i : ℕ) → i < bound → slice_get u.nexts i ≡ slice_get t.nexts i) where
  same_from : (f g n : ℕ) → n < bound → n < f → n < g → tables_from u f (Some n) ≡ tables_from t g (Some n)
  same_from zero g n low lf lg = absurd (omega (arith, lf))
  same_from (suc f) zero n low lf lg = absurd (omega (arith, lg))
  same_from (suc f) (suc g) n low lf lg =
      ap (λ (o : Option KeyedTable). option_map_or (λ k. k ∷ tables_from u f (number_at u.nexts n)) o []) (tables n low)
      ∙ ap (λ (ks : List KeyedTable). option_map_or (λ k. k ∷ ks) (slice_get t.tables n) [])
      (ap (λ (o : Option (Option ℕ)). tables_from u f (unwrap_or o None)) (nexts n low)
      ∙ rest (number_at t.nexts n) refl (λ m. same_from f g m))
    where
      rest : (o : Option ℕ) → number_at t.nexts n ≡ o
          → ((m : ℕ) → m < bound → m < f → m < g → tables_from u f (Some m) ≡ tables_from t g (Some m))
          → tables_from u f o ≡ tables_from t g o
      rest o h1 h2 = grind (arith, none_from, number_there)

  same_head : (f g : ℕ) (head : Option ℕ) → IsHead bound head → IsHead f head → IsHead g head
      → tables_from u f head ≡ tables_from t g head
  same_head f g head h1 h2 h3 = grind (arith, none_from, same_from)

-- tables behind others change no list of these
module _ (t u : Chained) (are : AreChained t) (begins : first_chained (length t.tables) u ≡ t) where
  tables_begin : take (length t.tables) u.tables ≡ t.tables
  tables_begin = ap (λ (c : Chained). c.tables) begins

  nexts_begin : take (length t.tables) u.nexts ≡ t.nexts
  nexts_begin = ap (λ (c : Chained). c.nexts) begins

  longer : length t.tables ≤ length u.tables
  longer = begins_long t.tables u.tables tables_begin

  list_stays : (head : Option ℕ) → IsHead (length t.tables) head → tables_at u head ≡ tables_at t head
  list_stays head is =
      same_head t u (length t.tables) are
      (λ i less. sym (take_front (length t.tables) u.tables i less)
      ∙ ap (λ (ks : List KeyedTable). slice_get ks i) tables_begin)
      (λ i less. sym (take_front (length t.tables) u.nexts i less)
      ∙ ap (λ (ns : List (Option ℕ)). slice_get ns i) nexts_begin)
      (length u.tables) (length t.tables) head is
      (λ n e. let less = is n e in let l = longer in omega (arith, less, l)) is

  pub begins_kept : AreKept t u
  begins_kept = record { more = longer; lists = list_stays }

-- ---- one table more

-- the tables before it are as they were
table_begins : (t : Chained) (table : KeyedTable) (next : Option ℕ) → AreChained t
    → first_chained (length t.tables) (with_table t table next) ≡ t
table_begins t table next are = grind (arith, take_whole, are.count)
  where
    take_whole : {A : Type 0} (n : ℕ) (xs ys : List A) → length xs ≡ n → take n (xs ++ ys) ≡ xs
    take_whole zero [] ys e = refl
    take_whole zero (x ∷ xs) ys e = absurd (omega (arith, e))
    take_whole (suc n) [] ys e = absurd (omega (arith, e))
    take_whole (suc n) (x ∷ xs) ys e = ap (λ zs. x ∷ zs) (take_whole n xs ys (omega (arith, e)))

-- its list is itself, and those that follow it
pub table_put : (t : Chained) (table : KeyedTable) (next : Option ℕ) → AreChained t → IsHead (length t.tables) next
    → tables_at (with_table t table next) (Some (length t.tables)) ≡ table ∷ tables_at t next
table_put t table next are is =
    ap (λ n. tables_from (with_table t table next) n (Some (length t.tables))) one
    ∙ ap (λ (o : Option KeyedTable). option_map_or (λ k. k ∷ tables_from (with_table t table next) (length t.tables)
    (number_at (t.nexts ++ next ∷ []) (length t.tables))) o []) (get_last t.tables table)
    ∙ ap (λ (o : Option (Option ℕ)). table ∷ tables_from (with_table t table next) (length t.tables) (unwrap_or o None))
    (ap (slice_get (t.nexts ++ next ∷ [])) (sym are.count) ∙ get_last t.nexts next)
    ∙ ap (λ (ks : List KeyedTable). table ∷ ks)
    (same_head t (with_table t table next) (length t.tables) are (get_before t.tables table)
    (λ i less. get_before t.nexts next i (let n = are.count in omega (arith, n, less)))
    (length t.tables) (length t.tables) next is is is)
  where
    one : length (t.tables ++ table ∷ []) ≡ suc (length t.tables)
    one = let n = length-append t.tables (table ∷ []) in omega (arith, n)

-- ---- the lists of classes

pub none_kept : (t : Chained) → AreKept t t
none_kept t = record { more = omega arith; lists = λ head is. refl }

pub table_kept : (t : Chained) (table : KeyedTable) (next : Option ℕ) → AreChained t
    → AreKept t (with_table t table next)
table_kept t table next are = begins_kept t (with_table t table next) are (table_begins t table next are)

pub kept_lists : (t u : Chained) (heads : List (Option ℕ)) → AreKept t u → AreHeads (length t.tables) heads
    → lists_in u heads ≡ lists_in t heads
kept_lists t u [] kept are = refl
kept_lists t u (head ∷ heads) kept are =
    ap (λ (ks : List KeyedTable). ks ∷ lists_in u heads) (kept.lists head (λ n e. are zero n (ap Some e)))
    ∙ ap (λ (ls : List (List KeyedTable)). tables_at t head ∷ ls) (kept_lists t u heads kept (λ place. are (suc place)))

-- one more
pub lists_more : (t u : Chained) (heads : List (Option ℕ)) (head : Option ℕ) → AreKept t u
    → AreHeads (length t.tables) heads → lists_in u (heads ++ head ∷ []) ≡ lists_in t heads ++ tables_at u head ∷ []
lists_more t u heads head kept are =
    map-append (tables_at u) heads (head ∷ [])
    ∙ ap (λ (ls : List (List KeyedTable)). ls ++ tables_at u head ∷ []) (kept_lists t u heads kept are)

pub heads_more : (t u : Chained) (heads : List (Option ℕ)) (head : Option ℕ) → AreKept t u
    → AreHeads (length t.tables) heads → IsHead (length u.tables) head → AreHeads (length u.tables) (heads ++ head ∷ [])
heads_more t u heads head kept are is place n at = by_order (cases_lt place (length heads))
  where
    by_order : (place < length heads) ⊎ (length heads ≤ place) → n < length u.tables
    by_order (inl less) =
        let low = are place n (sym (get_before heads head place less) ∙ at) in let more = kept.more in
        omega (arith, low, more)
    by_order (inr past) =
        let w = slice_get_within (heads ++ head ∷ []) place (Some n) at in
        let l = length-append heads (head ∷ []) in
        let here : place ≡ length heads = omega (arith, past, w, l) in
        is n (same_Some head (Some n) (sym (get_last heads head)
        ∙ ap (slice_get (heads ++ head ∷ [])) (sym here) ∙ at))

pub list_at : (t : Chained) (heads : List (Option ℕ)) (number : ℕ)
    → unwrap_or (slice_get (lists_in t heads) number) [] ≡ tables_at t (number_at heads number)
list_at t heads number =
    ap (λ (o : Option (List KeyedTable)). unwrap_or o []) (slice_get-map (tables_at t) heads number)
    ∙ by_head (slice_get heads number)
  where
    by_head : (o : Option (Option ℕ)) → unwrap_or (option_map (tables_at t) o) [] ≡ tables_at t (unwrap_or o None)
    by_head o = grind (arith, none_from)

pub list_of : (t : Chained) (heads : List (Option ℕ)) (number : Option ℕ)
    → option_map_or (λ n. unwrap_or (slice_get (lists_in t heads) n) []) number [] ≡ tables_at t (head_of heads number)
list_of t heads number = grind (arith, none_from, list_at)

pub head_there : (count : ℕ) (heads : List (Option ℕ)) (number : Option ℕ) → AreHeads count heads
    → IsHead count (head_of heads number)
head_there count heads number h1 = grind (arith, number_there)

-- ---- the first tables alone

pub chained_kept : (count : ℕ) (t : Chained) → AreChained t → AreChained (first_chained count t)
chained_kept count t are = grind (arith, length-take, take_get_at)

pub lists_kept : (end : ℕ) (t : Chained) (heads : List (Option ℕ)) → AreChained t → AreHeads (length t.tables) heads
    → AreHeads end heads → lists_in (first_chained end t) heads ≡ lists_in t heads
lists_kept end t heads are all first =
    sym (kept_lists (first_chained end t) t heads (begins_kept (first_chained end t) t (chained_kept end t are) begins)
    within)
  where
    same_count : length (take end t.tables) ≡ length (take end t.nexts)
    same_count = length-take end t.tables ∙ ap (min end) (sym are.count) ∙ sym (length-take end t.nexts)

    begins : first_chained (length (take end t.tables)) t ≡ first_chained end t
    begins =
        ap (λ (ks : List KeyedTable). chained ks (take (length (take end t.tables)) t.nexts)) (take_again end t.tables)
        ∙ ap (chained (take end t.tables)) (ap (λ n. take n t.nexts) same_count ∙ take_again end t.nexts)

    within : AreHeads (length (take end t.tables)) heads
    within place n at = grind (arith, all, length-take)

-- ---- the way along a list

-- what the table with a number has
called_there : (tables : List KeyedTable) (n token : ℕ) (table : KeyedTable) → slice_get tables n ≡ Some table
    → called_at (lists_of tables) n token ≡ called_in table.called token
called_there tables n token table at =
    ap (λ (o : Option (List Called)). called_in (unwrap_or o []) token)
    (slice_get-map (λ (k : KeyedTable). k.called) tables n ∙ ap (option_map (λ (k : KeyedTable). k.called)) at)

module _ (t : Chained) (key token : ℕ) where
  abbrev has : ℕ → Option ℕ → Option Called
  has steps number = keyed_in (tables_from t steps number) key token

  pub has_none : (steps : ℕ) → has steps None ≡ None
  has_none steps = ap (λ (ks : List KeyedTable). keyed_in ks key token) (none_from t steps)

  pub has_end : (n : ℕ) (steps : ℕ) → slice_get t.tables n ≡ None → has steps (Some n) ≡ None
  has_end n steps h1 = grind arith

  one_step : (n counter : ℕ) (table : KeyedTable) → counter < length t.tables → slice_get t.tables n ≡ Some table
      → tables_from t (length t.tables - counter) (Some n)
      ≡ table ∷ tables_from t (length t.tables - (counter + 1)) (number_at t.nexts n)
  one_step n counter table less at =
      let one : length t.tables - counter ≡ suc (length t.tables - (counter + 1)) = omega (arith, less) in
      ap (λ steps. tables_from t steps (Some n)) one
      ∙ ap (λ (o : Option KeyedTable). option_map_or (λ k. k ∷ tables_from t (length t.tables - (counter + 1))
      (number_at t.nexts n)) o []) at

  in_order : (n counter : ℕ) (table : KeyedTable) (b : Bool) → counter < length t.tables
      → slice_get t.tables n ≡ Some table → (table.key == key) ≡ b → has (length t.tables - counter) (Some n)
      ≡ cond b (Some (called_in table.called token)) (has (length t.tables - (counter + 1)) (number_at t.nexts n))
  in_order n counter table b less at e =
      ap (λ (ks : List KeyedTable). keyed_in ks key token) (one_step n counter table less at)
      ∙ ap (λ b. option_map (λ (k : KeyedTable). called_in k.called token) (cond b (Some table)
      (find (λ (k : KeyedTable). k.key == key)
      (tables_from t (length t.tables - (counter + 1)) (number_at t.nexts n))))) e
      ∙ by_test b
    where
      by_test : (b : Bool) → option_map (λ (k : KeyedTable). called_in k.called token) (cond b (Some table)
          (find (λ (k : KeyedTable). k.key == key)
          (tables_from t (length t.tables - (counter + 1)) (number_at t.nexts n))))
          ≡ cond b (Some (called_in table.called token)) (has (length t.tables - (counter + 1)) (number_at t.nexts n))
      by_test b = grind arith

  pub has_here : (number : Option ℕ) (n counter found : ℕ) → number ≡ Some n → counter < length t.tables
      → option_map (λ (k : KeyedTable). k.key) (slice_get t.tables n) ≡ Some found → found ≡ key
      → has (length t.tables - counter) number ≡ Some (called_at (lists_of t.tables) n token)
  has_here number n counter found is less at same =
      ap (has (length t.tables - counter)) is ∙ by_table (slice_get t.tables n) refl at
    where
      by_table : (o : Option KeyedTable) → slice_get t.tables n ≡ o
          → option_map (λ (k : KeyedTable). k.key) o ≡ Some found
          → has (length t.tables - counter) (Some n) ≡ Some (called_at (lists_of t.tables) n token)
      by_table o h1 h2 = grind (arith, in_order, eq-eqb, same_Some, called_there)

  pub has_next : (number : Option ℕ) (n counter found : ℕ) → number ≡ Some n → counter < length t.tables
      → option_map (λ (k : KeyedTable). k.key) (slice_get t.tables n) ≡ Some found → (found ≡ key → ⊥)
      → has (length t.tables - counter) number ≡ has (length t.tables - (counter + 1)) (number_at t.nexts n)
  has_next number n counter found is less at other =
      ap (has (length t.tables - counter)) is ∙ by_table (slice_get t.tables n) refl at
    where
      by_table : (o : Option KeyedTable) → slice_get t.tables n ≡ o
          → option_map (λ (k : KeyedTable). k.key) o ≡ Some found
          → has (length t.tables - counter) (Some n) ≡ has (length t.tables - (counter + 1)) (number_at t.nexts n)
      by_table o h1 h2 = grind (arith, in_order, ne_eqb, same_Some)

-- ---- a list without its first table

module _ (t : Chained) (key : ℕ) (are : AreChained t) where
  pub head_behind : (head : Option ℕ) → IsHead (length t.tables) head
      → IsHead (length t.tables) (number_behind t head key)
  head_behind None is = is
  head_behind (Some n) is = by_test _
    where
      by_test : (b : Bool) → IsHead (length t.tables) (cond b (number_at t.nexts n) (Some n))
      by_test b = grind (arith, number_there)

  -- other keys are found behind it
  pub same_behind : (head : Option ℕ) (other token : ℕ) → IsHead (length t.tables) head → (key == other) ≡ false
      → keyed_in (tables_at t (number_behind t head key)) other token ≡ keyed_in (tables_at t head) other token
  same_behind None other token is differs = refl
  same_behind (Some n) other token is differs = by_table (slice_get t.tables n) refl
    where
      all : 0 < length t.tables
      all = let low = is n refl in omega (arith, low)

      by_key : (table : KeyedTable) (b : Bool) → slice_get t.tables n ≡ Some table → (table.key == key) ≡ b
          → keyed_in (tables_at t (cond b (number_at t.nexts n) (Some n))) other token
          ≡ keyed_in (tables_at t (Some n)) other token
      by_key table false at e = refl
      by_key table true at e =
          let whole : length t.tables - 0 ≡ length t.tables = omega arith in
          let less : length t.tables - (0 + 1) ≡ length t.tables - 1 = omega arith in
          sym (ap (λ steps. keyed_in (tables_from t steps (Some n)) other token) (sym whole)
          ∙ in_order t other token n 0 table false all at (ap (λ k. k == other) (eqb-true table.key key e) ∙ differs)
          ∙ enough (number_at t.nexts n) refl)
        where
          enough : (o : Option ℕ) → number_at t.nexts n ≡ o
              → keyed_in (tables_from t (length t.tables - (0 + 1)) o) other token
              ≡ keyed_in (tables_at t o) other token
          enough o e =
              ap (λ (ks : List KeyedTable). keyed_in ks other token)
              (same_head t t (length t.tables) are (λ i l. refl) (λ i l. refl) (length t.tables - (0 + 1))
              (length t.tables) o (within o e) (below o e) (within o e))
            where
              below : (o : Option ℕ) → number_at t.nexts n ≡ o → IsHead (length t.tables - (0 + 1)) o
              below o e m s = grind (arith, number_there)

              within : (o : Option ℕ) → number_at t.nexts n ≡ o → IsHead (length t.tables) o
              within o e m s = let l = below o e m s in omega (arith, l)

      by_table : (o : Option KeyedTable) → slice_get t.tables n ≡ o
          → keyed_in (tables_at t (cond (option_map_or (λ (k : KeyedTable). k.key == key) (slice_get t.tables n) false)
          (number_at t.nexts n) (Some n))) other token ≡ keyed_in (tables_at t (Some n)) other token
      by_table o h1 = grind (arith, by_key)
