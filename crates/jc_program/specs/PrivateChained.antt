-- Private. Tables that link to other tables, and lists that share tables.
use Rattle.std.specs.Prelude.{◌≡◌, ℕ, zero, suc, ◌<◌, ◌≤◌, ◌==◌, false, List, [], ◌∷◌, ◌++◌, length, map, Option, Some}
use Rattle.std.specs.Prelude.{None, slice_get, take, unwrap_or, if◌then◌else◌}
use Rattle.std.specs.Option.{option_map_or}
use Rattle.jc_program.specs.Called.{KeyedTable}

-- tables, and for each the number of the next table in its list
pub record Chained : Type 0 where
  pub tables : List KeyedTable
  pub nexts : List (Option ℕ)

abbrev pub none_chained : Chained
none_chained = record { tables = []; nexts = [] }

-- with one table added
abbrev pub with_table : Chained → KeyedTable → Option ℕ → Chained
with_table t table next = record { tables = t.tables ++ table ∷ []; nexts = t.nexts ++ next ∷ [] }

-- the first `count` tables
abbrev pub first_chained : ℕ → Chained → Chained
first_chained count t = record { tables = take count t.tables; nexts = take count t.nexts }

-- each table's next table has a smaller number
pub record AreChained (t : Chained) : Type 0 where
  pub count : length t.nexts ≡ length t.tables
  pub before : (n m : ℕ) → slice_get t.nexts n ≡ Some (Some m) → m < n

-- the number at a place; none after the end
abbrev pub number_at : List (Option ℕ) → ℕ → Option ℕ
number_at numbers place = unwrap_or (slice_get numbers place) None

-- ---- lists of tables

-- a table and the tables that follow it, at most `steps` of them
abbrev pub tables_from : Chained → ℕ → Option ℕ → List KeyedTable
tables_from t zero number = []
tables_from t (suc steps) None = []
tables_from t (suc steps) (Some n) =
    option_map_or (λ table. table ∷ tables_from t steps (number_at t.nexts n)) (slice_get t.tables n) []

-- the list that begins with a table: no list has more tables than there are
abbrev pub tables_at : Chained → Option ℕ → List KeyedTable
tables_at t number = tables_from t (length t.tables) number

-- the lists that begin with these tables
abbrev pub lists_in : Chained → List (Option ℕ) → List (List KeyedTable)
lists_in t heads = map (tables_at t) heads

-- if a list has a first table, it is one of the first `count` tables
abbrev pub IsHead : ℕ → Option ℕ → Type 0
IsHead count head = (n : ℕ) → head ≡ Some n → n < count

abbrev pub AreHeads : ℕ → List (Option ℕ) → Type 0
AreHeads count heads = (place n : ℕ) → slice_get heads place ≡ Some (Some n) → n < count

-- the first table of a class's list, by the class's number
abbrev pub head_of : List (Option ℕ) → Option ℕ → Option ℕ
head_of heads None = None
head_of heads (Some number) = number_at heads number

-- tables may be added, and existing lists stay the same
pub record AreKept (old new : Chained) : Type 0 where
  pub more : length old.tables ≤ length new.tables
  pub lists : (head : Option ℕ) → IsHead (length old.tables) head → tables_at new head ≡ tables_at old head

-- the first table of a list, after skipping a first table that has the key
abbrev pub number_behind : Chained → Option ℕ → ℕ → Option ℕ
number_behind t None key = None
number_behind t (Some n) key =
    if option_map_or (λ (table : KeyedTable). table.key == key) (slice_get t.tables n) false
    then number_at t.nexts n else Some n
