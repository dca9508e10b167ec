-- Tables of the methods of classes.
use Rattle.std.proofs.Common.{◌≡◌, ℕ, zero, suc, ◌+◌, ◌-◌, ◌*◌, ◌<◌, ◌≤◌, ◌==◌, ◌||◌, not, Bool, true, false, cond}
use Rattle.std.proofs.Common.{List, [], ◌∷◌, ◌++◌, length, set, Option, Some, None, refl, sym, ap, subst}
use Rattle.std.proofs.Common.{◌∙◌, arith, nat_lt, unwrap_or, length-append}
use Rattle.std.proofs.lemmas.Bool.{cases_lt, eqb-false, eqb-true, ltb-true, ltb-false, ne_eqb}
use Rattle.std.proofs.lemmas.List.{get_or-set_other, get_or-set_same}
use Rattle.std.proofs.lemmas.Option.{slice_get_past, slice_get_within, unwrap_or-slice_get}
use Rattle.std.specs.Option.{option_and_then, option_map_or}
use Rattle.jc_base.proofs.Binding.{none_some, the_some}
use Rattle.jc_cap.specs.Interfaces.{Implemented}
use Rattle.jc_cap.specs.declared.record.ClassRecord.{ClassRecord}
use Rattle.jc_cap.specs.declared.record.RecordBody.{RecordBody}
use Rattle.jc_cap.specs.declared.record.VirtualTable.{VirtualTable}
use Rattle.jc_cap.specs.declared.record.RecordBody.TheVariants.{Class}
use Rattle.jc_cap_desc.specs.Shape.{ClassShape, Shape}
use Rattle.jc_classes.proofs.Growing.{get_before, packages_keep, classes_keep, superclasses_keep, superclass_within}
use Rattle.jc_classes.proofs.Growing.{virtual_methods_keep}
use Rattle.jc_classes.proofs.Below.{one_place}
use Rattle.jc_classes.proofs.Standing.{some_of, package_there, true_false}
use Rattle.jc_classes.proofs.Walking.{most_is}
use Rattle.jc_classes.specs.Growth.{grown, IsWithin}
use Rattle.jc_classes.specs.Limits.{IsSmall}
use Rattle.jc_classes.specs.PrivateSearch.{place}
use Rattle.jc_classes.specs.Record.{interface_rows}
use Rattle.jc_cap.specs.ClassComponent.{is_class}
use Rattle.jc_classes.specs.Methods.{table_visit, record_visit, virtual_visit}
use Rattle.jc_classes.specs.Methods.{package_visible}
use Rattle.jc_classes.specs.PrivatePlaces.{place_at}
use Rattle.jc_classes.specs.Listed.{ListNothing, class_behind}
use Rattle.jc_classes.specs.PrivateTables.{Tabled, no_methods, row_at, row_entry, entry_in, depth_above}
use Rattle.jc_classes.specs.PrivateTables.{lists_above, lists_any, IsTabled, IsTabledAbove, entry_made}
use Rattle.jc_classes.specs.PrivateTables.{LeadsUp, entry_above}
use Rattle.jc_classes.specs.PrivateTables.{index_at, table_in, table_of, AreTables, AreBefore, AreSameRows}
use Rattle.jc_classes.specs.PrivateTables.{AreVisibleOver, IsRowOver, IsTableOver}
use Rattle.jc_classes.specs.Subtype.{comes_to_end, has_whole_chain}
use Rattle.jc_classes.specs.Walk.{most_classes, found_from, walk, found}
use Rattle.jc_names.specs.Names.{home_of}
use Rattle.jc_classes.specs.World.{class_at, superclass_of}
use Rattle.jc_names.specs.declared.name.ClassName.{ClassName}
use Rattle.jc_names.specs.declared.name.MethodName.{MethodName}
use Rattle.jc_classes.specs.declared.tables.Jump.{Jump}
use Rattle.jc_classes.specs.declared.walk.Visit.{Visit}
use Rattle.jc_classes.specs.declared.walk.Visit.TheVariants.{Above}

-- ---- walks that have come to their end

-- more steps find the same
stable : {A : Type 0} (visit : ClassName → ClassShape → Visit A) (world : List Shape) (n m : ℕ) (c : ClassName)
    → comes_to_end world n c ≡ true → n ≤ m → walk visit world m c ≡ walk visit world n c
stable visit world zero m c e h = absurd (true_false (sym e))
stable visit world (suc n) zero c e h = absurd (omega arith)
stable {A} visit world (suc n) (suc m) c e h =
    ap (λ (o : Option A). option_and_then (λ k. found_from (visit c k) o) (class_at world c))
    (above (superclass_of world c) e (λ d f. stable visit world n m d f (omega arith)))
  where
    above : (o : Option ClassName) → option_map_or (comes_to_end world n) o true ≡ true → ((d : ClassName)
        → comes_to_end world n d ≡ true → walk visit world m d ≡ walk visit world n d)
        → option_and_then (walk visit world m) o ≡ option_and_then (walk visit world n) o
    above o h1 h2 = grind arith

-- what a class says, or what is found above it
pub one_visit : {A : Type 0} (visit : ClassName → ClassShape
    → Visit A) (world : List Shape) (n : ℕ) (c : ClassName) (k : ClassShape) → comes_to_end world n c ≡ true
    → n ≤ most_classes → class_at world c ≡ Some k
    → found visit world c ≡ found_from (visit c k) (option_and_then (found visit world) (superclass_of world c))
one_visit visit world n c k e h at =
    stable visit world n most_classes c e h ∙ sym (stable visit world n (suc most_classes) c e (omega arith))
    ∙ ap (option_and_then (λ k. found_from (visit c k) (option_and_then (found visit world) (superclass_of world c))))
    at

-- ---- tables of the class above

pub one_at_least : (world : List Shape) (c : ClassName) (n : ℕ) → comes_to_end world n c ≡ true → 1 ≤ n
one_at_least world c n h1 = grind (arith, true_false)

one_more : (world : List Shape) (c d : ClassName) (depth : ℕ) → superclass_of world c ≡ Some d → ((n : ℕ)
    → comes_to_end world n d ≡ true → depth ≤ n) → (n : ℕ) → comes_to_end world n c ≡ true → suc depth ≤ n
one_more world c d depth s least zero e = absurd (true_false (sym e))
one_more world c d depth s least (suc n) e = grind arith

-- an interface's table has nothing
no_entry : (c : ClassName) (token asker : ℕ) → entry_in (no_methods c) token asker ≡ None
no_entry c token asker = grind arith

pub none_above : (world : List Shape) (c : ClassName) → superclass_of world c ≡ None → IsTabledAbove world c None
none_above world c e = grind (arith, one_at_least, none_some)

pub some_above : (world : List Shape) (c d : ClassName) (table : Tabled) → superclass_of world c ≡ Some d
    → IsTabled world d table → IsTabledAbove world c (Some table)
some_above world c d table e t = record {
  ends = ap (λ (o : Option ClassName). option_map_or (comes_to_end world table.depth) o true) e ∙ t.ends;
  least = one_more world c d table.depth e t.least;
  methods = grind arith;
  nothing = λ none d2 up. subst (ListNothing world) (the_some d d2 (sym e ∙ up)) (t.nothing none);
  tabled = λ d2 t2 up is. subst (IsTabled world d2) (the_some table t2 is)
      (subst (λ x. IsTabled world x table) (the_some d d2 (sym e ∙ up)) t);
}

-- where neither the class nor one above it lists any
no_rows : (rows : List Implemented) (b : Bool) → (not (length rows == 0) || b) ≡ false → (rows ≡ []) × (b ≡ false)
no_rows [] b e = (refl, e)
no_rows (row ∷ rows) b e = grind (arith, true_false, not, ne_eqb)

nothing_made : (world : List Shape) (c : ClassName) (k : ClassShape) (above : Option Tabled) → class_at world c ≡ Some k
    → IsTabledAbove world c above → lists_any (interface_rows k.body) (lists_above above) ≡ false → ListNothing world c
nothing_made world c k above at up none zero d k2 here there = grind (arith, above, the_some, no_rows)
nothing_made world c k above at up none (suc n) d k2 here there =
    let s = some_of (class_behind world n) (superclass_of world c) d here in
    up.nothing (no_rows (interface_rows k.body) (lists_above above) none).1 s.0 s.1 n d k2 s.2 there

-- a table of what a class says, and of what the table above has
pub made_right : (world : List Shape) (c : ClassName) (k : ClassShape) (above : Option Tabled) (table : Tabled)
    → class_at world c ≡ Some k → IsTabledAbove world c above → table.depth ≡ suc (depth_above above)
    → table.depth ≤ most_classes → LeadsUp world c table.depth table.jump
    → ((token asker : ℕ) → token < 256
    → entry_in table token asker ≡ entry_made world above (home_of c) k.body token asker)
    → table.lists ≡ lists_any (interface_rows k.body) (lists_above above) → IsTabled world c table
made_right world c k above table at up one few jump methods lists =
    let ends : comes_to_end world table.depth c ≡ true = ap (λ n. comes_to_end world n c) one ∙ up.ends in
    record {
      ends = ends;
      least = λ n e. let l = up.least n e in omega (arith, one, l);
      depth = few;
      jump = jump;
      methods =
          λ token asker b. methods token asker b
          ∙ ap (found_from (record_visit world asker token (home_of c) k.body)) (up.methods token asker b)
          ∙ sym (one_visit (virtual_visit world asker token) world table.depth c k ends few at);
      nothing = λ none. nothing_made world c k above at up (sym lists ∙ none);
    }

-- ---- the table of an interface

module _ (world : List Shape) (c : ClassName) (k : ClassShape) (at : class_at world c ≡ Some k)
    (not_class : is_class k.body ≡ false) where
  nothing_above : superclass_of world c ≡ None
  nothing_above = grind (arith, true_false)

  ends_there : comes_to_end world 1 c ≡ true
  ends_there = ap (λ (o : Option ClassName). option_map_or (comes_to_end world 0) o true) nothing_above

  no_method : (token asker : ℕ) (rest : Option MethodName) (body : RecordBody) → is_class body ≡ false
      → found_from (record_visit world asker token (home_of c) body) rest ≡ None
  no_method token asker rest body h1 = grind (arith, true_false)

  no_rows_in : (body : RecordBody) → is_class body ≡ false → interface_rows body ≡ []
  no_rows_in body h1 = grind (arith, true_false)

  no_rows_there : ListNothing world c
  no_rows_there zero d k2 here there = grind (arith, the_some, no_rows_in)
  no_rows_there (suc n) d k2 here there = grind (arith, none_some, nothing_above)

  pub interface_tabled : IsTabled world c (no_methods c)
  interface_tabled = record {
    ends = ends_there;
    least = one_at_least world c;
    depth = omega (arith, most_is);
    jump = record { within = omega arith; there = refl };
    methods = λ token asker b. no_entry c token asker
        ∙ sym
        (one_visit (virtual_visit world asker token) world 1 c k ends_there (omega (arith, most_is)) at
        ∙ no_method token asker _ k.body not_class);
    nothing = λ none. no_rows_there;
  }

-- ---- worlds that grow

ends_keep : (world : List Shape) (more : Shape) (n : ℕ) (c : ClassName) → IsWithin world c
    → comes_to_end (grown world more) n c ≡ comes_to_end world n c
ends_keep world more zero c w = refl
ends_keep world more (suc n) c w =
    ap (λ (o : Option ClassName). option_map_or (comes_to_end (grown world more) n) o true)
    (superclasses_keep world more c w)
    ∙ above (superclass_of world c) (λ d e. ends_keep world more n d (superclass_within world c d w e))
  where
    above : (o : Option ClassName) → ((d : ClassName) → o ≡ Some d
        → comes_to_end (grown world more) n d ≡ comes_to_end world n d)
        → option_map_or (comes_to_end (grown world more) n) o true ≡ option_map_or (comes_to_end world n) o true
    above None rest = refl
    above (Some d) rest = rest d refl

behind_keeps : (world : List Shape) (more : Shape) (n : ℕ) (c : ClassName) → IsWithin world c
    → class_behind (grown world more) n c ≡ class_behind world n c
behind_keeps world more zero c w = refl
behind_keeps world more (suc n) c w =
    ap (option_and_then (class_behind (grown world more) n)) (superclasses_keep world more c w)
    ∙ above (superclass_of world c) (λ d e. behind_keeps world more n d (superclass_within world c d w e))
  where
    above : (o : Option ClassName)
        → ((d : ClassName) → o ≡ Some d → class_behind (grown world more) n d ≡ class_behind world n d)
        → option_and_then (class_behind (grown world more) n) o ≡ option_and_then (class_behind world n) o
    above None rest = refl
    above (Some d) rest = rest d refl

behind_within : (world : List Shape) (n : ℕ) (c d : ClassName) → IsWithin world c → class_behind world n c ≡ Some d
    → IsWithin world d
behind_within world zero c d w e = subst (IsWithin world) (the_some c d e) w
behind_within world (suc n) c d w e =
    let s = some_of (class_behind world n) (superclass_of world c) d e in
    behind_within world n s.0 d (superclass_within world c s.0 w s.1) s.2

nothing_keeps : (world : List Shape) (more : Shape) (c : ClassName) → IsWithin world c → ListNothing world c
    → ListNothing (grown world more) c
nothing_keeps world more c w nothing n d k here there = grind (arith, behind_keeps, classes_keep, behind_within)

table_grows : (world : List Shape) (more : Shape) (c : ClassName) (table : Tabled) → IsWithin world c
    → IsTabled world c table → IsTabled (grown world more) c table
table_grows world more c table w t = record {
  ends = ends_keep world more table.depth c w ∙ t.ends;
  least = λ n e. t.least n (sym (ends_keep world more n c w) ∙ e);
  depth = t.depth;
  jump = record {
    within = t.jump.within;
    there = behind_keeps world more (table.depth - table.jump.depth) c w ∙ t.jump.there;
  };
  methods = grind (arith, virtual_methods_keep);
  nothing = λ none. nothing_keeps world more c w (t.nothing none);
}

indexes_keep : (world : List Shape) (more : Shape) (c : ClassName) → IsWithin world c
    → index_at (grown world more) c ≡ index_at world c
indexes_keep world more c w = grind (arith, packages_keep)

table_within : (tables : List (List (Option Tabled))) (home index : ℕ) (table : Tabled)
    → table_in tables home index ≡ Some table → home < length tables
table_within tables home index table e = grind (arith, some_of, slice_get_within)

pub index_within : (world : List Shape) (c : ClassName) (i : ℕ) → index_at world c ≡ Some i → IsWithin world c
index_within world c i e = grind (arith, some_of, slice_get_within, package_there)

table_keeps : (world : List Shape) (more : Shape) (tables : List (List (Option Tabled))) (c : ClassName)
    → IsWithin world c → table_of (grown world more) tables c ≡ table_of world tables c
table_keeps world more tables c w = ap (option_and_then (table_in tables (home_of c))) (indexes_keep world more c w)

chain_keeps : (world : List Shape) (more : Shape) (c : ClassName) → IsWithin world c
    → has_whole_chain (grown world more) c ≡ has_whole_chain world c
chain_keeps world more c w = grind (arith, classes_keep, ends_keep)

pub tables_grow : (world : List Shape) (more : Shape) (tables : List (List (Option Tabled)))
    → AreTables world tables → AreBefore (grown world more) tables
tables_grow world more tables t = record {
  count = omega (arith, t.count, length-append world (more ∷ []));
  right = λ c table e.
      let i = some_of (table_in tables (home_of c)) (index_at (grown world more) c) table e in
      let less = table_within tables (home_of c) i.0 table i.2 in
      let w : IsWithin world c = omega (arith, less, t.count) in
      table_grows world more c table w (t.right c table (sym (table_keeps world more tables c w) ∙ e));
  complete = λ c less e.
      let w : IsWithin world c = omega (arith, less, t.count) in
      chain_keeps world more c w ∙ t.complete c (sym (table_keeps world more tables c w) ∙ e);
}

-- ---- one class at one place

pub placed_index : (world : List Shape) (c : ClassName) (i : ℕ) → index_at world c ≡ Some i
    → place world c ≡ Some (256 * home_of c + i)
placed_index world c i e = grind (arith, none_some)

pub one_class : (world : List Shape) (c d : ClassName) (i j : ℕ) → IsSmall world → index_at world c ≡ Some i
    → index_at world d ≡ Some j → home_of d ≡ home_of c → j ≡ i → c ≡ d
one_class world c d i j small e f home same =
    let n : 256 * home_of d + j ≡ 256 * home_of c + i = omega (arith, home, same) in
    one_place world c d (256 * home_of c + i) small (placed_index world c i e) (placed_index world d j f ∙ ap Some n)

-- ---- what a table is to have

-- what a class's record says at a token, over the table above
module _ (world : List Shape) (home : ℕ) (r : ClassRecord) (c : ClassName) (above : Option Tabled) (table : Tabled)
    (depth : ℕ) (jump : Jump)
    (over : IsTableOver world home r.public_methods r.package_methods r.interfaces (unwrap_or above (no_methods c))
    depth jump table) where
  abbrev up : Tabled
  up = unwrap_or above (no_methods c)

  abbrev says : ℕ → ℕ → Bool → Option MethodName
  says token asker b =
      found_from
      (cond b (table_visit world home r.public_methods token)
      (cond (home == asker) (table_visit world home r.package_methods (token - package_visible)) Above))
      (cond b (place_at up.public token) (place_at (row_at up.visible asker) (token - package_visible)))

  by_package : (b : Bool) (visit : Visit MethodName) (rest : Option MethodName)
      → cond b (found_from visit rest) rest ≡ found_from (cond b visit Above) rest
  by_package b visit rest = grind arith

  by_token : (token asker : ℕ) → token < 256 → (b : Bool) → nat_lt token package_visible ≡ b
      → cond b (place_at table.public token) (place_at (row_at table.visible asker) (token - package_visible))
      ≡ says token asker b
  by_token token asker h1 b h2 = grind (arith, ltb-true, ltb-false, by_package)

  pub entries_over : (token asker : ℕ) → token < 256
      → entry_in table token asker ≡ entry_made world above home (Class r) token asker
  entries_over token asker less =
      by_token token asker less (nat_lt token package_visible) refl
      ∙ ap (found_from (record_visit world asker token home (Class r))) (entry_up above)
    where
      entry_up : (o : Option Tabled) → entry_in (unwrap_or o (no_methods c)) token asker ≡ entry_above o token asker
      entry_up None = no_entry c token asker
      entry_up (Some table) = refl

  pub lists_up : (o : Option Tabled) → (unwrap_or o (no_methods c)).lists ≡ lists_above o
  lists_up o = grind arith

-- ---- rows that are made

place_before : {A : Type 0} (xs : List (Option A)) (y : Option A) (i : ℕ) → i < length xs
    → place_at (xs ++ y ∷ []) i ≡ place_at xs i
place_before {A} xs y i h = ap (λ (o : Option (Option A)). unwrap_or o None) (get_before xs y i h)

place_last : {A : Type 0} (xs : List (Option A)) (y : Option A) → place_at (xs ++ y ∷ []) (length xs) ≡ y
place_last [] y = refl
place_last (x ∷ xs) y = place_last xs y

pub each_pushed : {A : Type 0} (xs : List (Option A)) (y : Option A) (f : ℕ → Option A) (n : ℕ) → length xs ≡ n
    → ((i : ℕ) → i < n → place_at xs i ≡ f i) → y ≡ f n → (i : ℕ) → i < n + 1 → place_at (xs ++ y ∷ []) i ≡ f i
each_pushed xs y f n count so_far last i less = grind (arith, cases_lt, place_before, place_last)

-- so many entries that are right, where there is nothing to be behind them
pub row_whole : (world : List Shape) (home : ℕ) (table : VirtualTable) (above made : List (Option MethodName)) (n : ℕ)
    → length made ≡ n
    → ((i : ℕ) → i < n → place_at made i ≡ row_entry world home table above i)
    → ((i : ℕ) → n ≤ i → i < 128 → row_entry world home table above i ≡ None) → IsRowOver world home table above made
row_whole world home table above made n count so_far none i less = grind (arith, above, cases_lt, slice_get_past)

-- a table without methods says nothing of its own
pub row_shared : (world : List Shape) (home : ℕ) (table : VirtualTable) (above : List (Option MethodName))
    → length table.methods ≡ 0
    → IsRowOver world home table above above
row_shared world home table above none i less = grind (arith, above)

pub visible_shared : (world : List Shape) (home : ℕ) (table : VirtualTable) (above : List (List (Option MethodName)))
    → length table.methods ≡ 0
    → AreVisibleOver world home table above above
visible_shared world home table above none asker i less = grind (arith, above, row_shared)

-- there is nothing behind the last method of a record's table and of the row above
pub row_ends : (world : List Shape) (home : ℕ) (table : VirtualTable) (above : List (Option MethodName)) (i : ℕ)
    → length table.methods + table.base ≤ i → place_at above i ≡ None → row_entry world home table above i ≡ None
row_ends world home table above i past none = grind (arith, above, slice_get_past)

-- the row of the class's own package in place of that above
pub put_right : (world : List Shape) (home : ℕ) (table : VirtualTable) (rows : List (List (Option MethodName)))
    (made : List (Option MethodName)) → home < length rows
    → IsRowOver world home table (row_at rows home) made → AreVisibleOver world home table rows (set rows home made)
put_right world home table rows made less over asker i few =
    grind (arith, set, eqb-true, unwrap_or-slice_get, get_or-set_same, get_or-set_other, eqb-false)

-- rows that are the same, with that of the class's own package put behind
pub visible_right : (world : List Shape) (home : ℕ) (table : VirtualTable)
    (above old made : List (List (Option MethodName))) → AreSameRows above old
    → AreVisibleOver world home table old made → AreVisibleOver world home table above made
visible_right world home table above old made same over asker i less = grind (arith, above)

-- ---- a table that is made

pub table_right : (world : List Shape) (c : ClassName) (k : ClassShape) (r : ClassRecord) (above : Option Tabled)
    (table : Tabled) (home depth : ℕ) (jump : Jump) → home ≡ home_of c → k.body ≡ Class r → class_at world c ≡ Some k
    → IsTabledAbove world c above → depth ≡ suc (depth_above above) → depth ≤ most_classes
    → LeadsUp world c depth jump
    → IsTableOver world home r.public_methods r.package_methods r.interfaces (unwrap_or above (no_methods c)) depth jump
    table
    → IsTabled world c table
table_right world c k r above table home depth jump e body at up one few leads over =
    made_right world c k above table at up (over.deep ∙ one) (omega (arith, over.deep, few))
    (subst (λ n. LeadsUp world c n table.jump) (sym over.deep)
    (subst (LeadsUp world c depth) (sym over.jumps) leads))
    (λ token asker less. entries_over world home r c above table depth jump over token asker less
    ∙ ap (λ home. entry_made world above home (Class r) token asker) e
    ∙ ap (λ body. entry_made world above (home_of c) body token asker) (sym body))
    (over.any
    ∙ ap (lists_any r.interfaces) (lists_up world home r c above table depth jump over above)
    ∙ ap (λ body. lists_any (interface_rows body) (lists_above above)) (sym body))
