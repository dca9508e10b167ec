-- Private. Tables of the methods of classes, made from those of their superclasses.
use Rattle.std.specs.Prelude.{◌≡◌, ℕ, suc, ◌-◌, ◌<◌, ◌≤◌, ◌==◌, Bool, true, false, List, [], ◌∷◌, Option, Some, None}
use Rattle.std.specs.Prelude.{◌||◌, length, nat_lt, not, slice_get, unwrap_or, if◌then◌else◌}
use Rattle.std.specs.List.{position}
use Rattle.std.specs.Option.{option_and_then}
use Rattle.jc_cap.specs.Interfaces.{Implemented}
use Rattle.jc_cap.specs.declared.record.RecordBody.{RecordBody}
use Rattle.jc_cap.specs.declared.record.VirtualTable.{VirtualTable}
use Rattle.jc_cap_desc.specs.Shape.{Shape}
use Rattle.jc_classes.specs.Limits.{IsSmall}
use Rattle.jc_classes.specs.Listed.{ListNothing, class_behind}
use Rattle.jc_classes.specs.Methods.{record_visit, package_visible, virtual_method_of, table_visit}
use Rattle.jc_classes.specs.PrivatePlaces.{place_at}
use Rattle.jc_classes.specs.PrivateSearch.{class_placed}
use Rattle.jc_classes.specs.Subtype.{comes_to_end, has_whole_chain}
use Rattle.jc_classes.specs.Walk.{found_from, most_classes}
use Rattle.jc_names.specs.Names.{home_of, offset_of, name_in}
use Rattle.jc_classes.specs.World.{package_at, superclass_of}
use Rattle.jc_names.specs.declared.name.ClassName.{ClassName}
use Rattle.jc_names.specs.declared.name.MethodName.{MethodName}
use Rattle.jc_classes.specs.declared.tables.Jump.{Jump}

-- the table of a class: the length of its superclass chain, a superclass far up, its public methods by their tokens,
-- the package-visible ones for each package that may ask, by their tokens from 128 on, and whether any class of the
-- chain may list an interface
pub record Tabled : Type 0 where
  pub depth : ℕ
  pub jump : Jump
  pub public : List (Option MethodName)
  pub visible : List (List (Option MethodName))
  pub lists : Bool

-- the table of an interface
abbrev pub no_methods : ClassName → Tabled
no_methods c = record {
  depth = 1;
  jump = record { to = c; depth = 1 };
  public = [];
  visible = [];
  lists = false;
}

-- the methods for one package that asks
abbrev pub row_at : List (List (Option MethodName)) → ℕ → List (Option MethodName)
row_at rows asker = unwrap_or (slice_get rows asker) []

-- the method of a table at a token, for the package at place `asker`
abbrev pub entry_in : Tabled → ℕ → ℕ → Option MethodName
entry_in table token asker =
    if nat_lt token package_visible then place_at table.public token
    else place_at (row_at table.visible asker) (token - package_visible)

-- the entries of the superclass's table; without a superclass they are those of an interface, and the depth is 0
abbrev pub depth_above : Option Tabled → ℕ
depth_above None = 0
depth_above (Some table) = table.depth

abbrev pub entry_above : Option Tabled → ℕ → ℕ → Option MethodName
entry_above None token asker = None
entry_above (Some table) token asker = entry_in table token asker

abbrev pub lists_above : Option Tabled → Bool
lists_above None = false
lists_above (Some table) = table.lists

-- whether a class with these rows, or a superclass of it, lists any interface
abbrev pub lists_any : List Implemented → Bool → Bool
lists_any rows above = not (length rows == 0) || above

-- a superclass of a class, or the class itself: it is as many steps up as its own chain is shorter
pub record LeadsUp (world : List Shape) (c : ClassName) (depth : ℕ) (jump : Jump) : Type 0 where
  pub within : jump.depth ≤ depth
  pub there : class_behind world (depth - jump.depth) c ≡ Some jump.to

-- a table has the results of its class's look-ups, and the least length at which its superclass chain ends
pub record IsTabled (world : List Shape) (c : ClassName) (table : Tabled) : Type 0 where
  pub ends : comes_to_end world table.depth c ≡ true
  pub least : (n : ℕ) → comes_to_end world n c ≡ true → table.depth ≤ n
  pub depth : table.depth ≤ most_classes
  pub jump : LeadsUp world c table.depth table.jump
  pub methods : (token asker : ℕ) → token < 256 → entry_in table token asker ≡ virtual_method_of world c token asker
  pub nothing : table.lists ≡ false → ListNothing world c

-- a table has the results of the superclass's look-ups
pub record IsTabledAbove (world : List Shape) (c : ClassName) (above : Option Tabled) : Type 0 where
  pub ends : comes_to_end world (suc (depth_above above)) c ≡ true
  pub least : (n : ℕ) → comes_to_end world n c ≡ true → suc (depth_above above) ≤ n
  pub methods : (token asker : ℕ) → token < 256 → entry_above above token asker
      ≡ option_and_then (λ d. virtual_method_of world d token asker) (superclass_of world c)
  pub nothing : lists_above above ≡ false → (d : ClassName) → superclass_of world c ≡ Some d → ListNothing world d
  pub tabled : (d : ClassName) (table : Tabled) → superclass_of world c ≡ Some d → above ≡ Some table
      → IsTabled world d table

-- the entry of a table at a token: what the record answers, or the entry of the superclass's table
abbrev pub entry_made : List Shape → Option Tabled → ℕ → RecordBody → ℕ → ℕ → Option MethodName
entry_made world above home body token asker =
    found_from (record_visit world asker token home body) (entry_above above token asker)

-- the entry of a row at a token: what the record's table answers, or the entry of the superclass's row
abbrev pub row_entry : List Shape → ℕ → VirtualTable → List (Option MethodName) → ℕ → Option MethodName
row_entry world home table above token = found_from (table_visit world home table token) (place_at above token)

abbrev pub IsRowOver : List Shape → ℕ → VirtualTable → List (Option MethodName) → List (Option MethodName) → Type 0
IsRowOver world home table above made = (i : ℕ) → i < 128 → place_at made i ≡ row_entry world home table above i

-- the entry of the row of a package that may ask: other packages find what the superclass has
abbrev pub visible_entry : List Shape → ℕ → VirtualTable → List (Option MethodName) → ℕ → ℕ → Option MethodName
visible_entry world home table above asker i =
    if home == asker then row_entry world home table above i else place_at above i

abbrev pub AreVisibleOver : List Shape → ℕ → VirtualTable → List (List (Option MethodName))
    → List (List (Option MethodName)) → Type 0
AreVisibleOver world home table above made =
    (asker i : ℕ) → i < 128
    → place_at (row_at made asker) i ≡ visible_entry world home table (row_at above asker) asker i

-- the same rows, with empty ones appended
abbrev pub AreSameRows : List (List (Option MethodName)) → List (List (Option MethodName)) → Type 0
AreSameRows old new = (asker : ℕ) → row_at new asker ≡ row_at old asker

-- the table of a class's record, over that of its superclass: the record's two tables of methods, and whether it lists
-- any interface
pub record IsTableOver (world : List Shape) (home : ℕ) (public visible : VirtualTable) (rows : List Implemented)
    (above : Tabled) (depth : ℕ) (jump : Jump) (made : Tabled) : Type 0 where
  pub deep : made.depth ≡ depth
  pub jumps : made.jump ≡ jump
  pub methods : IsRowOver world home public above.public made.public
  pub package_methods : AreVisibleOver world home visible above.visible made.visible
  pub any : made.lists ≡ lists_any rows above.lists

-- the index of a class among those of its package
abbrev pub index_at : List Shape → ClassName → Option ℕ
index_at world c = option_and_then (λ shape. position (λ k. k.offset == offset_of c) shape.classes) (package_at world c)

-- the table of the class with an index in the package at place `home`
abbrev pub table_in : List (List (Option Tabled)) → ℕ → ℕ → Option Tabled
table_in tables home index =
    option_and_then (λ (row : List (Option Tabled)). place_at row index) (slice_get tables home)

-- the table of a class, if there is one
abbrev pub table_of : List Shape → List (List (Option Tabled)) → ClassName → Option Tabled
table_of world tables c = option_and_then (table_in tables (home_of c)) (index_at world c)

-- the tables of a world: each is right, and each class whose superclass chain ends has one
pub record AreTables (world : List Shape) (tables : List (List (Option Tabled))) : Type 0 where
  pub count : length tables ≡ length world
  pub right : (c : ClassName) (table : Tabled) → table_of world tables c ≡ Some table → IsTabled world c table
  pub complete : (c : ClassName) → table_of world tables c ≡ None → has_whole_chain world c ≡ false

-- the tables of all of a world's packages except the last
pub record AreBefore (world : List Shape) (tables : List (List (Option Tabled))) : Type 0 where
  pub count : length world ≡ suc (length tables)
  pub right : (c : ClassName) (table : Tabled) → table_of world tables c ≡ Some table → IsTabled world c table
  pub complete : (c : ClassName) → home_of c < length tables → table_of world tables c ≡ None
      → has_whole_chain world c ≡ false

-- the tables of a package: those of an earlier package, or those of the last one made so far
abbrev pub rows_so_far : List (List (Option Tabled)) → List (Option Tabled) → ℕ → List (Option Tabled)
rows_so_far tables made home = unwrap_or (slice_get tables home) made

-- the table of a class, if it was made
abbrev pub table_so_far : List Shape → List (List (Option Tabled)) → List (Option Tabled) → ClassName → Option Tabled
table_so_far world tables made c = option_and_then (place_at (rows_so_far tables made (home_of c))) (index_at world c)

-- the last package's tables are being made: each is right, the other packages have all theirs, and there is room
pub record AreInMaking (world : List Shape) (tables : List (List (Option Tabled)))
    (made : List (Option Tabled)) : Type 0 where
  pub small : IsSmall world
  pub count : length world ≡ suc (length tables)
  pub right : (c : ClassName) (table : Tabled) → table_so_far world tables made c ≡ Some table → IsTabled world c table
  pub before : (c : ClassName) → home_of c < length tables → table_so_far world tables made c ≡ None
      → has_whole_chain world c ≡ false
  pub room : (c : ClassName) (i : ℕ) → home_of c ≡ length tables → index_at world c ≡ Some i → i < length made

-- a class has a superclass without a table
abbrev pub LacksTableAbove : List Shape → List (List (Option Tabled)) → List (Option Tabled) → ClassName → Type 0
LacksTableAbove world tables made c =
    (d : ClassName) × (superclass_of world c ≡ Some d) × (table_so_far world tables made d ≡ None)

-- a class whose superclass chain ends can't have a table yet, since its superclass has none
abbrev pub IsWaiting : List Shape → List (List (Option Tabled)) → List (Option Tabled) → ClassName → Type 0
IsWaiting world tables made c = has_whole_chain world c ≡ true → LacksTableAbove world tables made c

-- a class has a table, or can't have one yet
abbrev pub IsSettled : List Shape → List (List (Option Tabled)) → List (Option Tabled) → ClassName → Type 0
IsSettled world tables made c = table_so_far world tables made c ≡ None → IsWaiting world tables made c

-- how many entries are empty
abbrev pub empty_places : List (Option Tabled) → ℕ
empty_places [] = 0
empty_places (None ∷ made) = suc (empty_places made)
empty_places (Some table ∷ made) = empty_places made

-- tables were made, or nothing changed
pub record IsFurther (world : List Shape) (tables : List (List (Option Tabled))) (old new : List (Option Tabled))
    (changed : Bool) : Type 0 where
  pub making : AreInMaking world tables new
  pub same : changed ≡ false → new ≡ old
  pub fewer : changed ≡ true → empty_places new < empty_places old

-- the classes of the last package with these indexes are settled
abbrev pub AreSettled : List Shape → List (List (Option Tabled)) → List (Option Tabled) → ℕ → ℕ → Type 0
AreSettled world tables made first behind =
    (c : ClassName) (i : ℕ) → home_of c ≡ length tables → index_at world c ≡ Some i → first ≤ i → i < behind
    → IsSettled world tables made c

-- the name of the class with an index in the package at place `home`
abbrev pub name_placed : List Shape → ℕ → ℕ → Option ClassName
name_placed world home index = option_and_then (λ k. name_in home k.offset) (class_placed world home index)
