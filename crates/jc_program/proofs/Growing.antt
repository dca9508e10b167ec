-- What tables of a world hold stays right in the world with one package more.
use Rattle.std.proofs.Common.{◌≡◌, ◌⊎◌, inl, inr, ℕ, zero, suc, ◌+◌, ◌-◌, ◌<◌, ◌≤◌, Bool, true, false, cond}
use Rattle.std.proofs.Common.{List, [], ◌∷◌, length, map, take, Option, Some, None, is_some, slice_get}
use Rattle.std.proofs.Common.{unwrap_or, refl, sym, ap, subst, ◌∙◌, arith, length-append}
use Rattle.std.proofs.lemmas.Bool.{cases_lt, ne_eqb}
use Rattle.std.proofs.lemmas.Iterator.Adapters.{position_from-zero}
use Rattle.std.proofs.lemmas.List.{take-append-le, take_all}
use Rattle.std.proofs.lemmas.Option.{cond_some, option_and_then_some}
use Rattle.std.proofs.Math.Path.{fun_ext}
use Rattle.std.specs.List.{filter_map, position, position_from}
use Rattle.std.specs.Option.{option_and_then, option_map, option_map_or}
use Rattle.jc_api.specs.declared.class.ApiClass.{ApiClass}
use Rattle.jc_base.specs.Signature.{Signature}
use Rattle.jc_base.specs.declared.class_ref.ClassRef.{ClassRef}
use Rattle.jc_cap.specs.Interfaces.{Implemented}
use Rattle.jc_cap_desc.specs.Shape.{ClassShape, Shape}
use Rattle.jc_classes.specs.Growth.{IsMethodWithin, IsWithin, KeepsAllLookups, StandWithin, grown}
use Rattle.jc_classes.specs.Methods.{package_visible, virtual_method_of}
use Rattle.jc_classes.specs.Record.{interface_rows}
use Rattle.jc_classes.specs.Subtype.{by_superclass, same}
use Rattle.jc_classes.specs.World.{class_at, class_named, class_spelled, if_there, superclass_of}
use Rattle.jc_link.specs.Growth.{KeepsAllLinking}
use Rattle.jc_link.specs.Sound.{IsSound}
use Rattle.jc_names.specs.Names.{home_at, home_of, is_same_name}
use Rattle.jc_names.specs.declared.name.ClassName.{ClassName}
use Rattle.jc_names.specs.declared.name.ClassName.TheVariants.{Api}
use Rattle.jc_names.specs.declared.name.MethodName.{MethodName}
use Rattle.jc_names.specs.declared.name.MethodName.TheVariants as Named
use Rattle.jc_program.specs.Called.{AreCalled, AreVisible, KeyedTable, called_of, keyed_at}
use Rattle.jc_program.specs.Classes.{class_names, class_number, names_in}
use Rattle.jc_program.specs.ClassRows.{AreClassRows, class_row_of}
use Rattle.jc_program.specs.Entries.{method_entry}
use Rattle.jc_program.specs.InterfaceRows.{AreInterfaceRows, ClassInterfaces, IndexRow, class_interfaces, index_row}
use Rattle.jc_program.specs.InterfaceRows.{own_rows}
use Rattle.jc_program.specs.MemberTokens.{AreMemberTokens}
use Rattle.jc_program.specs.Methods.{LoadedMethod, is_named}
use Rattle.jc_program.specs.PrivateCalled.{AreListed, HasCalled, HasVisible}
use Rattle.jc_program.specs.PrivateClassRows.{HaveRows}
use Rattle.jc_entries.specs.declared.called.Called.{Called}
use Rattle.jc_entries.specs.declared.called.Called.TheVariants.{Nothing}
use Rattle.jc_program.specs.declared.class_rows.ClassRow.{ClassRow}
use Rattle.jc_program.proofs.Counting.{get_front, is_there, keeps_numbers, new_at_home}
use Rattle.jc_program.proofs.Same.{is_placed, name_itself, named}

-- ---- lists and options

-- what begins with a list, and has nothing behind it that passes, has the list's places
place_stays : {A : Type 0} (p : A → Bool) (xs ys : List A) (first : ℕ) → take (length xs) ys ≡ xs
    → ((n : ℕ) (y : A) → length xs ≤ n → slice_get ys n ≡ Some y → p y ≡ false)
    → position_from p first ys ≡ position_from p first xs
place_stays p [] [] first begins none = refl
place_stays p [] (y ∷ ys) first begins none =
    ap (λ b. cond b (Some first) (position_from p (first + 1) ys)) (none zero y (omega arith) refl)
    ∙ place_stays p [] ys (first + 1) refl (λ n z l. none (suc n) z (omega arith))
place_stays p (x ∷ xs) [] first begins none = absurd cc
place_stays p (x ∷ xs) (y ∷ ys) first begins none =
    let head : y ≡ x = cc in
    let rest : take (length xs) ys ≡ xs = cc in
    ap (λ z. cond (p z) (Some first) (position_from p (first + 1) ys)) head
    ∙ ap (λ o. cond (p x) (Some first) o)
    (place_stays p xs ys (first + 1) rest (λ n z l. none (suc n) z (omega (arith, l))))

then_same : {A B : Type 0} (f g : A → Option B) → ((a : A) → f a ≡ g a) → (o : Option A)
    → option_and_then f o ≡ option_and_then g o
then_same f g alike o = grind arith

then_same_at : {A B : Type 0} (f g : A → Option B) (o : Option A) → ((a : A) → o ≡ Some a → f a ≡ g a)
    → option_and_then f o ≡ option_and_then g o
then_same_at f g o alike = grind arith

then_none : {A B : Type 0} (f : A → Option B) (o : Option A) → ((a : A) → o ≡ Some a → f a ≡ None)
    → option_and_then f o ≡ None
then_none f o none = grind arith

same_mapped : {A B : Type 0} (f g : A → B) (xs : List A) → ((n : ℕ) (x : A) → slice_get xs n ≡ Some x → f x ≡ g x)
    → map f xs ≡ map g xs
same_mapped f g [] alike = refl
same_mapped f g (x ∷ xs) alike =
    ap (λ y. y ∷ map f xs) (alike zero x refl) ∙ ap (λ ys. g x ∷ ys) (same_mapped f g xs (λ n. alike (suc n)))

-- ---- classes

module _ (before : List Shape) (more : Shape) (keeps : KeepsAllLookups before (grown before more))
    (stand : StandWithin before) (sound : IsSound before) (two : 2 ≤ length before) where
  abbrev after : List Shape
  after = grown before more

  abbrev names : List ClassName
  names = class_names before

  abbrev later : List ClassName
  later = class_names (grown before more)

  names_before : (n : ℕ) → n < length names → slice_get later n ≡ slice_get names n
  names_before n less = grind (arith, slice_get, keeps_numbers, get_front, length)

  as_many : length names ≤ length later
  as_many = grind (arith, length, keeps_numbers, length-append)

  there_within : (c : ClassName) → is_some (class_at before c) ≡ true → IsWithin before c
  there_within c t = grind (arith, stand.classes)

  named_within : (n : ℕ) (c : ClassName) → slice_get names n ≡ Some c → IsWithin before c
  named_within n c at = there_within c (is_there before n c at)

  above_within : (c d : ClassName) → IsWithin before c → superclass_of before c ≡ Some d → IsWithin before d
  above_within c d w e = stand.above c d w (by_superclass c d d e (same d))

  -- a class of a package that was there keeps its number, or has none still
  pub number_stays : (c : ClassName) → IsWithin before c → class_number later c ≡ class_number names c
  number_stays c w = grind (arith, (keeps_numbers before more).numbers, not_new)
    where
      by_order : (m : ℕ) → class_number names c ≡ None → slice_get later m ≡ Some c
          → (m < length names) ⊎ (length names ≤ m) → ⊥
      by_order m none at (inl old) =
          let r = is_placed (λ d. is_same_name d c) names m c (sym (names_before m old) ∙ at) (name_itself c) in
          let some = r.1 in absurd cc
      by_order m none at (inr new) = let home = new_at_home before more m c new at in omega (arith, w, home)

      not_new : (m : ℕ) → class_number names c ≡ None → class_number later c ≡ Some m → ⊥
      not_new m none e = by_order m none (named later c m e) (cases_lt m (length names))

  -- ---- tokens of the API's members

  api_within : (a : ApiClass) → IsWithin before (Api a)
  api_within a = grind arith

  pub tokens_stay : (tokens : List (Option ℕ)) → AreMemberTokens before tokens → AreMemberTokens after tokens
  tokens_stay tokens are member = grind (arith, then_same, api_within)

  -- ---- rows of classes

  row_stays : KeepsAllLinking before after → (c : ClassName) → IsWithin before c
      → class_row_of before c ≡ class_row_of after c
  row_stays linking c w = grind arith

  pub rows_stay : KeepsAllLinking before after → (rows : List ClassRow) → AreClassRows before names rows
      → length rows ≡ length names → HaveRows after later (length rows) rows
  rows_stay linking rows are count = grind (arith, names_before, row_stays, named_within)

  -- ---- rows of interfaces

  -- what a reference finds is there
  reference_within : (home : ℕ) (ref : ClassRef) (d : ClassName) → class_named before home ref ≡ Some d
      → IsWithin before d
  reference_within home ref d e =
      option_and_then_some (if_there before) (class_spelled before home ref) d e (λ c spelled there.
      let r = cond_some (is_some (class_at before c)) c d there in
      subst (IsWithin before) r.1 (there_within c r.0))

  number_named_stays : (o : Option ClassName) → ((d : ClassName) → o ≡ Some d → IsWithin before d)
      → option_and_then (class_number later) o ≡ option_and_then (class_number names) o
  number_named_stays o within = then_same_at _ _ o (λ d e. number_stays d (within d e))

  index_row_stays : (home : ℕ) → home < length before → (row : Implemented)
      → index_row before names home row ≡ index_row after later home row
  index_row_stays home less row =
      sym (ap (λ (o : Option ClassName). option_map with_number (option_and_then (class_number later) o))
      (keeps.references home row.interface less)
      ∙ ap (option_map with_number) (number_named_stays (class_named before home row.interface)
      (reference_within home row.interface)))
    where
      with_number : ℕ → IndexRow
      with_number n = record { interface = n; indexes = row.indexes }

  interfaces_stay : (c : ClassName) → IsWithin before c
      → class_interfaces before names c ≡ class_interfaces after later c
  interfaces_stay c w =
      ap (λ rows. with_rows rows (option_and_then (class_number names) (superclass_of before c)))
      (ap (λ row. filter_map row (own_rows before c)) (fun_ext (index_row_stays (home_of c) w))
      ∙ ap (λ (o : Option ClassShape). filter_map (index_row after later (home_of c))
      (option_map_or (λ k. interface_rows k.body) o [])) (sym (keeps.classes c w)))
      ∙ ap (with_rows (filter_map (index_row after later (home_of c)) (own_rows after c)))
      (sym (ap (option_and_then (class_number later)) (keeps.superclasses c w)
      ∙ number_named_stays (superclass_of before c) (λ d e. above_within c d w e)))
    where
      with_rows : List IndexRow → Option ℕ → ClassInterfaces
      with_rows rows superclass = record { rows = rows; superclass = superclass }

  pub interface_rows_stay : (classes : List ClassInterfaces) → AreInterfaceRows before names classes
      → length classes ≡ length names → classes ≡ map (class_interfaces after later) (take (length classes) later)
  interface_rows_stay classes are count =
      are ∙ same_mapped _ _ names (λ n c at. interfaces_stay c (named_within n c at))
      ∙ ap (map (class_interfaces after later)) (sym (ap (λ n. take n later) count
      ∙ ap (take (length names)) (keeps_numbers before more).names
      ∙ take-append-le (length names) names (names_in (length before) more) (omega arith)
      ∙ take_all (length names) names (omega arith)))

  -- ---- methods

  module _ (ms grown_ms : List LoadedMethod) (k : ℕ) (home : length before ≡ suc k)
      (begins : take (length ms) grown_ms ≡ ms)
      (behind : (n : ℕ) (m : LoadedMethod) → length ms ≤ n → slice_get grown_ms n ≡ Some m → m.number ≡ k) where
    pub position_stays : (number offset : ℕ) → (number ≡ k → ⊥)
        → position (is_named number offset) grown_ms ≡ position (is_named number offset) ms
    position_stays number offset other = grind (arith, position_from-zero, place_stays, ne_eqb)

    loaded_stays : (number offset : ℕ) → IsMethodWithin before (Named.Loaded number offset)
        → position (is_named number offset) grown_ms ≡ position (is_named number offset) ms
    loaded_stays number offset w = grind (arith, position_stays)

    pub called_stays : (m : MethodName) → IsMethodWithin before m
        → called_of grown_ms (Some m) ≡ called_of ms (Some m)
    called_stays m w = grind (arith, loaded_stays)

    pub entry_stays : (is_static : Bool) (signature : Signature ClassName) (m : MethodName)
        → IsMethodWithin before m
        → method_entry grown_ms is_static signature m ≡ method_entry ms is_static signature m
    entry_stays is_static signature m w = grind (arith, loaded_stays)

    -- what may be found
    all_called : (o : Option MethodName) → ((m : MethodName) → o ≡ Some m → IsMethodWithin before m)
        → called_of grown_ms o ≡ called_of ms o
    all_called o within = grind (arith, called_stays)

    virtual_within : (c : ClassName) (token asker : ℕ) (m : MethodName)
        → virtual_method_of before c token asker ≡ Some m → IsMethodWithin before m
    virtual_within c token asker m e =
        let i = sound.virtual_methods.found c token asker m e in stand.methods m i.declared i.there

    virtual_stays : (c : ClassName) (token asker : ℕ) → IsWithin before c
        → called_of ms (virtual_method_of before c token asker)
        ≡ called_of grown_ms (virtual_method_of after c token asker)
    virtual_stays c token asker w = grind (arith, all_called, virtual_within)

    pub virtual_lists : (tables : List (List Called)) → length tables ≡ length names
        → AreCalled before ms names tables
        → AreListed (HasCalled after grown_ms 0 0 128) later (length tables) tables
    virtual_lists tables count are = grind (arith, names_before, virtual_stays, named_within)

    pub visible_lists : (lists : List (List KeyedTable)) → length lists ≡ length names
        → AreVisible before ms names lists
        → AreListed (HasVisible after grown_ms) later (length lists) lists
    visible_lists lists count are = record {
      count = refl;
      there = λ n c less at asker token low.
          let at_n = sym (names_before n (omega (arith, less, count))) ∙ at in
          let one : token ≡ package_visible + token - package_visible = omega arith in
          ap (λ i. unwrap_or (keyed_at lists n (home_at asker) i) Nothing) one
          ∙ are n (package_visible + token) asker c at_n (omega arith) (omega (arith, low))
          ∙ virtual_stays c (package_visible + token) (home_at asker) (named_within n c at_n);
    }
