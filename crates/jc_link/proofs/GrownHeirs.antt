-- A package behind the others changes nothing of what the classes before it inherit, so that each package is as well-formed as it
-- was.
use Rattle.std.proofs.Common.{◌≡◌, ℕ, zero, suc, ◌+◌, ◌-◌, ◌<◌, ◌≤◌, Bool, false, not, cond, ◌||◌, List, [], ◌∷◌, ◌++◌, map, length, take, Option, Some, None, refl, sym, ap, ◌∙◌, arith, nat_lt, slice_get}
use Rattle.std.proofs.lemmas.Bool.{le-ltb, ne_eqb}
use Rattle.std.proofs.lemmas.List.{take-append-le}
use Rattle.std.proofs.lemmas.List.Folds.{list_any-append}
use Rattle.std.specs.List.{list_any, range_with_len}
use Rattle.std.specs.Option.{option_and_then, option_map_or}
use Rattle.jc_cap.specs.Interfaces.{Implemented}
use Rattle.jc_cap.specs.declared.record.RecordBody.{RecordBody}
use Rattle.jc_cap_desc.specs.Shape.{ClassShape, MethodShape, Package, Shape}
use Rattle.jc_classes.specs.Growth.{grown, IsMethodWithin, IsWithin, KeepsLookups}
use Rattle.jc_classes.specs.Members.{DeclaredMethod}
use Rattle.jc_classes.specs.Methods.{package_visible, public_method_of, record_visit, virtual_method_of, virtual_visit}
use Rattle.jc_classes.specs.Record.{interface_rows}
use Rattle.jc_classes.specs.Walk.{found_from, most_classes, walk}
use Rattle.jc_names.specs.Names.{home_of}
use Rattle.jc_classes.specs.World.{class_at, superclass_of}
use Rattle.jc_names.specs.declared.name.ClassName.{ClassName}
use Rattle.jc_names.specs.declared.name.MethodName.{MethodName}
use Rattle.jc_link.proofs.GrownParts.{some_of, chosen_of, then_same, or_same, any_same, find_same, either_same}
use Rattle.jc_link.proofs.GrownWithin.{class_home, named_within, superclass_within, virtual_within, by_other}
use Rattle.jc_link.proofs.GrownNames.{member_type_stays, method_stays, method_type_stays, concrete_stays, above_stays, above_within, names_stay, targets_stay}
use Rattle.jc_link.proofs.GrownClasses.{unmet_stays, unresolved_stays, mistyped_stays, bad_alone_stays}
use Rattle.jc_link.proofs.Tokens.{all_package}
use Rattle.jc_link.specs.Growth.{HasApi, KeepsLinking}
use Rattle.jc_link.specs.Imports.{is_there_already}
use Rattle.jc_link.specs.Inherited.{package_tokens, virtual_tokens, loses_at, loses_method, is_other_type, retypes_at, overrides_with_another_type, is_abstract_at, leaves_at, leaves_package_abstract, leaves_abstract, ListedRow, rows_of, rows_along, misses, method_for, is_unimplemented, lacks_methods_of, breaks_row, breaks_interface, is_unfinished}
use Rattle.jc_link.specs.MemberType.{method_type_of}
use Rattle.jc_link.specs.Named.{is_abstract_method, is_concrete, method_above}
use Rattle.jc_link.specs.WellFormed.{is_bad_heir, is_bad_class, first_bad_class, linking_fault}

-- ---- a package without classes of a chain finds no package-visible method there

none_then : {A B : Type 0} (f : A → Option B) (o : Option A) → ((a : A) → o ≡ Some a → f a ≡ None) → option_and_then f o ≡ None
none_then f o h1 = grind arith

-- no number from one on passes
none_from : (test : ℕ → Bool) (least : ℕ) → ((token : ℕ) → least ≤ token → test token ≡ false) → (n from : ℕ) → least ≤ from → list_any test (range_with_len from n) ≡ false
none_from test least h zero from l = refl
none_from test least h (suc n) from l = grind (arith, none_from test least h n (from + 1) (omega arith))

-- the last number doesn't pass
one_more : (test : ℕ → Bool) (n from last : ℕ) → from + n ≡ last → test last ≡ false → list_any test (range_with_len from (suc n)) ≡ list_any test (range_with_len from n)
one_more test zero from last e h = let same : from ≡ last = omega (arith, e) in ap (λ b. b || false) (ap test same ∙ h)
one_more test (suc n) from last e h = ap (λ b. test from || b) (one_more test n (from + 1) last (omega (arith, e)) h)

pub length_more : {A : Type 0} (xs : List A) (y : A) → length (xs ++ y ∷ []) ≡ suc (length xs)
length_more [] y = refl
length_more (x ∷ xs) y = ap suc (length_more xs y)

module _ (world : List Shape) (asker token : ℕ) (far : length world ≤ asker) (visible : 128 ≤ token) where
  passed : (home : ℕ) (body : RecordBody) (above : Option MethodName) → home < length world → above ≡ None → found_from (record_visit world asker token home body) above ≡ None
  passed home body above h1 h2 = grind (arith, by_other, le-ltb, ne_eqb)

  none_walked : (steps : ℕ) (c : ClassName) → IsWithin world c → walk (virtual_visit world asker token) world steps c ≡ None
  none_walked zero c h = refl
  none_walked (suc steps) c h =
      let above : Option MethodName = option_and_then (walk (virtual_visit world asker token) world steps) (superclass_of world c) in
      none_then (λ k. found_from (virtual_visit world asker token c k) above) (class_at world c)
      (λ k e. passed (home_of c) k.body above h
      (none_then (walk (virtual_visit world asker token) world steps) (superclass_of world c) (λ d f. none_walked steps d (superclass_within world c d h f))))

  nothing_left : (c : ClassName) → IsWithin world c → leaves_at world c asker token ≡ false
  nothing_left c h = ap (λ (o : Option MethodName). option_map_or (is_abstract_at world) o false) (none_walked most_classes c h)

nothing_left_far : (world : List Shape) (c : ClassName) → IsWithin world c → leaves_package_abstract world c (length world) ≡ false
nothing_left_far world c h =
    sym (ap (list_any (leaves_at world c (length world))) all_package)
    ∙ none_from (leaves_at world c (length world)) 128 (λ token l. nothing_left world (length world) token (omega arith) l c h) (256 - 128) 128 (omega arith)

-- ---- rows

any_above : (f g : ListedRow → Bool) (rows : ClassName → List ListedRow) (o : Option ClassName)
    → ((d : ClassName) → o ≡ Some d → list_any f (rows d) ≡ list_any g (rows d)) → list_any f (option_map_or rows o []) ≡ list_any g (option_map_or rows o [])
any_above f g rows o h1 = grind arith

module _ (world : List Shape) (f g : ListedRow → Bool) (one : (r : ListedRow) → r.home < length world → f r ≡ g r) where
  any_listed : (c : ClassName) (rows : List Implemented) → IsWithin world c
      → list_any f (map (λ row. record { home = home_of c; row = row }) rows) ≡ list_any g (map (λ row. record { home = home_of c; row = row }) rows)
  any_listed c [] h = refl
  any_listed c (row ∷ rows) h = either_same _ _ _ _ (one (record { home = home_of c; row = row }) h) (any_listed c rows h)

  any_own : (c : ClassName) (o : Option ClassShape) → IsWithin world c
      → list_any f (option_map_or (λ k. map (λ row. record { home = home_of c; row = row }) (interface_rows k.body)) o [])
      ≡ list_any g (option_map_or (λ k. map (λ row. record { home = home_of c; row = row }) (interface_rows k.body)) o [])
  any_own c o h1 = grind (arith, any_listed)

  any_along : (n : ℕ) (c : ClassName) → IsWithin world c → list_any f (rows_along world n c) ≡ list_any g (rows_along world n c)
  any_along zero c h = refl
  any_along (suc n) c h =
      let above : List ListedRow = option_map_or (rows_along world n) (superclass_of world c) [] in
      list_any-append f (rows_of world c) above
      ∙ either_same (list_any f (rows_of world c)) (list_any f above) (list_any g (rows_of world c)) (list_any g above) (any_own c (class_at world c) h)
      (any_above f g (rows_along world n) (superclass_of world c) (λ d e. any_along n d (superclass_within world c d h e)))
      ∙ sym (list_any-append g (rows_of world c) above)

module _ (world : List Shape) (more : Shape) (keeps : KeepsLookups world more) (api : HasApi world) where
  -- ---- methods that are lost, or have another type

  loses_at_stays : (home token : ℕ) (c : ClassName) → IsWithin world c → loses_at (grown world more) home c token ≡ loses_at world home c token
  loses_at_stays home token c h = grind (arith, not, above_stays)

  pub loses_stays : (home : ℕ) (c : ClassName) → IsWithin world c → loses_method (grown world more) home c ≡ loses_method world home c
  loses_stays home c h = any_same (loses_at (grown world more) home c) (loses_at world home c) (λ token. loses_at_stays home token c h) virtual_tokens

  other_type_stays : (m above : MethodName) → IsMethodWithin world m → IsMethodWithin world above → is_other_type (grown world more) m above ≡ is_other_type world m above
  other_type_stays m above h l = grind (arith, not, method_type_stays)

  retypes_at_stays : (home token : ℕ) (c : ClassName) → IsWithin world c → retypes_at (grown world more) home c token ≡ retypes_at world home c token
  retypes_at_stays home token c h =
      ap (λ (o : Option MethodName). option_map_or (λ m. option_map_or (is_other_type (grown world more) m) (method_above (grown world more) home token c) false) o false) (keeps.virtual_methods c token home h)
      ∙ ap (λ (o : Option MethodName). option_map_or (λ m. option_map_or (is_other_type (grown world more) m) o false) (virtual_method_of world c token home) false) (above_stays world more keeps home token c h)
      ∙ or_same (λ m. option_map_or (is_other_type (grown world more) m) (method_above world home token c) false) (λ m. option_map_or (is_other_type world m) (method_above world home token c) false) false (virtual_method_of world c token home)
      (λ m e. or_same (is_other_type (grown world more) m) (is_other_type world m) false (method_above world home token c)
      (λ above f. other_type_stays m above (virtual_within world c token home m api h e) (above_within world more keeps home token c above api h f)))

  pub overrides_stay : (home : ℕ) (c : ClassName) → IsWithin world c → overrides_with_another_type (grown world more) home c ≡ overrides_with_another_type world home c
  overrides_stay home c h = any_same (retypes_at (grown world more) home c) (retypes_at world home c) (λ token. retypes_at_stays home token c h) virtual_tokens

  -- ---- methods that are left abstract

  abstract_stays : (m : MethodName) → IsMethodWithin world m → is_abstract_at (grown world more) m ≡ is_abstract_at world m
  abstract_stays m h = ap (λ (o : Option DeclaredMethod). option_map_or (λ d. is_abstract_method d.method) o false) (method_stays world more keeps m h)

  leaves_at_stays : (c : ClassName) (asker token : ℕ) → IsWithin world c → leaves_at (grown world more) c asker token ≡ leaves_at world c asker token
  leaves_at_stays c asker token h =
      ap (λ (o : Option MethodName). option_map_or (is_abstract_at (grown world more)) o false) (keeps.virtual_methods c token asker h)
      ∙ or_same (is_abstract_at (grown world more)) (is_abstract_at world) false (virtual_method_of world c token asker) (λ m e. abstract_stays m (virtual_within world c token asker m api h e))

  leaves_package_stays : (c : ClassName) (asker : ℕ) → IsWithin world c → leaves_package_abstract (grown world more) c asker ≡ leaves_package_abstract world c asker
  leaves_package_stays c asker h = any_same (leaves_at (grown world more) c asker) (leaves_at world c asker) (λ token. leaves_at_stays c asker token h) package_tokens

  -- the place of the package behind the others is one asker more
  askers_stay : (c : ClassName) → IsWithin world c
      → list_any (leaves_package_abstract (grown world more) c) (range_with_len 0 (length (grown world more))) ≡ list_any (leaves_package_abstract world c) (range_with_len 0 (length world))
  askers_stay c h =
      ap (λ n. list_any (leaves_package_abstract (grown world more) c) (range_with_len 0 n)) (length_more world more)
      ∙ any_same (leaves_package_abstract (grown world more) c) (leaves_package_abstract world c) (λ asker. leaves_package_stays c asker h) (range_with_len 0 (suc (length world)))
      ∙ one_more (leaves_package_abstract world c) (length world) 0 (length world) (omega arith) (nothing_left_far world c h)

  leaves_stays : (c : ClassName) → IsWithin world c → leaves_abstract (grown world more) c ≡ leaves_abstract world c
  leaves_stays c h = grind (arith, either_same, any_same, leaves_at_stays, askers_stay)

  -- ---- interfaces

  own_rows_stay : (c : ClassName) → IsWithin world c → rows_of (grown world more) c ≡ rows_of world c
  own_rows_stay c h = ap (λ (o : Option ClassShape). option_map_or (λ k. map (λ row. record { home = home_of c; row = row }) (interface_rows k.body)) o []) (keeps.classes c h)

  rows_stay : (n : ℕ) (c : ClassName) → IsWithin world c → rows_along (grown world more) n c ≡ rows_along world n c
  rows_stay zero c h = refl
  rows_stay (suc n) c h =
      ap (λ (rows : List ListedRow). rows ++ option_map_or (rows_along (grown world more) n) (superclass_of (grown world more) c) []) (own_rows_stay c h)
      ∙ ap (λ (rows : List ListedRow). rows_of world c ++ rows)
      (ap (λ (o : Option ClassName). option_map_or (rows_along (grown world more) n) o []) (keeps.superclasses c h)
      ∙ or_same (rows_along (grown world more) n) (rows_along world n) [] (superclass_of world c) (λ d e. rows_stay n d (superclass_within world c d h e)))

  public_stays : (c : ClassName) (token : ℕ) → IsWithin world c → public_method_of (grown world more) c token ≡ public_method_of world c token
  public_stays c token h = ap (λ (o : Option MethodName). cond (nat_lt token package_visible) o None) (keeps.virtual_methods c token 0 h)

  public_within : (c : ClassName) (token : ℕ) (m : MethodName) → IsWithin world c → public_method_of world c token ≡ Some m → IsMethodWithin world m
  public_within c token m h e = virtual_within world c token 0 m api h (chosen_of (nat_lt token package_visible) (virtual_method_of world c token 0) m e)

  misses_stays : (c : ClassName) (index : ℕ) → IsWithin world c → misses (grown world more) c index ≡ misses world c index
  misses_stays c index h =
      ap not
      (ap (λ (o : Option MethodName). option_map_or (is_concrete (grown world more)) o false) (public_stays c index h)
      ∙ or_same (is_concrete (grown world more)) (is_concrete world) false (public_method_of world c index) (λ m e. concrete_stays world more keeps m (public_within c index m h e)))

  type_for_stays : (c : ClassName) (indexes : List ℕ) (token : ℕ) → IsWithin world c
      → option_and_then (method_type_of (grown world more)) (method_for (grown world more) c indexes token) ≡ option_and_then (method_type_of world) (method_for world c indexes token)
  type_for_stays c indexes token h =
      ap (option_and_then (method_type_of (grown world more))) (then_same (public_method_of (grown world more) c) (public_method_of world c) (slice_get indexes token) (λ index e. public_stays c index h))
      ∙ then_same (method_type_of (grown world more)) (method_type_of world) (method_for world c indexes token)
      (λ m e. let a = some_of (public_method_of world c) (slice_get indexes token) m e in method_type_stays world more keeps m (public_within c a.0 m h a.2))

  unimplemented_stays : (c : ClassName) (indexes : List ℕ) (home : ℕ) (m : MethodShape) → IsWithin world c → home < length world
      → is_unimplemented (grown world more) c indexes home m ≡ is_unimplemented world c indexes home m
  unimplemented_stays c indexes home m h l = grind (arith, not, member_type_stays, type_for_stays)

  lacks_stays : (c : ClassName) (indexes : List ℕ) (interface : ClassName) → IsWithin world c → IsWithin world interface
      → lacks_methods_of (grown world more) c indexes interface ≡ lacks_methods_of world c indexes interface
  lacks_stays c indexes interface h l = grind (arith, or_same, any_same, unimplemented_stays)

  row_stays : (c : ClassName) (r : ListedRow) → IsWithin world c → r.home < length world → breaks_row (grown world more) c r ≡ breaks_row world c r
  row_stays c r h l = grind (arith, either_same, any_same, misses_stays, or_same, lacks_stays, named_within)

  breaks_stays : (c : ClassName) → IsWithin world c → breaks_interface (grown world more) c ≡ breaks_interface world c
  breaks_stays c h = grind (arith, rows_stay, any_along, row_stays)

  -- ---- classes and packages

  pub unfinished_stays : (c : ClassName) (k : ClassShape) → IsWithin world c → is_unfinished (grown world more) c k ≡ is_unfinished world c k
  unfinished_stays c k h = grind (arith, not, either_same, leaves_stays, breaks_stays)

  bad_heir_stays : (home : ℕ) (c : ClassName) (k : ClassShape) → IsWithin world c → is_bad_heir (grown world more) home c k ≡ is_bad_heir world home c k
  bad_heir_stays home c k h = grind (arith, loses_stays, overrides_stay, unfinished_stays)

  bad_class_stays : (home : ℕ) (k : ClassShape) → home < length world → is_bad_class (grown world more) home k ≡ is_bad_class world home k
  bad_class_stays home k h = grind (arith, or_same, class_home, either_same, bad_alone_stays, bad_heir_stays)

  bad_classes_stay : (home : ℕ) (shape : Shape) → home < length world → first_bad_class (grown world more) home shape ≡ first_bad_class world home shape
  bad_classes_stay home shape h = grind (arith, find_same, bad_class_stays)

  there_stays : (home : ℕ) (shape : Shape) → home < length world → is_there_already (take home (grown world more)) shape ≡ is_there_already (take home world) shape
  there_stays home shape h = ap (λ (before : List Shape). is_there_already before shape) (take-append-le home world (more ∷ []) (omega arith))

  pub faults_stay : (home : ℕ) (p : Package) → home < length world → linking_fault (grown world more) home p ≡ linking_fault world home p
  faults_stay home p h = grind (arith, unmet_stays, unresolved_stays, mistyped_stays, bad_classes_stay, there_stays)

pub linking_stays : (world : List Shape) (more : Shape) → KeepsLookups world more → KeepsLinking world more
linking_stays world more keeps = grind (arith, member_type_stays, names_stay, targets_stay, faults_stay)
