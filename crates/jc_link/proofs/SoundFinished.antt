-- Fit classes of which objects are made have a method in place of each abstract one, and of each of an interface.
use Rattle.std.proofs.Common.{◌≡◌, ℕ, zero, suc, ◌<◌, ◌≤◌, ◌&&◌, ◌||◌, Bool, true, false, not, List, [], ◌∷◌, ◌++◌, map, length, Option, Some, refl, ap, sym, ◌∙◌, arith, nat_lt, is_some, slice_get}
use Rattle.std.proofs.lemmas.Bool.{ltb-true, ltb-false}
use Rattle.std.specs.List.{list_any, range_with_len}
use Rattle.std.specs.Option.{IsSome, option_and_then, option_map_or}
use Rattle.jc_cap.specs.ClassComponent.{is_class}
use Rattle.jc_cap.specs.Interfaces.{Implemented}
use Rattle.jc_cap.specs.declared.record.RecordBody.{RecordBody}
use Rattle.jc_cap.specs.declared.record.RecordBody.TheVariants.{Interface, Class}
use Rattle.jc_cap_desc.specs.Shape.{ClassShape, MethodShape, Shape}
use Rattle.jc_classes.specs.Members.{DeclaredMethod}
use Rattle.jc_classes.specs.Methods.{indexes_visit, interface_visit, is_this, listing_visit, package_visible, public_method_of, row_for, virtual_method_of}
use Rattle.jc_classes.specs.Record.{interface_rows}
use Rattle.jc_classes.specs.Walk.{found, found_from, walk, most_classes}
use Rattle.jc_names.specs.Names.{home_of}
use Rattle.jc_classes.specs.World.{class_at, class_named, superclass_of}
use Rattle.jc_names.specs.declared.name.ClassName.{ClassName}
use Rattle.jc_names.specs.declared.name.MethodName.{MethodName}
use Rattle.jc_link.proofs.GrownParts.{some_of, the_some, none_some}
use Rattle.jc_link.proofs.Nones.{true_false, left_false, right_false, neither, then_false, not_false, there_some, none_at, none_found, none_in_range, found_passes}
use Rattle.jc_link.proofs.SameNames.{same_name}
use Rattle.jc_link.proofs.SameTypes.{there_when_agree}
use Rattle.jc_link.proofs.SoundMembers.{method_typed}
use Rattle.jc_link.proofs.SoundVirtual.{asked_alike, virtual_methods_hold}
use Rattle.jc_link.specs.Inherited.{ListedRow, public_tokens, package_tokens, is_abstract_at, leaves_at, leaves_package_abstract, leaves_abstract, rows_of, rows_along, misses, method_for, is_unimplemented, lacks_methods_of, breaks_row, breaks_interface}
use Rattle.jc_link.specs.MemberType.{have_same_type, member_type_of, method_type_of}
use Rattle.jc_link.specs.Named.{is_abstract_method, is_concrete}
use Rattle.jc_link.specs.PrivateFit.{AreFit}
use Rattle.jc_link.specs.Sound.{HaveSuperclasses, HasMethodOf, IsFinished}

-- ---- lists of which nothing passes

none_before : {A : Type 0} (p : A → Bool) (xs ys : List A) → list_any p (xs ++ ys) ≡ false → list_any p xs ≡ false
none_before p [] ys e = refl
none_before p (x ∷ xs) ys e = neither (p x) (list_any p xs) (left_false (p x) (list_any p (xs ++ ys)) e) (none_before p xs ys (right_false (p x) (list_any p (xs ++ ys)) e))

none_behind : {A : Type 0} (p : A → Bool) (xs ys : List A) → list_any p (xs ++ ys) ≡ false → list_any p ys ≡ false
none_behind p [] ys e = e
none_behind p (x ∷ xs) ys e = none_behind p xs ys (right_false (p x) (list_any p (xs ++ ys)) e)

none_of_mapped : {A B : Type 0} (p : B → Bool) (f : A → B) (xs : List A) → list_any p (map f xs) ≡ false → list_any (λ x. p (f x)) xs ≡ false
none_of_mapped p f [] e = refl
none_of_mapped p f (x ∷ xs) e =
    neither (p (f x)) (list_any (λ x. p (f x)) xs) (left_false (p (f x)) (list_any p (map f xs)) e) (none_of_mapped p f xs (right_false (p (f x)) (list_any p (map f xs)) e))

none_public : (p : ℕ → Bool) (token : ℕ) → token < 128 → list_any p public_tokens ≡ false → p token ≡ false
unfolding public_tokens
none_public p token less e = none_in_range p 0 128 token e (omega arith) (omega arith)

none_package : (p : ℕ → Bool) (token : ℕ) → 128 ≤ token → token < 256 → list_any p package_tokens ≡ false → p token ≡ false
unfolding package_tokens
none_package p token more less e = none_in_range p 128 128 token e more (omega arith)

-- ---- the row that a walk finds is one of those along it

module _ (world : List Shape) (interface : ClassName) (indexes : List ℕ) (p : ListedRow → Bool) where
  pub record IsRowFor : Type 0 where
    pub listed : ListedRow
    pub kept : p listed ≡ false
    pub names : class_named world listed.home listed.row.interface ≡ Some interface
    pub its : listed.row.indexes ≡ indexes

  abbrev listed_row : ℕ → Implemented → ListedRow
  listed_row home row = record { home = home; row = row }

  this_is : (o : Option ClassName) → is_this interface o ≡ true → o ≡ Some interface
  this_is o h1 = grind (arith, true_false, same_name)

  at_row : (home : ℕ) (rows : List Implemented) (above : Option (List ℕ)) (o : Option Implemented) → list_any (λ row. p (listed_row home row)) rows ≡ false
      → (above ≡ Some indexes → IsRowFor)
      → row_for world interface home rows ≡ o → found_from (indexes_visit o) above ≡ Some indexes → IsRowFor
  at_row home rows above o h1 h2 h3 h4 = grind (arith, none_found, this_is, found_passes, the_some)

  at_record : (home : ℕ) (above : Option (List ℕ)) (body : RecordBody) → list_any (λ row. p (listed_row home row)) (interface_rows body) ≡ false
      → (above ≡ Some indexes → IsRowFor)
      → found_from (listing_visit world interface home body) above ≡ Some indexes → IsRowFor
  at_record home above (Interface r) none rest e = absurd (none_some indexes e)
  at_record home above (Class r) none rest e = at_row home r.interfaces above (row_for world interface home r.interfaces) none rest refl e

  walk_row : (steps : ℕ) (c : ClassName) → list_any p (rows_along world steps c) ≡ false → walk (interface_visit world interface) world steps c ≡ Some indexes → IsRowFor
  walk_row zero c none e = absurd (none_some indexes e)
  walk_row (suc n) c none e = by_class c (λ d. walk_row n d) none e
    where
      by_class : (c : ClassName) → ((d : ClassName) → list_any p (rows_along world n d) ≡ false → walk (interface_visit world interface) world n d ≡ Some indexes → IsRowFor)
          → list_any p (rows_along world (suc n) c) ≡ false → walk (interface_visit world interface) world (suc n) c ≡ Some indexes → IsRowFor
      by_class c rest none e =
          let above : Option (List ℕ) = option_and_then (walk (interface_visit world interface) world n) (superclass_of world c) in
          let behind : List ListedRow = option_map_or (rows_along world n) (superclass_of world c) [] in
          let k = some_of (λ k. found_from (interface_visit world interface c k) above) (class_at world c) indexes e in
          let own : list_any p (map (listed_row (home_of c)) (interface_rows (k.0).body)) ≡ false
          = grind (arith, none_before) in
          at_record (home_of c) above (k.0).body (none_of_mapped p (listed_row (home_of c)) (interface_rows (k.0).body) own)
          (λ f.
          let d = some_of (walk (interface_visit world interface) world n) (superclass_of world c) indexes f in
          rest d.0 (sym (ap (λ o. list_any p (option_map_or (rows_along world n) o [])) d.1) ∙ none_behind p (rows_of world c) behind none) d.2)
          k.2

-- ---- methods of a row

-- a method that is found and is concrete
concrete_at : (world : List Shape) (o : Option MethodName) (m : MethodName) → o ≡ Some m → not (option_map_or (is_concrete world) o false) ≡ false → is_concrete world m ≡ true
concrete_at world o m e kept = sym (ap (λ o. option_map_or (is_concrete world) o false) e) ∙ not_false (option_map_or (is_concrete world) o false) kept

module _ (world : List Shape) (c interface : ClassName) (indexes : List ℕ) (row : MethodShape) where
  has_method_of : found (interface_visit world interface) world c ≡ Some indexes → list_any (misses world c) indexes ≡ false
      → IsSome (member_type_of world (home_of interface) row.signature) → is_unimplemented world c indexes (home_of interface) row ≡ false → HasMethodOf world c interface row
  has_method_of at kept typed fine =
      let type = member_type_of world (home_of interface) row.signature in
      let other = option_and_then (method_type_of world) (method_for world c indexes row.token) in
      let same = not_false (have_same_type type other) (then_false (is_some type) (not (have_same_type type other)) fine typed) in
      let both = there_when_agree type other same in
      let m = some_of (method_type_of world) (method_for world c indexes row.token) both.0 both.2 in
      let index = some_of (public_method_of world c) (slice_get indexes row.token) m.0 m.1 in
      record {
        method = m.0;
        found = ap (option_and_then (λ indexes. option_and_then (public_method_of world c) (slice_get indexes row.token))) at ∙ m.1;
        concrete = concrete_at world (public_method_of world c index.0) m.0 index.2 (none_at (misses world c) indexes row.token index.0 kept index.1);
        type = m.2 ∙ sym both.1;
      }

-- ---- classes of which objects are made

module _ (world : List Shape) (supers : HaveSuperclasses world) (fit : AreFit world) (c : ClassName) (k : ClassShape)
    (at : class_at world c ≡ Some k) (is : is_class k.body ≡ true) (made : k.is_abstract ≡ false) where
  nothing_left : (leaves_abstract world c || breaks_interface world c) ≡ false
  nothing_left =
      then_false (is_class k.body && not k.is_abstract) (leaves_abstract world c || breaks_interface world c) (fit c k at).finished
      (ap (λ b. b && not k.is_abstract) is ∙ ap not made)

  none_left_abstract : leaves_abstract world c ≡ false
  none_left_abstract = left_false (leaves_abstract world c) (breaks_interface world c) nothing_left

  none_broken : breaks_interface world c ≡ false
  none_broken = right_false (leaves_abstract world c) (breaks_interface world c) nothing_left

  none_public_left : list_any (leaves_at world c 0) public_tokens ≡ false
  none_public_left = grind (arith, left_false, none_left_abstract)

  not_left : (token asker : ℕ) (m : MethodName) → virtual_method_of world c token asker ≡ Some m → leaves_at world c asker token ≡ false → is_concrete world m ≡ true
  not_left token asker m e left =
      let d = (virtual_methods_hold world supers fit).found c token asker m e in
      let whole : is_abstract_at world m ≡ false = sym (ap (λ o. option_map_or (is_abstract_at world) o false) e) ∙ left in
      let its : is_abstract_method (d.declared).method ≡ false = grind arith in
      ap (λ (o : Option DeclaredMethod). option_map_or (λ d. not (is_abstract_method d.method)) o false) d.there ∙ ap not its

  all_concrete : (token asker : ℕ) (m : MethodName) → token < 256 → asker < length world → virtual_method_of world c token asker ≡ Some m → is_concrete world m ≡ true
  all_concrete token asker m less within e =
      by_token (nat_lt token package_visible) refl (ltb-true token package_visible) (ltb-false token package_visible)
    where
      by_token : (b : Bool) → nat_lt token package_visible ≡ b → (b ≡ true → token < package_visible) → (b ≡ false → package_visible ≤ token) → is_concrete world m ≡ true
      by_token true low h l =
          not_left token 0 m (asked_alike world 0 asker token c low ∙ e)
          (none_public (leaves_at world c 0) token (h refl) none_public_left)
      by_token false low h l =
          not_left token asker m e
          (none_package (leaves_at world c asker) token (l refl) less
          (none_in_range (leaves_package_abstract world c) 0 (length world) asker
          (right_false (list_any (leaves_at world c 0) public_tokens) (list_any (leaves_package_abstract world c) (range_with_len 0 (length world))) none_left_abstract)
          (omega arith) (omega (arith, within))))

  all_implemented : (interface : ClassName) (l : ClassShape) (n : ℕ) (row : MethodShape) → IsSome (found (interface_visit world interface) world c)
      → class_at world interface ≡ Some l → slice_get l.methods n ≡ Some row → HasMethodOf world c interface row
  all_implemented interface l n row some there here =
      let indexes = there_some (found (interface_visit world interface) world c) some in
      let r = walk_row world interface indexes.0 (breaks_row world c) most_classes c none_broken indexes.1 in
      let its = (r.listed).row.indexes in
      let misses_none : list_any (misses world c) its ≡ false = left_false (list_any (misses world c) its) _ r.kept in
      let lacks_none : lacks_methods_of world c its interface ≡ false = grind (arith, right_false) in
      let rows : list_any (is_unimplemented world c its (home_of interface)) l.methods ≡ false = grind arith in
      has_method_of world c interface its row (indexes.1 ∙ ap Some (sym r.its)) misses_none (method_typed world interface l (fit interface l there) row n here)
      (none_at (is_unimplemented world c its (home_of interface)) l.methods n row rows here)

  finished : IsFinished world c
  finished = record { concrete = all_concrete; interfaces = all_implemented }

pub finished_hold : (world : List Shape) → HaveSuperclasses world → AreFit world
    → (c : ClassName) (k : ClassShape) → class_at world c ≡ Some k → is_class k.body ≡ true → k.is_abstract ≡ false → IsFinished world c
finished_hold world supers fit c k at is made = finished world supers fit c k at is made
