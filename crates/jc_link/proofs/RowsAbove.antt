-- Rows that a class keeps, since the class above it keeps them and finds the same methods.
use Rattle.std.proofs.Common.{◌≡◌, ◌⊎◌, ℕ, zero, suc, ◌+◌, ◌-◌, ◌<◌, ◌≤◌, ◌&&◌, ◌||◌, not, Bool, true}
use Rattle.std.proofs.Common.{false, cond, List, [], ◌∷◌, length, take, get_or, Option, Some, None, refl, sym, ap, ◌∙◌}
use Rattle.std.proofs.Common.{arith, is_some, slice_get}
use Rattle.std.proofs.Math.Path.{fun_ext}
use Rattle.std.proofs.lemmas.Bool.{cases_lt, eqb-true, ltb-true}
use Rattle.std.specs.List.{find, list_any}
use Rattle.std.specs.Option.{option_and_then, option_map_or}
use Rattle.jc_cap.specs.ClassComponent.{is_class}
use Rattle.jc_cap_desc.specs.Shape.{ClassShape, MethodShape, Shape}
use Rattle.jc_classes.specs.Members.{name_of}
use Rattle.jc_classes.specs.Methods.{public_method_of}
use Rattle.jc_classes.specs.Walk.{most_classes}
use Rattle.jc_classes.specs.World.{class_at, class_named, superclass_of}
use Rattle.jc_names.specs.Names.{home_of, is_same_name}
use Rattle.jc_names.specs.declared.name.ClassName.{ClassName}
use Rattle.jc_names.specs.declared.name.MethodName.{MethodName}
use Rattle.jc_link.specs.Inherited.{ListedRow, breaks_interface, breaks_row, is_same_method, rows_along, rows_of}
use Rattle.jc_link.specs.MemberType.{have_same_type, member_type_of, method_type_of}
use Rattle.jc_link.specs.Named.{is_concrete}
use Rattle.jc_link.specs.PrivateRows.{is_finished_as, FindSame}
use Rattle.jc_link.specs.WellFormed.{is_bad, is_bad_class}
use Rattle.jc_link.proofs.Listed.{or_none}
use Rattle.jc_link.proofs.Nones.{true_false, left_false, right_false, left_true, right_true, then_false}
use Rattle.jc_link.proofs.Rows.{one_more, none_of_fewer}
use Rattle.jc_link.proofs.SameNames.{same_name}
use Rattle.jc_link.proofs.Superclasses.{all_left, one_less}

pub same_method : (one other : MethodName) → is_same_method one other ≡ true → one ≡ other
same_method one other h1 = grind (arith, eqb-true, left_true, right_true, true_false)

-- ---- two classes that find the same

module _ (world : List Shape) (c d : ClassName) where
  -- up to one more token
  pub same_so_far : (n : ℕ) → ((t : ℕ) → t < n → public_method_of world c t ≡ public_method_of world d t)
      → public_method_of world c n ≡ public_method_of world d n
      → (t : ℕ) → t < n + 1 → public_method_of world c t ≡ public_method_of world d t
  same_so_far n before here t less = by_order (cases_lt t n)
    where
      by_order : (t < n) ⊎ (n ≤ t) → public_method_of world c t ≡ public_method_of world d t
      by_order h1 = grind (arith, here)

  -- there are no public tokens behind these
  pub same_all : (n : ℕ) → 128 ≤ n → ((t : ℕ) → t < n → public_method_of world c t ≡ public_method_of world d t)
      → FindSame world c d
  same_all n most so_far t = grind (arith, ltb-true)

-- whether a row isn't kept where these are the public methods
abbrev breaks_with : List Shape → (ℕ → Option MethodName) → ListedRow → Bool
breaks_with world at r =
    list_any (λ index. not (option_map_or (is_concrete world) (at index) false)) r.row.indexes
    || option_map_or (λ i. option_map_or
    (λ k. list_any (λ (m : MethodShape). is_some (member_type_of world (home_of i) m.signature)
    && not (have_same_type (member_type_of world (home_of i) m.signature)
    (option_and_then (method_type_of world) (option_and_then at (slice_get r.row.indexes m.token))))) k.methods)
    (class_at world i) false) (class_named world r.home r.row.interface) false

breaks_same : (world : List Shape) (c d : ClassName) → FindSame world c d
    → (r : ListedRow) → breaks_row world c r ≡ breaks_row world d r
breaks_same world c d same r = ap (λ at. breaks_with world at r) (fun_ext same)

-- a class's own rows are all that are left to look at
pub own_are_all : (world : List Shape) (c d : ClassName) → superclass_of world c ≡ Some d
    → breaks_interface world d ≡ false → FindSame world c d
    → list_any (breaks_row world c) (rows_of world c) ≡ breaks_interface world c
own_are_all world c d up kept same =
    or_none (list_any (breaks_row world c) (rows_of world c))
    ∙ ap (λ x. list_any (breaks_row world c) (rows_of world c) || x) (sym rest)
    ∙ sym (one_more (breaks_row world c) world (most_classes - (0 + 1)) c _ (Some d) refl up)
    ∙ ap (λ n. list_any (breaks_row world c) (rows_along world n c)) (sym (one_less 0 (omega arith)) ∙ all_left)
  where
    rest : list_any (breaks_row world c) (rows_along world (most_classes - (0 + 1)) d) ≡ false
    rest =
        ap (λ p. list_any p (rows_along world (most_classes - (0 + 1)) d)) (fun_ext (breaks_same world c d same))
        ∙ none_of_fewer (breaks_row world d) world (most_classes - (0 + 1)) most_classes d (omega arith) kept

-- ---- classes that were looked at before

-- one that is well-formed keeps its rows
finished_keeps : (world : List Shape) (home : ℕ) (c : ClassName) (k : ClassShape) → is_bad_class world home k ≡ false
    → is_finished_as home c k ≡ true → breaks_interface world c ≡ false
finished_keeps world home c k fine is = by_name (name_of home k) fine is
  where
    by_name : (o : Option ClassName) → option_map_or (is_bad world home k) o true ≡ false
        → (option_map_or (is_same_name c) o false && is_class k.body && not k.is_abstract) ≡ true
        → breaks_interface world c ≡ false
    by_name o h1 h2 = grind (arith, true_false, left_true, not, right_true, right_false, same_name, then_false)

pub looked_at : (world : List Shape) (home : ℕ) (c : ClassName) (before : List ClassShape)
    → list_any (is_bad_class world home) before ≡ false → list_any (is_finished_as home c) before ≡ true
    → breaks_interface world c ≡ false
looked_at world home c [] fine among = true_false (sym among)
looked_at world home c (k ∷ before) fine among =
    by_test (is_finished_as home c k) refl among
    (looked_at world home c before
    (right_false (is_bad_class world home k) (list_any (is_bad_class world home) before) fine))
  where
    by_test : (b : Bool) → is_finished_as home c k ≡ b → (b || list_any (is_finished_as home c) before) ≡ true
        → (list_any (is_finished_as home c) before ≡ true → breaks_interface world c ≡ false)
        → breaks_interface world c ≡ false
    by_test b h1 h2 h3 = grind (arith, finished_keeps, left_false)

-- ---- the first of a list that passes a test

module _ {A : Type 0} (p : A → Bool) where
  pub here : (xs : List A) (i : ℕ) (x : A) → list_any p (take i xs) ≡ false → i < length xs
      → x ≡ get_or xs i x → p x ≡ true → Some x ≡ find p xs
  here [] i x so_far less is e = absurd (omega arith)
  here (y ∷ xs) zero x so_far less is e = grind arith
  here (y ∷ xs) (suc i) x so_far less is e =
      here xs i x (right_false (p y) (list_any p (take i xs)) so_far) (omega arith) is e
      ∙ sym (ap (λ b. cond b (Some y) (find p xs)) (left_false (p y) (list_any p (take i xs)) so_far))

  pub more : (xs : List A) (i : ℕ) (x : A) → list_any p (take i xs) ≡ false → i < length xs
      → x ≡ get_or xs i x → p x ≡ false → list_any p (take (i + 1) xs) ≡ false
  more [] i x so_far less is e = absurd (omega arith)
  more (y ∷ xs) zero x so_far less is e = ap (λ b. b || false) (ap p (sym is) ∙ e)
  more (y ∷ xs) (suc i) x so_far less is e =
      let on : suc i + 1 ≡ suc (i + 1) = omega arith in
      grind (
        arith,
        left_false (p y) (list_any p (take i xs)) so_far,
        more xs i x (right_false (p y) (list_any p (take i xs)) so_far) (omega arith) is e,
      )

  pub none : (xs : List A) (i : ℕ) → list_any p (take i xs) ≡ false → length xs ≤ i → None ≡ find p xs
  none [] i so_far past = refl
  none (y ∷ xs) zero so_far past = absurd (omega arith)
  none (y ∷ xs) (suc i) so_far past =
      none xs i (right_false (p y) (list_any p (take i xs)) so_far) (omega arith)
      ∙ sym (ap (λ b. cond b (Some y) (find p xs)) (left_false (p y) (list_any p (take i xs)) so_far))
