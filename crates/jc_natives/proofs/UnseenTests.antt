-- Tests of arguments come to the same where objects are alike.
use Rattle.std.proofs.Common.{◌≡◌, ℕ, Bool, true, false, List, [], ◌∷◌, length, Option, Some, None, arith}
use Rattle.std.proofs.Common.{refl, ap, ◌∙◌, slice_get}
use Rattle.std.specs.Prelude.{⊤}
use Rattle.std.specs.Option.{option_and_then, option_map, option_map_or}
use Rattle.jc_link.specs.Linked.{World}
use Rattle.jc_machine.specs.Machine.{NativeCall}
use Rattle.jc_machine.specs.Runtime.{null_pointer_exception}
use Rattle.jc_machine.specs.Unseen.{AreAlike, with_objects}
use Rattle.jc_machine.proofs.AlikeLaws.{AlikeAt, as_cells, at_alike, with_cells}
use Rattle.jc_natives.proofs.UnseenReads.{and_then_both}
use Rattle.jc_natives.specs.Checks.{CallsOtherAid, Check, Checked, HasRange, Passed, TestEnd, Uses}
use Rattle.jc_natives.specs.Checks.{UsesUnlessNull, are_aids, calls_other, followed, goes_on, in_range}
use Rattle.jc_natives.specs.Checks.{is_aid_object, is_aid_value, is_in_range, is_range_in, judged, passed, refused}
use Rattle.jc_natives.specs.Checks.{test}
use Rattle.jc_natives.specs.Checks.{tested, unfit, uses, uses_value}
use Rattle.jc_natives.specs.Cells.{extended, is_within}
use Rattle.jc_natives.specs.Kept.{Kept}
use Rattle.jc_natives.specs.Taking.{Called, aid_in, as_reference, called, on_length, on_word}
use Rattle.jc_natives.specs.declared.row.Length.{Length}
use Rattle.jc_natives.specs.declared.row.Length.TheVariants as lengths
use Rattle.jc_natives.specs.declared.row.Use.{Use}
use Rattle.jc_natives.specs.declared.row.Use.TheVariants.{Calls}
use Rattle.jc_store.specs.Heap.{Heap, Object, object_at}
use Rattle.jc_words.specs.Values.{Null, Ref, TaggedValue, Unset, Word}

pub followed_same : (a b c : Checked) → (a.ends ≡ Passed → b ≡ c) → followed a b ≡ followed a c
followed_same a b c same = by_end a.ends same
  where
    by_end : (e : TestEnd) → (e ≡ Passed → b ≡ c) → goes_on a.touches e b ≡ goes_on a.touches e c
    by_end e h1 = grind arith

pub followed_passed : (a b : Checked) → (followed a b).ends ≡ Passed → (a.ends ≡ Passed) × (b.ends ≡ Passed)
followed_passed a b e = by_end a.ends refl e
  where
    by_end : (x : TestEnd) → a.ends ≡ x → (goes_on a.touches x b).ends ≡ Passed → (a.ends ≡ Passed) × (b.ends ≡ Passed)
    by_end x h1 h2 = grind arith

module _ (context : ℕ) (w : World) (call : NativeCall Kept) (K : Heap TaggedValue)
    (alike : AreAlike context call.heap K) where
  abbrev H : Heap TaggedValue
  H = call.heap

  abbrev h : Called
  h = called w call

  abbrev k : Called
  k = called w (with_objects call K)

  pub any_objects : {A : Type 0} (n : ℕ) (f g : Option (Object TaggedValue) → A) → f None ≡ g None
      → ((o : Object TaggedValue) (cells : List TaggedValue) → length o.cells ≡ length cells
      → f (Some o) ≡ g (Some (with_cells o cells))) → f (object_at H n) ≡ g (object_at K n)
  any_objects n f g none some = by_objects (object_at H n) (object_at K n) (at_alike context H K alike n)
    where
      by_objects : (x y : Option (Object TaggedValue)) → AlikeAt context x y → f x ≡ g y
      by_objects x y h1 = grind (arith, as_cells)

  pub uses_same : (place : ℕ) (way : Use) (null : Checked) → uses h place way null ≡ uses k place way null
  uses_same place way null = by_argument (slice_get call.arguments place)
    where
      by_argument : (a : Option TaggedValue)
          → option_map_or (uses_value h way null) a unfit ≡ option_map_or (uses_value k way null) a unfit
      by_argument None = refl
      by_argument (Some (Word m)) = refl
      by_argument (Some (Ref m)) =
          any_objects m (λ x. option_map_or (judged h way m) x unfit) (λ x. option_map_or (judged k way m) x unfit) refl
          (λ o cells e. refl)
      by_argument (Some Null) = refl
      by_argument (Some Unset) = refl

  aid_value_same : (a : Option TaggedValue) → option_and_then (is_aid_value h) a ≡ option_and_then (is_aid_value k) a
  aid_value_same None = refl
  aid_value_same (Some (Word m)) = refl
  aid_value_same (Some (Ref m)) =
      any_objects m (option_map (is_aid_object h)) (option_map (is_aid_object k)) refl (λ o cells e. refl)
  aid_value_same (Some Null) = refl
  aid_value_same (Some Unset) = refl

  pub aids_same : are_aids h ≡ are_aids k
  aids_same = grind (arith, and_then_both, aid_value_same)

  -- what an AID's length is read of is the same
  abbrev pub LengthReads : Length → Type 0
  LengthReads (lengths.ShortAt place) = ⊤
  LengthReads (lengths.ByteAt place) = ⊤
  LengthReads (lengths.Fixed count) = ⊤
  LengthReads (lengths.OfAid place) =
      (n : ℕ) → option_and_then as_reference (slice_get call.arguments place) ≡ Some n → object_at H n ≡ object_at K n

  abbrev pub TestReads : Check → Type 0
  TestReads (Uses place way) = ⊤
  TestReads (UsesUnlessNull place way) = ⊤
  TestReads CallsOtherAid = ⊤
  TestReads (HasRange array offset count) = LengthReads count

  abbrev pub TestsRead : List Check → Type 0
  TestsRead [] = ⊤
  TestsRead (t ∷ ts) = TestReads t × ((test h t).ends ≡ Passed → TestsRead ts)

  module _ (aid_same : (n : ℕ) → object_at H n ≡ object_at K n → aid_in H n ≡ aid_in K n) where
    pub length_both : {A : Type 0} (count : Length) → LengthReads count → (f g : ℕ → Option A)
        → ((n : ℕ) → f n ≡ g n) → on_length h count f ≡ on_length k count g
    length_both (lengths.ShortAt place) reads f g same = and_then_both _ _ f g refl (λ x e. same x)
    length_both (lengths.ByteAt place) reads f g same = and_then_both _ _ _ _ refl (λ x e. same (extended x))
    length_both (lengths.Fixed count) reads f g same = same count
    length_both (lengths.OfAid place) reads f g same = search (arith, and_then_both)

    range_in_same : (number offset : ℕ) (count : Length) → LengthReads count
        → is_range_in h number offset count ≡ is_range_in k number offset count
    range_in_same number offset count reads =
        any_objects number
        (option_and_then (λ (object : Object TaggedValue). on_word h offset (λ from. on_length h count (λ n.
        Some (is_within (length object.cells) from n)))))
        (option_and_then (λ (object : Object TaggedValue). on_word k offset (λ from. on_length k count (λ n.
        Some (is_within (length object.cells) from n))))) refl
        (λ o cells e. and_then_both _ _ _ _ refl (λ from f.
        length_both count reads _ _ (λ n. ap (λ (size : ℕ). Some (is_within size from n)) e)))

    in_range_same : (array offset : ℕ) (count : Length) → LengthReads count
        → is_in_range h array offset count ≡ is_in_range k array offset count
    in_range_same array offset count reads = grind (arith, and_then_both, range_in_same)

    test_same : (t : Check) → TestReads t → test h t ≡ test k t
    test_same (Uses place way) reads = uses_same place way (refused null_pointer_exception)
    test_same (UsesUnlessNull place way) reads = uses_same place way passed
    test_same CallsOtherAid reads =
        ap (λ (o : Option Bool). option_map_or (calls_other h) o unfit) aids_same ∙ by_aids (are_aids k)
      where
        by_aids : (o : Option Bool) → option_map_or (calls_other h) o unfit ≡ option_map_or (calls_other k) o unfit
        by_aids None = refl
        by_aids (Some true) = uses_same 1 Calls (refused null_pointer_exception)
        by_aids (Some false) = refl
    test_same (HasRange array offset count) reads =
        ap (λ (o : Option Bool). option_map_or in_range o unfit) (in_range_same array offset count reads)

    pub tested_same : (ts : List Check) → TestsRead ts → tested h ts ≡ tested k ts
    tested_same [] reads = refl
    tested_same (t ∷ ts) reads =
        followed_same (test h t) (tested h ts) (tested k ts) (λ e. tested_same ts (reads.1 e))
        ∙ ap (λ (a : Checked). followed a (tested k ts)) (test_same t reads.0)
