-- Of a call that fits no member is stuck: so it answers what it answers on words without tags.
use Rattle.std.specs.Prelude.{⊤}
use Rattle.std.proofs.Common.{◌≡◌, ℕ, zero, suc, ◌==◌, ◌&&◌, Bool, true, false, cond, List, [], ◌∷◌, arith}
use Rattle.std.proofs.Common.{is_some, map, slice_get, Option, Some, refl, sym, ap, subst, ◌∙◌}
use Rattle.std.proofs.lemmas.Bool.{eq-eqb}
use Rattle.std.proofs.lemmas.Option.{none-some, same_Some}
use Rattle.std.specs.List.{AllByRecursion, list_all}
use Rattle.std.specs.Option.{option_and_then, option_map_or}
use Rattle.jc_api.specs.declared.class.ApiClass.TheVariants as api
use Rattle.jc_firewall.specs.declared.access.Verdict.{Verdict}
use Rattle.jc_machine.specs.Lookup.{is_of_class, leads_to}
use Rattle.jc_names.specs.declared.name.ClassName.{ClassName}
use Rattle.jc_names.specs.declared.name.ClassName.TheVariants.{Api}
use Rattle.jc_natives.proofs.Bare.{both}
use Rattle.jc_natives.proofs.Facts.{LeadsToBytes, LeadsToClass, bytes_lead, object_lead}
use Rattle.jc_natives.proofs.FitWrites.{Known}
use Rattle.jc_natives.proofs.Matching.{aid_among, aid_of_argument, bytes_among, component_of}
use Rattle.jc_natives.proofs.Matching.{reference_among, word_among, words_among}
use Rattle.jc_natives.proofs.Simulation.{passed_some}
use Rattle.jc_natives.proofs.Takes.{AreOfKinds, IsOfKind, Kind, array as other_array, bytes, kind_at}
use Rattle.jc_natives.proofs.Takes.{object as an_object, of, word}
use Rattle.jc_natives.proofs.TypedCells.{Has, aid_there, byte_word, bytes_there, has_and_goes, has_mapped}
use Rattle.jc_natives.proofs.TypedCells.{reason_word, word_there, word_value, words_there}
use Rattle.jc_natives.specs.Cells.{bits}
use Rattle.jc_natives.specs.Checks as checks
use Rattle.jc_natives.specs.Checks.{CallsOtherAid, Check, Checked, HasRange, Passed, Refused, TestEnd, Unfit, Uses}
use Rattle.jc_natives.specs.Checks.{UsesUnlessNull, are_aids, calls_other, goes_on, in_range, is_aid_at, is_aid_value}
use Rattle.jc_natives.specs.Checks.{is_in_range, is_range_in, judged, refused, test, tested, unfit, uses, uses_value}
use Rattle.jc_natives.specs.PrivateCells.{aid_bytes, argument, bared, bytes_of, cell_of, cells_from}
use Rattle.jc_natives.specs.PrivateSeen.{arguments_of}
use Rattle.jc_natives.specs.Taking.{Called, as_reference, as_word, called, on_aid, on_bytes, on_component}
use Rattle.jc_natives.specs.Taking.{on_length, on_object, on_range, on_reference, on_word, on_words}
use Rattle.jc_natives.specs.declared.row.Length.{Length}
use Rattle.jc_natives.specs.declared.row.Length.TheVariants.{ByteAt, Fixed, OfAid as AsAid, ShortAt}
use Rattle.jc_natives.specs.declared.row.Use.{Use}
use Rattle.jc_natives.specs.declared.row.Use.TheVariants.{Calls}
use Rattle.jc_store.specs.Heap.{Heap, Object, object_at}
use Rattle.jc_words.specs.Values.{Null, Ref, TaggedValue, Unset, Word}

-- ---- kinds of arguments at places

abbrev pub is_word_kind : Kind → Bool
is_word_kind word = true
is_word_kind bytes = false
is_word_kind (of c) = false
is_word_kind (an_object c) = false
is_word_kind (other_array t) = false

-- references that are looked at
abbrev pub is_leading : Kind → Bool
is_leading word = false
is_leading bytes = true
is_leading (of c) = true
is_leading (an_object c) = true
is_leading (other_array t) = false

abbrev pub is_bytes_kind : Kind → Bool
is_bytes_kind word = false
is_bytes_kind bytes = true
is_bytes_kind (of c) = false
is_bytes_kind (an_object c) = false
is_bytes_kind (other_array t) = false

abbrev pub is_aid_kind : Kind → Bool
is_aid_kind (an_object (Api api.Aid)) = true
is_aid_kind kind = false

module _ (kinds : List Kind) where
  abbrev pub at : (Kind → Bool) → ℕ → Bool
  at is place = option_map_or is (slice_get kinds place) false

  abbrev pub length_fits : Length → Bool
  length_fits (ShortAt place) = at is_word_kind place
  length_fits (ByteAt place) = at is_word_kind place
  length_fits (Fixed count) = true
  length_fits (AsAid place) = at is_aid_kind place

  abbrev pub fits_kinds : Check → Bool
  fits_kinds (Uses place way) = at is_leading place
  fits_kinds (UsesUnlessNull place way) = at is_leading place
  fits_kinds CallsOtherAid = at is_leading 0 && at is_leading 1
  fits_kinds (HasRange array offset count) = at is_leading array && (at is_word_kind offset && length_fits count)

-- ---- ends of tests

abbrev pub is_fit : TestEnd → Bool
is_fit Passed = true
is_fit (Refused object) = true
is_fit Unfit = false

-- what a reference leads to
data Leading (heap : Heap TaggedValue) (v : TaggedValue) : Type 0 where
  to_null : v ≡ Null → Leading heap v
  to_object : (n : ℕ) (o : Object TaggedValue) → v ≡ Ref n → object_at heap n ≡ Some o → Leading heap v

pub record There (heap : Heap TaggedValue) (number : ℕ) : Type 0 where
  pub object : Object TaggedValue
  pub found : object_at heap number ≡ Some object

argument_is : (vs : List TaggedValue) (place : ℕ) (v : TaggedValue) → slice_get vs place ≡ Some v
    → argument (map bits vs) place ≡ bits v
argument_is [] place v e = absurd (none-some v e)
argument_is (x ∷ vs) zero v e = ap bits (same_Some x v e)
argument_is (x ∷ vs) (suc place) v e = argument_is vs place v e

module _ (known : Known) (kinds : List Kind)
    (typed : AreOfKinds (known.w).shapes (known.call).heap (known.call).arguments kinds) where
  open known use {w, call, there, supers, fit}

  abbrev h : Called
  h = called w call

  abbrev args : List ℕ
  args = arguments_of call

  abbrev heap : Heap TaggedValue
  heap = call.heap

  abbrev objs : Heap ℕ
  objs = bared call.heap

  -- the argument at a place, of a kind that passes
  record IsAt (test : Kind → Bool) (place : ℕ) : Type 0 where
    kind : Kind
    passes : test kind ≡ true
    value : TaggedValue
    is : slice_get call.arguments place ≡ Some value
    of_kind : IsOfKind w.shapes heap value kind

  value_at : (test : Kind → Bool) (place : ℕ) → at kinds test place ≡ true → IsAt test place
  value_at test place e =
      let k = passed_some test (slice_get kinds place) e in
      let v = kind_at w.shapes heap call.arguments kinds place k.0 typed k.1 in
      record { kind = k.0; passes = k.2; value = v.0; is = v.1; of_kind = v.2 }

  -- ---- words

  word_has : (place : ℕ) → at kinds is_word_kind place ≡ true
      → Has (option_and_then as_word (slice_get call.arguments place))
  word_has place e =
      let v = value_at is_word_kind place e in
      ap (λ x. is_some (option_and_then as_word x)) v.is ∙ by_kind v.kind v.passes v.value v.of_kind
    where
      by_kind : (k : Kind) → is_word_kind k ≡ true → (v : TaggedValue) → IsOfKind w.shapes heap v k → Has (as_word v)
      by_kind k h1 v h2 = grind (arith, word, word_value, bytes, an_object, other_array)

  -- ---- references

  found_by : (n : ℕ) (o : Option (Object TaggedValue)) → object_at heap n ≡ o → (p : Object TaggedValue → Bool)
      → option_map_or p o false ≡ true → There heap n
  found_by n o h1 p h2 = grind arith

  leading_value : (v : TaggedValue) (k : Kind) → is_leading k ≡ true → IsOfKind w.shapes heap v k → Leading heap v
  leading_value (Word n) word e is = absurd cc
  leading_value (Word n) bytes e is = absurd cc
  leading_value (Word n) (of c) e is = absurd cc
  leading_value (Word n) (an_object c) e is = absurd cc
  leading_value (Word n) (other_array t) e is = absurd cc
  leading_value (Ref n) word e is = absurd cc
  leading_value (Ref n) bytes e is =
      let t = found_by n (object_at heap n) refl _ is in to_object n t.object refl t.found
  leading_value (Ref n) (of c) e is =
      let t = found_by n (object_at heap n) refl _ is in to_object n t.object refl t.found
  leading_value (Ref n) (an_object c) e is =
      let t = found_by n (object_at heap n) refl _ is in to_object n t.object refl t.found
  leading_value (Ref n) (other_array t) e is = absurd cc
  leading_value Null k e is = to_null refl
  leading_value Unset word e is = absurd cc
  leading_value Unset bytes e is = absurd cc
  leading_value Unset (of c) e is = absurd cc
  leading_value Unset (an_object c) e is = absurd cc
  leading_value Unset (other_array t) e is = absurd cc

  record LeadsAt (place : ℕ) : Type 0 where
    value : TaggedValue
    is : slice_get call.arguments place ≡ Some value
    leads : Leading heap value

  leads_at : (place : ℕ) → at kinds is_leading place ≡ true → LeadsAt place
  leads_at place e =
      let v = value_at is_leading place e in
      record { value = v.value; is = v.is; leads = leading_value v.value v.kind v.passes v.of_kind }

  leading_reference : (v : TaggedValue) → Leading heap v → Has (as_reference v)
  leading_reference v h1 = grind arith

  reference_has : (place : ℕ) → at kinds is_leading place ≡ true
      → Has (option_and_then as_reference (slice_get call.arguments place))
  reference_has place e =
      let v = leads_at place e in
      ap (λ x. is_some (option_and_then as_reference x)) v.is ∙ leading_reference v.value v.leads

  -- one that isn't null
  pub there_unless_null : (place : ℕ) → at kinds is_leading place ≡ true → (argument args place == 0) ≡ false
      → There heap (argument args place)
  there_unless_null place e other = let v = leads_at place e in by_value v.value v.is v.leads
    where
      unequal : false ≡ true → ⊥
      unequal g = cc

      by_value : (v : TaggedValue) → slice_get call.arguments place ≡ Some v → Leading heap v
          → There heap (argument args place)
      by_value v is (to_null f) =
          absurd (unequal (sym other ∙ eq-eqb (argument args place) 0
          (argument_is call.arguments place v is ∙ ap bits f)))
      by_value v is (to_object n o f found) = record {
        object = o;
        found = ap (object_at heap) (argument_is call.arguments place v is ∙ ap bits f) ∙ found;
      }

  pub bytes_at : (place : ℕ) → at kinds is_bytes_kind place ≡ true → LeadsToBytes heap (argument args place)
  bytes_at place e =
      let v = value_at is_bytes_kind place e in
      subst (LeadsToBytes heap) (sym (argument_is call.arguments place v.value v.is))
      (by_kind v.kind v.passes v.value v.of_kind)
    where
      by_kind : (k : Kind) → is_bytes_kind k ≡ true → (v : TaggedValue) → IsOfKind w.shapes heap v k
          → LeadsToBytes heap (bits v)
      by_kind k h1 v h2 = grind (arith, word, bytes, bytes_lead, an_object, other_array)

  pub object_leads : (c : ClassName) (place : ℕ) → slice_get kinds place ≡ Some (an_object c)
      → LeadsToClass w.shapes heap (argument args place) c
  object_leads c place e =
      let v = kind_at w.shapes heap call.arguments kinds place (an_object c) typed e in
      subst (λ n. LeadsToClass w.shapes heap n c) (sym (argument_is call.arguments place v.0 v.1))
      (object_lead w.shapes heap c v.0 v.2)

  pub aid_at : (place : ℕ) → at kinds is_aid_kind place ≡ true
      → LeadsToClass w.shapes heap (argument args place) (Api api.Aid)
  aid_at place e =
      let v = value_at is_aid_kind place e in
      subst (λ n. LeadsToClass w.shapes heap n (Api api.Aid)) (sym (argument_is call.arguments place v.value v.is))
      (by_kind v.kind v.passes v.value v.of_kind)
    where
      by_kind : (k : Kind) → is_aid_kind k ≡ true → (v : TaggedValue) → IsOfKind w.shapes heap v k
          → LeadsToClass w.shapes heap (bits v) (Api api.Aid)
      by_kind k h1 v h2 = grind (arith, an_object, object_lead)

  -- an AID among the arguments leads to an object
  aid_leads : (place : ℕ) → at kinds is_aid_kind place ≡ true → at kinds is_leading place ≡ true
  aid_leads place e = grind (arith, passed_some, word, bytes, an_object, other_array)

  -- where there is one, an object of a class
  pub of_leads : (c : ClassName) (place : ℕ) → slice_get kinds place ≡ Some (of c) → There heap (argument args place)
      → LeadsToClass w.shapes heap (argument args place) c
  of_leads c place e t =
      let v = kind_at w.shapes heap call.arguments kinds place (of c) typed e in
      subst (λ n. LeadsToClass w.shapes heap n c) (sym (argument_is call.arguments place v.0 v.1))
      (by_value v.0 v.2 (subst (There heap) (argument_is call.arguments place v.0 v.1) t))
    where
      by_value : (v : TaggedValue) → leads_to heap (is_of_class w.shapes c) v ≡ true → There heap (bits v)
          → LeadsToClass w.shapes heap (bits v) c
      by_value v h1 h2 = grind (arith, passed_some, none-some)

  -- ---- what a member goes on with is there

  module _ {A : Type 0} where
    pub has_word : (place : ℕ) → at kinds is_word_kind place ≡ true → (go : ℕ → Option A)
        → Has (go (argument args place))
        → Has (on_word h place go)
    has_word place e go k = has_and_goes go _ _ (word_among call.arguments place) (word_has place e) k

    pub has_reference : (place : ℕ) → at kinds is_leading place ≡ true → (go : ℕ → Option A)
        → Has (go (argument args place)) → Has (on_reference h place go)
    has_reference place e go k = grind (arith, has_and_goes, reference_among, reference_has)

    pub has_object : (number : ℕ) (t : There heap number) (go : Object TaggedValue → Option A) → Has (go t.object)
        → Has (on_object h number go)
    has_object number t go k = ap (λ x. is_some (option_and_then go x)) t.found ∙ k

    pub has_aid : (number : ℕ) → LeadsToClass w.shapes heap number (Api api.Aid) → (go : List ℕ → Option A)
        → Has (go (aid_bytes objs number)) → Has (on_aid h number go)
    has_aid number leads go k = has_and_goes go _ _ (aid_among heap number) (aid_there known number leads) k

    pub has_words : (number : ℕ) → LeadsToBytes heap number → There heap number → (from count : ℕ)
        (go : List ℕ → Option A) → Has (go (cells_from objs number from count)) → Has (on_words h number from count go)
    has_words number leads t from count go k = grind (arith, has_and_goes, words_among, words_there, byte_word)

    pub has_bytes : (number : ℕ) → LeadsToBytes heap number → There heap number → (from count : ℕ)
        (go : List ℕ → Option A) → Has (go (bytes_of objs number from count)) → Has (on_bytes h number from count go)
    has_bytes number leads t from count go k = grind (arith, has_and_goes, bytes_among, bytes_there, byte_word)

    pub has_component : (number : ℕ) → LeadsToBytes heap number → There heap number → (index : ℕ) (go : ℕ → Option A)
        → Has (go (cell_of objs number index)) → Has (on_component h number index go)
    has_component number leads t index go k = grind (arith, has_and_goes, component_of, word_there, byte_word)

    pub has_reason : (number : ℕ) → LeadsToClass w.shapes heap number (Api api.CardRuntimeException)
        → (go : ℕ → Option A) → Has (go (cell_of objs number 0)) → Has (on_component h number 0 go)
    has_reason number leads go k = search (arith, has_and_goes, component_of, word_there, reason_word)

    has_length : (count : Length) → length_fits kinds count ≡ true → (go : ℕ → Option A)
        → ((n : ℕ) → Has (go n)) → Has (on_length h count go)
    has_length (ShortAt place) e go k = has_word place e go (k _)
    has_length (ByteAt place) e go k = has_word place e _ (k _)
    has_length (Fixed count) e go k = k count
    has_length (AsAid place) e go k = search (arith, has_word, has_reference, aid_leads, has_aid, aid_at)

    pub has_range : (place offset : ℕ) (count : Length) → at kinds is_bytes_kind place ≡ true
        → at kinds is_leading place ≡ true → at kinds is_word_kind offset ≡ true → length_fits kinds count ≡ true
        → There heap (argument args place) → (go : List ℕ → Option A)
        → ((bytes : List ℕ) → Has (go bytes)) → Has (on_range h place offset count go)
    has_range place offset count e leads f g t go k =
        has_reference place leads _ (has_word offset f _ (has_length count g _ (λ n.
        has_bytes (argument args place) (bytes_at place e) t (argument args offset) n go (k _))))

  -- ---- tests

  verdict_fit : (way : Use) (number : ℕ) (v : Verdict) → is_fit (checks.by_verdict h way number v).ends ≡ true
  verdict_fit way number v = grind arith

  value_fit : (way : Use) (null : Checked) → is_fit null.ends ≡ true → (v : TaggedValue) → Leading heap v
      → is_fit (uses_value h way null v).ends ≡ true
  value_fit way null h1 v h2 = grind (arith, verdict_fit)

  uses_fit : (place : ℕ) (way : Use) (null : Checked) → is_fit null.ends ≡ true → at kinds is_leading place ≡ true
      → is_fit (uses h place way null).ends ≡ true
  uses_fit place way null fits e =
      let v = leads_at place e in
      ap (λ x. is_fit (option_map_or (uses_value h way null) x unfit).ends) v.is
      ∙ value_fit way null fits v.value v.leads

  aid_value_has : (v : TaggedValue) → Leading heap v → Has (is_aid_value h v)
  aid_value_has v h1 = grind arith

  aid_has : (place : ℕ) → at kinds is_leading place ≡ true → Has (is_aid_at h place)
  aid_has place e =
      let v = leads_at place e in
      ap (λ x. is_some (option_and_then (is_aid_value h) x)) v.is ∙ aid_value_has v.value v.leads

  pub aids_have : at kinds is_leading 0 ≡ true → at kinds is_leading 1 ≡ true → Has (are_aids h)
  aids_have e f = grind (arith, has_and_goes, aid_of_argument, aid_has, has_mapped)

  some_fit : (f : Bool → Checked) → ((b : Bool) → is_fit (f b).ends ≡ true) → (o : Option Bool) → Has o
      → is_fit (option_map_or f o unfit).ends ≡ true
  some_fit f h1 o h2 = grind arith

  other_fit : at kinds is_leading 1 ≡ true → (b : Bool) → is_fit (calls_other h b).ends ≡ true
  other_fit e true = uses_fit 1 Calls (refused 6) refl e
  other_fit e false = refl

  range_fit : (b : Bool) → is_fit (in_range b).ends ≡ true
  range_fit b = grind arith

  within_has : (place offset : ℕ) (count : Length) → at kinds is_word_kind offset ≡ true
      → length_fits kinds count ≡ true → There heap (argument args place)
      → Has (is_range_in h (argument args place) offset count)
  within_has place offset count e f t = grind (arith, has_object, has_word, has_length)

  range_has : (place offset : ℕ) (count : Length) → at kinds is_leading place ≡ true
      → at kinds is_word_kind offset ≡ true → length_fits kinds count ≡ true
      → Has (is_in_range h place offset count)
  range_has place offset count e f g = has_reference place e _ (by_null (argument args place == 0) refl)
    where
      by_null : (b : Bool) → (argument args place == 0) ≡ b
          → Has (cond b (Some true) (is_range_in h (argument args place) offset count))
      by_null b h1 = grind (arith, within_has, there_unless_null)

  test_fit : (one : Check) → fits_kinds kinds one ≡ true → is_fit (test h one).ends ≡ true
  test_fit (Uses place way) e = uses_fit place way (refused 6) refl e
  test_fit (UsesUnlessNull place way) e = uses_fit place way checks.passed refl e
  test_fit CallsOtherAid e =
      let b = both (at kinds is_leading 0) (at kinds is_leading 1) e in
      some_fit (calls_other h) (other_fit b.1) (are_aids h) (aids_have b.0 b.1)
  test_fit (HasRange place offset count) e =
      let b = both (at kinds is_leading place) (at kinds is_word_kind offset && length_fits kinds count) e in
      let c = both (at kinds is_word_kind offset) (length_fits kinds count) b.1 in
      some_fit in_range range_fit (is_in_range h place offset count) (range_has place offset count b.0 c.0 c.1)

  pub tests_fit : (tests : List Check) → list_all (fits_kinds kinds) tests ≡ true → is_fit (tested h tests).ends ≡ true
  tests_fit [] e = refl
  tests_fit (one ∷ tests) e =
      let b = both (fits_kinds kinds one) (list_all (fits_kinds kinds) tests) e in
      by_end (test h one).touches (test h one).ends (test_fit one b.0) (tests_fit tests b.1)
    where
      by_end : (touches : List _) (end : TestEnd) → is_fit end ≡ true → is_fit (tested h tests).ends ≡ true
          → is_fit (goes_on touches end (tested h tests)).ends ≡ true
      by_end touches end h1 h2 = grind arith

  -- ---- what tests that pass show

  abbrev pub IsShown : Check → Type 0
  IsShown (Uses place way) = There heap (argument args place)
  IsShown (UsesUnlessNull place way) = ⊤
  IsShown CallsOtherAid = ⊤
  IsShown (HasRange place offset count) = ⊤

  uses_show : (place : ℕ) (way : Use) → (uses h place way (refused 6)).ends ≡ Passed
      → There heap (argument args place)
  uses_show place way e = by_value (slice_get call.arguments place) refl e
    where
      by_object : (n : ℕ) (o : Option (Object TaggedValue)) → object_at heap n ≡ o
          → (option_map_or (judged h way n) o unfit).ends ≡ Passed → There heap n
      by_object n o h1 h2 = grind arith

      by_value : (v : Option TaggedValue) → slice_get call.arguments place ≡ v
          → (option_map_or (uses_value h way (refused 6)) v unfit).ends ≡ Passed → There heap (argument args place)
      by_value v h1 h2 = grind (arith, argument_is, by_object)

  test_shows : (one : Check) → (test h one).ends ≡ Passed → IsShown one
  test_shows (Uses place way) e = uses_show place way e
  test_shows (UsesUnlessNull place way) e = tt
  test_shows CallsOtherAid e = tt
  test_shows (HasRange place offset count) e = tt

  pub tests_show : (tests : List Check) → (tested h tests).ends ≡ Passed → AllByRecursion IsShown tests
  tests_show [] e = tt
  tests_show (one ∷ tests) e = by_end (test h one).touches (test h one).ends refl (tests_show tests) e
    where
      by_end : (touches : List _) (end : TestEnd) → (test h one).ends ≡ end
          → ((tested h tests).ends ≡ Passed → AllByRecursion IsShown tests)
          → (goes_on touches end (tested h tests)).ends ≡ Passed → AllByRecursion IsShown (one ∷ tests)
      by_end touches end h1 h2 h3 = grind (arith, test_shows)
