-- Bytes that static fields take, and which fields share one.
use Rattle.std.proofs.Common.{◌≡◌, ℕ, ◌+◌, ◌<◌, ◌≤◌, ◌++◌, ◌⊎◌, ◌==◌, inl, inr, Some, None, ◌&&◌, ◌||◌, Bool, true, false, cond, List, [], ◌∷◌, length, take, get_or, nat_lt, nat_le, refl, sym, ap, subst, ◌∙◌, arith, append_assoc, append-nil, drop}
use Rattle.std.proofs.Math.Path.{fun_ext}
use Rattle.std.proofs.lemmas.Bool.{ltb-true, ltb-false}
use Rattle.std.proofs.lemmas.Bool.Decides.{nat_tests}
use Rattle.std.proofs.lemmas.List.{take_more, take-append-drop}
use Rattle.std.proofs.lemmas.List.Concat.{flat_map-append}
use Rattle.std.proofs.lemmas.List.Elements.{filter_map-append}
use Rattle.std.proofs.lemmas.List.Sums.{sum_by_push, sum_by-append, sum_by-cons, sum_by-le-sum_by}
use Rattle.std.specs.List.{count_by, filter_map, flat_map}
use Rattle.std.specs.Option.{option_map_or}
use Rattle.jc_base.specs.declared.class_ref.ClassRef.{ClassRef}
use Rattle.jc_base.specs.declared.declared_type.DeclaredType.{DeclaredType}
use Rattle.jc_base.specs.NumberSet.{has_number}
use Rattle.jc_cap_desc.specs.Shape.{ClassShape, FieldShape}
use Rattle.jc_link.proofs.StaticOffsets.{next_of}
use Rattle.jc_link.specs.PrivateStatics.{Taken, second_byte, takes, takers, AreTaken, WereTaken, HaveTaken, AreAmong}
use Rattle.jc_link.specs.Statics.{StaticField, static_of, width_of, behind, overlaps_another}

-- ---- counts of a test that one of two passes

width_least : (type : DeclaredType ClassRef) → 1 ≤ width_of type
width_least type = grind arith

count_one : {A : Type 0} (p : A → Bool) (f : A) (fields : List A)
    → count_by p (f ∷ fields) ≡ cond (p f) 1 0 + count_by p fields
count_one p f fields = sum_by-cons (λ x. cond (p x) 1 0) f fields

or_and : (a b : Bool) → cond (a || b) 1 0 + cond (a && b) 1 0 ≡ cond a 1 0 + cond b 1 0
or_and a b = grind arith

module _ {A : Type 0} (p q : A → Bool) where
  count_or_and : (fields : List A)
      → count_by (λ f. p f || q f) fields + count_by (λ f. p f && q f) fields ≡ count_by p fields + count_by q fields
  count_or_and [] = refl
  count_or_and (f ∷ fields) =
      let either = count_one (λ f. p f || q f) f fields in
      let both = count_one (λ f. p f && q f) f fields in
      let one = count_one p f fields in
      let other = count_one q f fields in
      omega (arith, count_or_and fields, or_and (p f) (q f), either, both, one, other)

le_or : (a b : Bool) → cond a 1 0 ≤ cond (a || b) 1 0
le_or a b = grind arith

le_or_right : (a b : Bool) → cond b 1 0 ≤ cond (a || b) 1 0
le_or_right a b = grind arith

count_le : {A : Type 0} (p q : A → Bool) (fields : List A) → ((f : A) → cond (p f) 1 0 ≤ cond (q f) 1 0)
    → count_by p fields ≤ count_by q fields
count_le p q fields h = sum_by-le-sum_by (λ x. cond (p x) 1 0) (λ x. cond (q x) 1 0) fields h

more_of : (a b c d : ℕ) → a + d ≡ b + c → b ≤ a → c ≤ a → 0 < d → nat_lt 1 a ≡ (nat_lt 1 b || nat_lt 1 c)
more_of a b c d e l r h = grind (arith, nat_tests)

-- where one passes both, either test is passed twice exactly if one of them is
either_twice : {A : Type 0} (p q : A → Bool) (fields : List A) → 0 < count_by (λ f. p f && q f) fields
    → nat_lt 1 (count_by (λ f. p f || q f) fields) ≡ (nat_lt 1 (count_by p fields) || nat_lt 1 (count_by q fields))
either_twice p q fields h = grind (arith, more_of, count_or_and, count_le, le_or, le_or_right)

-- ---- one field more

-- what a further taker makes of how many take a byte
once_more : (b : Bool) (n : ℕ) → nat_lt 0 (n + cond b 1 0) ≡ (b || nat_lt 0 n)
once_more b n = grind (arith, nat_tests)

twice_more : (b : Bool) (n : ℕ) → nat_lt 1 (n + cond b 1 0) ≡ ((b && nat_lt 0 n) || nat_lt 1 n)
twice_more b n = grind (arith, nat_tests)

takers_more : (before : List StaticField) (f : StaticField) (n : ℕ)
    → takers (before ++ f ∷ []) n ≡ takers before n + cond (takes f n) 1 0
takers_more before f n = sum_by_push (λ g. cond (takes g n) 1 0) before f

field_taken : (f : StaticField) (old new : Taken) → WereTaken (takes f) old new → HaveTaken (f ∷ []) old new
field_taken f old new were before are = record {
  once = λ n h.
      were.once n h
      ∙ ap (λ b. takes f n || b) (are.once n h)
      ∙ sym (ap (λ m. nat_lt 0 m) (takers_more before f n) ∙ once_more (takes f n) (takers before n));
  twice = λ n h.
      were.twice n h
      ∙ ap (λ b. (takes f n && b) || has_number old.twice n) (are.once n h)
      ∙ ap (λ b. (takes f n && nat_lt 0 (takers before n)) || b) (are.twice n h)
      ∙ sym (ap (λ m. nat_lt 1 m) (takers_more before f n) ∙ twice_more (takes f n) (takers before n));
}

-- some fields, and others behind them
taken_then : (fields more : List StaticField) (old new newer : Taken) → HaveTaken fields old new
    → HaveTaken more new newer → HaveTaken (fields ++ more) old newer
taken_then fields more old new newer first second before are = grind (arith, append_assoc)

-- ---- the bytes of one field

-- the second byte is the one that passes
abbrev is_second : StaticField → ℕ → Bool
is_second f n = option_map_or (λ s. n == s) (second_byte f) false

one_byte : (o n : ℕ) → (nat_le o n && nat_lt n (o + 1)) ≡ (n == o || false)
one_byte o n = grind (arith, nat_tests)

two_bytes : (o n : ℕ) → (nat_le o n && nat_lt n (o + 2)) ≡ (n == o || n == o + 1)
two_bytes o n = grind (arith, nat_tests)

last_byte : (o n : ℕ) → 65535 ≤ o → n < 65536 → (nat_le o n && nat_lt n (o + 2)) ≡ (n == o || false)
last_byte o n h k = grind (arith, nat_tests)

width_cases : (type : DeclaredType ClassRef) → (width_of type ≡ 1) ⊎ (width_of type ≡ 2)
width_cases type = grind arith

-- which bytes below 65,536 a field takes, by its width
taken_bytes : (o w n : ℕ) → (w ≡ 1) ⊎ (w ≡ 2) → n < 65536
    → (nat_le o n && nat_lt n (o + w))
    ≡ (n == o || option_map_or (λ s. n == s) (cond (w == 2 && nat_lt o 65535) (Some (o + 1)) None) false)
taken_bytes o w n h1 h2 = grind (arith, one_byte, ltb-false, nat_le, two_bytes, last_byte)

field_bytes : (f : StaticField) (n : ℕ) → n < 65536 → takes f n ≡ (n == f.offset || is_second f n)
field_bytes f n h = taken_bytes f.offset (width_of f.type) n (width_cases f.type) h

-- the second is another one
second_apart : (o n : ℕ) (b : Bool) → n == o ≡ true
    → option_map_or (λ s. n == s) (cond b (Some (o + 1)) None) false ≡ false
second_apart o n b h1 = grind (arith, nat_tests)

tests_once : (a b t o : Bool) → t ≡ (a || b) → (b || (a || o)) ≡ (t || o)
tests_once a b t o h1 = grind arith

tests_twice : (a b t o w : Bool) → t ≡ (a || b) → (a ≡ true → b ≡ false)
    → ((b && (a || o)) || ((a && o) || w)) ≡ ((t && o) || w)
tests_twice a b t o w h1 h2 = grind arith

-- a byte, and then another one
pub two_taken : (f : StaticField) (second : ℕ) (old new newer : Taken) → second_byte f ≡ Some second
    → WereTaken (λ n. n == f.offset) old new → WereTaken (λ n. n == second) new newer → HaveTaken (f ∷ []) old newer
two_taken f second old new newer is one more = field_taken f old newer (record {
  once = grind (arith, tests_once, both);
  twice = grind (arith, tests_twice, both, apart);
})
  where
    passes : (n : ℕ) → is_second f n ≡ (n == second)
    passes n = ap (λ o. option_map_or (λ s. n == s) o false) is

    both : (n : ℕ) → n < 65536 → takes f n ≡ (n == f.offset || n == second)
    both n h = field_bytes f n h ∙ ap (λ b. n == f.offset || b) (passes n)

    apart : (n : ℕ) → n == f.offset ≡ true → n == second ≡ false
    apart n e = sym (passes n) ∙ second_apart f.offset n (width_of f.type == 2 && nat_lt f.offset 65535) e

or_false : (b : Bool) → (b || false) ≡ b
or_false b = grind arith

-- a byte alone
pub one_taken : (f : StaticField) (old new : Taken) → second_byte f ≡ None → WereTaken (λ n. n == f.offset) old new
    → HaveTaken (f ∷ []) old new
one_taken f old new is one = field_taken f old new (record {
  once = λ n h. one.once n h ∙ ap (λ b. b || has_number old.once n) (alone n h);
  twice = λ n h. one.twice n h ∙ ap (λ b. (b && has_number old.once n) || has_number old.twice n) (alone n h);
})
  where
    alone : (n : ℕ) → n < 65536 → n == f.offset ≡ takes f n
    alone n h = grind (arith, field_bytes, or_false)

-- ---- fields one behind the other

-- the fields before one, and the field
pub taken_next : (fields : List FieldShape) (i : ℕ) (f : FieldShape) (old new newer : Taken) → i < length fields
    → f ≡ get_or fields i f → HaveTaken (filter_map static_of (take i fields)) old new
    → HaveTaken (filter_map static_of (f ∷ [])) new newer
    → HaveTaken (filter_map static_of (take (i + 1) fields)) old newer
taken_next fields i f old new newer h is first second =
    let before = filter_map static_of (take i fields) in
    let one = filter_map static_of (f ∷ []) in
    let parts =
    ap (filter_map static_of) (take_more fields i f h ∙ ap (λ g. take i fields ++ g ∷ []) (sym is))
    ∙ filter_map-append static_of (take i fields) (f ∷ []) in
    subst (λ fs. HaveTaken fs old newer) (sym parts) (taken_then before one old new newer first second)

-- the classes before one, and the fields of the class
pub classes_next : (classes : List ClassShape) (i : ℕ) (k : ClassShape) (fields : List FieldShape) (old new : Taken)
    → i < length classes → k ≡ get_or classes i k → fields ≡ k.fields
    → AreTaken old (filter_map static_of (flat_map (λ k. k.fields) (take i classes)))
    → HaveTaken (filter_map static_of fields) old new
    → AreTaken new (filter_map static_of (flat_map (λ k. k.fields) (take (i + 1) classes)))
classes_next classes i k fields old new h is its first more =
    let before = flat_map (λ (k : ClassShape). k.fields) (take i classes) in
    let all : flat_map (λ (k : ClassShape). k.fields) (take (i + 1) classes) ≡ before ++ fields =
    grind (
      arith,
      take_more classes i k h,
      flat_map-append (λ k. k.fields) (take i classes) (k ∷ []),
      append-nil k.fields,
    ) in
    let parts = ap (filter_map static_of) all ∙ filter_map-append static_of before fields in
    subst (AreTaken new) (sym parts) (more (filter_map static_of before) first)

-- ---- fields among others

-- a part of those that are among others is among these
part_among : (before part behind whole all : List StaticField) → whole ≡ before ++ (part ++ behind)
    → AreAmong whole all → AreAmong part all
part_among before part behind whole all is among test = grind (arith, sum_by-append)

-- one of some fields
pub one_among : (fields : List FieldShape) (i : ℕ) (f : FieldShape) (all : List StaticField) → i < length fields
    → f ≡ get_or fields i f → AreAmong (filter_map static_of fields) all → AreAmong (filter_map static_of (f ∷ [])) all
one_among fields i f all h is =
    let front = filter_map static_of (take i fields) in
    let rest = drop (i + 1) fields in
    let whole : fields ≡ take i fields ++ f ∷ rest = grind (arith, take-append-drop, next_of) in
    part_among front (filter_map static_of (f ∷ [])) (filter_map static_of rest) (filter_map static_of fields) all
    (
    ap (filter_map static_of) whole
    ∙ filter_map-append static_of (take i fields) (f ∷ rest)
    ∙ ap (λ fs. front ++ fs) (filter_map-append static_of (f ∷ []) rest)
    )

-- those of one of some classes
pub class_among : (classes : List ClassShape) (i : ℕ) (k : ClassShape) (fields : List FieldShape) → i < length classes
    → k ≡ get_or classes i k → fields ≡ k.fields
    → AreAmong (filter_map static_of fields) (filter_map static_of (flat_map (λ k. k.fields) classes))
class_among classes i k fields h is its =
    let before = flat_map (λ (k : ClassShape). k.fields) (take i classes) in
    let behind = flat_map (λ (k : ClassShape). k.fields) (drop (i + 1) classes) in
    let all : flat_map (λ (k : ClassShape). k.fields) classes ≡ before ++ (fields ++ behind) =
    grind (
      arith,
      take-append-drop i classes,
      next_of classes i k h is,
      flat_map-append (λ k. k.fields) (take i classes) (k ∷ drop (i + 1) classes),
    ) in
    let whole = filter_map static_of (flat_map (λ (k : ClassShape). k.fields) classes) in
    part_among (filter_map static_of before) (filter_map static_of fields) (filter_map static_of behind) whole whole
    (
    ap (filter_map static_of) all
    ∙ filter_map-append static_of before (fields ++ behind)
    ∙ ap (λ fs. filter_map static_of before ++ fs) (filter_map-append static_of fields behind)
    )
    (λ test. omega arith)

-- ---- what is taken twice

share_one : (o p w : ℕ) → (nat_lt o (p + w) && nat_lt p (o + 1)) ≡ (nat_le p o && nat_lt o (p + w))
share_one o p w = grind (arith, nat_tests)

share_two : (o p w : ℕ) → 1 ≤ w
    → (nat_lt o (p + w) && nat_lt p (o + 2))
    ≡ ((nat_le p o && nat_lt o (p + w)) || (nat_le p (o + 1) && nat_lt (o + 1) (p + w)))
share_two o p w h = grind (arith, nat_tests)

own_both : (o : ℕ) → ((nat_le o o && nat_lt o (o + 2)) && (nat_le o (o + 1) && nat_lt (o + 1) (o + 2))) ≡ true
own_both o = grind (arith, nat_tests)

-- a field of one byte shares it with another exactly if the byte is taken twice
one_shared : (all : List StaticField) (f : StaticField) → width_of f.type ≡ 1
    → overlaps_another all f ≡ nat_lt 1 (takers all f.offset)
one_shared all f one = grind (arith, fun_ext, share_one)

one_if : (b : Bool) → b ≡ true → 1 ≤ cond b 1 0
one_if b h1 = grind arith

-- a field of two, one of these, shares one with another exactly if one of its bytes is taken twice
two_shared : (all : List StaticField) (f : StaticField) → AreAmong (f ∷ []) all → width_of f.type ≡ 2
    → overlaps_another all f ≡ (nat_lt 1 (takers all f.offset) || nat_lt 1 (takers all (f.offset + 1)))
two_shared all f among two =
    let own : (takes f f.offset && takes f (f.offset + 1)) ≡ true = rw two (own_both f.offset) in
    let there = among (λ g. takes g f.offset && takes g (f.offset + 1)) in
    let one = count_one (λ g. takes g f.offset && takes g (f.offset + 1)) f [] in
    let counted = one_if (takes f f.offset && takes f (f.offset + 1)) own in
    ap (λ p. nat_lt 1 (count_by p all))
    (fun_ext (λ g. rw two (share_two f.offset g.offset (width_of g.type) (width_least g.type))))
    ∙ either_twice (λ g. takes g f.offset) (λ g. takes g (f.offset + 1)) all (omega (arith, there, one, counted))

-- the second byte is there exactly if two are taken, where the field ends below 65,536
second_is : (o w : ℕ) → w ≡ 2 → o + w < 65536 → (w == 2 && nat_lt o 65535) ≡ true
second_is o w two h = grind (arith, nat_tests)

second_isnt : (o w : ℕ) → w ≡ 1 → (w == 2 && nat_lt o 65535) ≡ false
second_isnt o w one = rw one refl

-- whether a byte is taken twice, and whether the first or the second of a field is, as far as there is a second
abbrev is_taken_twice : List StaticField → ℕ → Bool
is_taken_twice all n = nat_lt 1 (takers all n)

abbrev by_second : List StaticField → ℕ → Bool → Bool
by_second all o b = is_taken_twice all o || option_map_or (is_taken_twice all) (cond b (Some (o + 1)) None) false

-- so a field, one of these, that ends below 65,536 overlaps another exactly if its first byte or its second is taken
-- twice
shared_by_bytes : (all : List StaticField) (f : StaticField) → AreAmong (f ∷ []) all → behind f < 65536
    → overlaps_another all f
    ≡ (is_taken_twice all f.offset || option_map_or (is_taken_twice all) (second_byte f) false)
shared_by_bytes all f among h = by_width (width_cases f.type)
  where
    by_width : (width_of f.type ≡ 1) ⊎ (width_of f.type ≡ 2)
        → overlaps_another all f
        ≡ (is_taken_twice all f.offset || option_map_or (is_taken_twice all) (second_byte f) false)
    by_width (inl one) = grind (arith, one_shared, second_isnt, or_false)
    by_width (inr two) = two_shared all f among two ∙ sym (ap (by_second all f.offset) (second_is f.offset (width_of f.type) two h))

below : (f : StaticField) → behind f < 65536 → f.offset < 65536
below f h = omega arith

second_below : (f : StaticField) (second : ℕ) → second_byte f ≡ Some second → second < 65536
second_below f second e = grind (arith, ltb-true)

-- what a set says of the bytes of a field
module _ (taken : Taken) (all : List StaticField) (f : StaticField) (are : AreTaken taken all)
    (among : AreAmong (f ∷ []) all) (h : behind f < 65536) where
  pub first_shared : has_number taken.twice f.offset ≡ true → true ≡ overlaps_another all f
  first_shared e =
      let t = are.twice f.offset (below f h) in
      grind (arith, shared_by_bytes all f among h)

  pub second_shared : (second : ℕ) → has_number taken.twice f.offset ≡ false → second_byte f ≡ Some second
      → has_number taken.twice second ≡ overlaps_another all f
  second_shared second e is =
      let t = are.twice f.offset (below f h) in
      grind (arith, shared_by_bytes all f among h, are.twice second (second_below f second is))

  pub none_shared : has_number taken.twice f.offset ≡ false → second_byte f ≡ None → false ≡ overlaps_another all f
  none_shared e is =
      let t = are.twice f.offset (below f h) in
      grind (arith, shared_by_bytes all f among h)
