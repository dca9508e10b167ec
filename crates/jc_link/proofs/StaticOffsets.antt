-- Static fields, one behind the other, class by class.
use Rattle.std.proofs.Common.{◌≡◌, ℕ, ◌+◌, ◌<◌, ◌++◌, List, [], ◌∷◌, length, drop, get_or, map, min, Option, Some, None, refl, sym, ap, ◌∙◌, arith}
use Rattle.std.proofs.lemmas.List.{drop_more}
use Rattle.std.specs.List.{filter, filter_map, flat_map, cons_option}
use Rattle.std.specs.Option.{option_and_then}
use Rattle.jc_cap.specs.Statics.{StaticImage}
use Rattle.jc_cap_desc.specs.Shape.{ClassShape, FieldShape}
use Rattle.jc_link.specs.PrivateStatics.{earlier, offset_if_bad, bad_offset, first_bad_among}
use Rattle.jc_link.specs.Statics.{StaticField, static_of, is_bad_static, least}

-- ---- the lesser of numbers

min_assoc : (a b c : ℕ) → min a (min b c) ≡ min (min a b) c
min_assoc a b c = omega arith

earlier_assoc : (a b c : Option ℕ) → earlier a (earlier b c) ≡ earlier (earlier a b) c
earlier_assoc a b c = grind (arith, min_assoc)

module _ (image : StaticImage) (all : List StaticField) where
  by_field : (o : Option StaticField) (fs : List StaticField)
      → least (map (λ f. f.offset) (filter (is_bad_static image all) (cons_option o fs))) ≡ earlier (option_and_then (offset_if_bad image all) o) (least (map (λ f. f.offset) (filter (is_bad_static image all) fs)))
  by_field None fs = refl
  by_field (Some f) fs = grind arith

  first_of : (f : FieldShape) (fields : List FieldShape) → first_bad_among image all (f ∷ fields) ≡ earlier (bad_offset image all f) (first_bad_among image all fields)
  first_of f fields = by_field (static_of f) (filter_map static_of fields)

  first_append : (xs ys : List FieldShape) → first_bad_among image all (xs ++ ys) ≡ earlier (first_bad_among image all xs) (first_bad_among image all ys)
  first_append [] ys = refl
  first_append (x ∷ xs) ys = grind (arith, first_of, earlier_assoc, first_append xs ys)

pub next_of : {A : Type 0} (xs : List A) (i : ℕ) (x : A) → i < length xs → x ≡ get_or xs i x → drop i xs ≡ x ∷ drop (i + 1) xs
next_of xs i x h is = drop_more xs i x h ∙ ap (λ y. y ∷ drop (i + 1) xs) (sym is)

-- a walk along fields, with one looked at
module _ (image : StaticImage) (all : List StaticField) (total best : Option ℕ) (fields : List FieldShape) (i : ℕ) (so_far : earlier best (first_bad_among image all (drop i fields)) ≡ total) where
  pub past_field : (f : FieldShape) (o : Option ℕ) → i < length fields → f ≡ get_or fields i f → o ≡ bad_offset image all f → earlier (earlier best o) (first_bad_among image all (drop (i + 1) fields)) ≡ total
  past_field f o h is e = grind (arith, earlier_assoc, first_of, next_of)

-- a walk along classes, with one looked at
module _ (image : StaticImage) (all : List StaticField) (total best : Option ℕ) (classes : List ClassShape) (i : ℕ) (so_far : earlier best (first_bad_among image all (flat_map (λ k. k.fields) (drop i classes))) ≡ total) where
  pub past_class : (k : ClassShape) (fields : List FieldShape) (o : Option ℕ) → i < length classes → k ≡ get_or classes i k → fields ≡ k.fields → o ≡ first_bad_among image all fields
      → earlier (earlier best o) (first_bad_among image all (flat_map (λ k. k.fields) (drop (i + 1) classes))) ≡ total
  past_class k fields o h is its e = grind (arith, earlier_assoc, first_append, next_of)
