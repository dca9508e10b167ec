-- The rows of a package's methods, sorted by offset, are a certificate where counts are small.
use Rattle.std.proofs.Common.{◌≡◌, ◌⊎◌, ℕ, suc, zero, ◌+◌, ◌<◌, ◌≤◌, ◌^◌, ◌==◌, false, List, [], ◌∷◌, length, Some, get_or, slice_get, refl, sym, ap, ◌∙◌, arith}
use Rattle.std.specs.List.{AllByRecursion, IsDistinct}
use Rattle.std.specs.List.Sorted.{IsNonDecreasingBy, IsPermutation}
use Rattle.std.proofs.lemmas.Bool.{cases_eq, eq-eqb, ne_eqb}
use Rattle.std.proofs.lemmas.List.Sorted.{IsPermutation-sym, length_permutation}
use Rattle.std.proofs.lemmas.Map.Keys.{IsDistinct-IsPermutation, IsDistinct-from_apart, apart_from_distinct}
use Rattle.std.proofs.lemmas.Option.{get_or_from_slice_get, none-some, same_Some, slice_get-get_or, slice_get_within}
use Rattle.jc_cert.specs.Cert.{IsCert, IsRow, IsStated, OffsetsAscend, Row, Stated, row, rows}
use Rattle.jc_cert.specs.declared.cert.MethodStates.{MethodStates}
use Rattle.jc_link.specs.Linked.{Linked}
use Rattle.jc_check.specs.Method.{CheckedMethod}
use Rattle.jc_verify.specs.PrivateGathered.{AreGathered, IsInShape, IsRowOf}
use Rattle.jc_verify.specs.PrivateRefused.{HasFitMethods}
use Rattle.jc_verify.proofs.Carrying.{all_by_place}
use Rattle.jc_verify.proofs.Certified.{moved}

-- each offset is above the one before, from a least one
offsets_ascend : (cs : List Row) (least : ℕ) → ((n : ℕ) (r : Row) → slice_get cs n ≡ Some r → least ≤ r.offset)
    → ((j k : ℕ) (r s : Row) → slice_get cs j ≡ Some r → slice_get cs k ≡ Some s → j < k → r.offset < s.offset) → OffsetsAscend least cs
offsets_ascend [] least from up = tt
offsets_ascend (c ∷ cs) least from up =
    (from 0 c refl, offsets_ascend cs (c.offset + 1) (λ n r e. let lt = up 0 (suc n) c r refl e (omega arith) in omega (arith, lt)) (λ j k r s e f lt. up (suc j) (suc k) r s e f (omega (arith, lt))))

pub all_stated : (m : CheckedMethod) → length m.arguments + m.max_locals < 2 ^ 16 → (cs : List Stated) → AllByRecursion (IsInShape m) cs → AllByRecursion IsStated cs
all_stated m few [] h = tt
all_stated m few (c ∷ cs) h = search (arith, all_stated m few cs h.1)

is_row : (l : Linked) → HasFitMethods l → (n : ℕ) (r : Row) → IsRowOf l n r → IsRow r
is_row l fit n r h = grind (arith, all_stated)

-- what stands at a place among the rows of rows
row_of : (ms : List MethodStates) (n : ℕ) (r : Row) → slice_get (rows ms) n ≡ Some r → (x : MethodStates) × (slice_get ms n ≡ Some x) × (row x ≡ r)
row_of [] n r e = absurd (none-some r e)
row_of (x ∷ ms) zero r e = (x, refl, same_Some (row x) r e)
row_of (x ∷ ms) (suc n) r e = row_of ms n r e

module _ (l : Linked) (of : List Row) (put : List MethodStates) (gathered : AreGathered l (length l.body.kept.methods) of) (order : IsPermutation of (rows put))
    (ascend : IsNonDecreasingBy (λ (m : MethodStates). m.offset) put) (fit : HasFitMethods l) (few : length l.body.kept.methods < 2 ^ 16) where
  distinct : IsDistinct (λ (r s : Row). r.offset == s.offset) of
  distinct = grind (arith, IsDistinct-from_apart, ne_eqb, get_or, slice_get-get_or)

  put_distinct : IsDistinct (λ (r s : Row). r.offset == s.offset) (rows put)
  put_distinct = IsDistinct-IsPermutation (λ (r s : Row). r.offset == s.offset) (λ r s. flips r.offset s.offset) of (rows put) order distinct
    where
      flips : (a b : ℕ) → a == b ≡ b == a
      flips a b = by (cases_eq a b)
        where
          by : (a ≡ b) ⊎ (a ≡ b → ⊥) → a == b ≡ b == a
          by h1 = grind (arith, eq-eqb, ne_eqb)

  lower : (j k : ℕ) (r s : Row) → slice_get (rows put) j ≡ Some r → slice_get (rows put) k ≡ Some s → j < k → r.offset < s.offset
  lower j k r s e f lt =
      let x = row_of put j r e in
      let y = row_of put k s f in
      let within = slice_get_within put k y.0 y.1 in
      let le = ascend j k x.0 (omega (arith, lt)) within in
      let one : get_or put j x.0 ≡ x.0 = get_or_from_slice_get put j x.0 x.0 x.1 in
      let other : get_or put k x.0 ≡ y.0 = get_or_from_slice_get put k y.0 x.0 y.1 in
      let a = ap (λ (m : MethodStates). m.offset) one in
      let b = ap (λ (m : MethodStates). m.offset) other in
      let c = ap (λ (m : Row). m.offset) x.2 in
      let d = ap (λ (m : Row). m.offset) y.2 in
      let past = slice_get_within (rows put) k s f in
      let apart = apart_from_distinct (λ (p q : Row). p.offset == q.offset) (rows put) j k r put_distinct lt past in
      let differ : r.offset == s.offset ≡ false = ap (λ (p : Row). p.offset == s.offset) (sym (get_or_from_slice_get (rows put) j r r e)) ∙ ap (λ (q : Row). (get_or (rows put) j r).offset == q.offset) (sym (get_or_from_slice_get (rows put) k s r f)) ∙ apart in
      below r.offset s.offset (omega (arith, le, a, b, c, d)) differ
    where
      below : (a b : ℕ) → a ≤ b → a == b ≡ false → a < b
      below a b le apart = by (cases_eq a b)
        where
          by : (a ≡ b) ⊎ (a ≡ b → ⊥) → a < b
          by h1 = grind (arith, eq-eqb)

  pub is_cert : IsCert (rows put)
  is_cert = record {
    count = let n = length_permutation of (rows put) order in omega (arith, n, gathered.few, few);
    each =
        all_by_place IsRow (rows put) (λ n r e.
        let j = moved (rows put) of (IsPermutation-sym of (rows put) order) n r e in
        is_row l fit (length l.body.kept.methods) r (gathered.come j.0 r j.1));
    ascend = offsets_ascend (rows put) 0 (λ n r e. omega arith) lower;
  }
