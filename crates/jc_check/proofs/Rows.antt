-- The rows of a certificate ascend by their offsets: where they are no longer below an offset stands the row for it, if there is one.
use Rattle.std.proofs.Common.{◌≡◌, ℕ, zero, suc, ◌+◌, ◌<◌, ◌≤◌, ◌==◌, Bool, true, false, cond, not, List, [], ◌∷◌, length, Option, Some, None, refl, ap, subst, ◌∙◌, arith, nat_lt, slice_get, slice_index_or}
use Rattle.std.proofs.lemmas.Bool.{ltb-true, ltb-false, ne_eqb}
use Rattle.std.proofs.lemmas.List.Sorted.{IsPartitionedBy-ltb}
use Rattle.std.proofs.lemmas.List.{length-map}
use Rattle.std.proofs.lemmas.Option.{same_Some}
use Rattle.std.specs.List.{AllByRecursion, AllWithin, find}
use Rattle.std.specs.List.Sorted.{IsNonDecreasingBy, IsPartitionedBy}
use Rattle.std.specs.Option.{option_map}
use Rattle.jc_cert.specs.Cert.{IsRow, OffsetsAscend, Row, row, rows}
use Rattle.jc_cert.specs.declared.cert.MethodStates.{MethodStates}

-- no row from an offset on is for one below it
none_above : (of : List Row) (least o : ℕ) → OffsetsAscend least of → o < least → find (λ r. r.offset == o) of ≡ None
none_above [] least o h l = refl
none_above (r ∷ of) least o h l =
    ap (λ b. cond b (Some r) (find (λ r. r.offset == o) of)) (ne_eqb r.offset o (λ e. omega (arith, h.0, l, e))) ∙ none_above of (r.offset + 1) o h.1 (omega (arith, h.0, l))

-- a row, if it is for an offset
abbrev pub if_for : ℕ → Option MethodStates → Option MethodStates
if_for o None = None
if_for o (Some m) = cond (m.offset == o) (Some m) None

pub row_at_cut : (ms : List MethodStates) (least i o : ℕ) → OffsetsAscend least (rows ms) → AllWithin (λ m. nat_lt m.offset o ≡ true) ms 0 i
    → AllWithin (λ m. nat_lt m.offset o ≡ false) ms i (length ms) → find (λ r. r.offset == o) (rows ms) ≡ option_map row (if_for o (slice_get ms i))
row_at_cut [] least i o h below above = refl
row_at_cut (m ∷ ms) least zero o h below above = by_test (m.offset == o) refl
  where
    by_test : (b : Bool) → (m.offset == o) ≡ b → cond b (Some (row m)) (find (λ r. r.offset == o) (rows ms)) ≡ option_map row (cond b (Some m) None)
    by_test true e = refl
    by_test false e = none_above (rows ms) (m.offset + 1) o h.1 (past (ltb-false m.offset o (above 0 m (omega arith) (omega arith))) e)
      where
        past : o ≤ m.offset → (m.offset == o) ≡ false → o < m.offset + 1
        past l e = omega (arith, l)
row_at_cut (m ∷ ms) least (suc i) o h below above =
    ap (λ b. cond b (Some (row m)) (find (λ r. r.offset == o) (rows ms))) (ne_eqb m.offset o (λ e. omega (arith, ltb-true m.offset o (below 0 m (omega arith) (omega arith)), e)))
    ∙ row_at_cut ms (m.offset + 1) i o h.1 (λ k d l g. below (suc k) d (omega arith) (omega (arith, g))) (λ k d l g. above (suc k) d (omega (arith, l)) (omega (arith, g)))

-- ---- each is a row

pub few_states : (ms : List MethodStates) (i : ℕ) (m : MethodStates) → AllByRecursion IsRow (rows ms) → slice_get ms i ≡ Some m → length m.states.items < 65536
few_states [] i m h e = absurd cc
few_states (x ∷ ms) zero m h e = subst (λ (y : MethodStates). length y.states.items < 65536) (same_Some x m e) (rw (length-map x.states.items) at h.0.count)
few_states (x ∷ ms) (suc i) m h e = few_states ms i m h.1 e

-- ---- they don't fall

at_least : (ms : List MethodStates) (least k : ℕ) (d : MethodStates) → OffsetsAscend least (rows ms) → k < length ms → least ≤ (slice_index_or ms k d).offset
at_least [] least k d h l = absurd (omega (arith, l))
at_least (m ∷ ms) least zero d h l = h.0
at_least (m ∷ ms) least (suc k) d h l = omega (arith, h.0, at_least ms (m.offset + 1) k d h.1 (omega (arith, l)))

rising : (ms : List MethodStates) (least : ℕ) → OffsetsAscend least (rows ms) → IsNonDecreasingBy (λ m. m.offset) ms
rising [] least h i j d le lt = absurd (omega (arith, lt))
rising (m ∷ ms) least h zero zero d le lt = omega arith
rising (m ∷ ms) least h zero (suc j) d le lt = omega (arith, at_least ms (m.offset + 1) j d h.1 (omega (arith, lt)))
rising (m ∷ ms) least h (suc i) zero d le lt = absurd (omega (arith, le))
rising (m ∷ ms) least h (suc i) (suc j) d le lt = rising ms (m.offset + 1) h.1 i j d (omega (arith, le)) (omega (arith, lt))

pub parted : (ms : List MethodStates) (least o : ℕ) → OffsetsAscend least (rows ms) → IsPartitionedBy (λ m. nat_lt m.offset o) ms
parted ms least o h = IsPartitionedBy-ltb (λ m. m.offset) ms o (rising ms least h)

-- ---- the first row for an offset without code

pub outside_is : (ms : List MethodStates) (has code : ℕ → Bool) → ((o : ℕ) → has o ≡ code o) → option_map row (find (λ m. not (has m.offset)) ms) ≡ find (λ r. not (code r.offset)) (rows ms)
outside_is [] has code same = refl
outside_is (m ∷ ms) has code same = ap (λ b. option_map row (cond (not b) (Some m) (find (λ m. not (has m.offset)) ms))) (same m.offset) ∙ by_test (code m.offset) (outside_is ms has code same)
  where
    by_test : (b : Bool) → option_map row (find (λ m. not (has m.offset)) ms) ≡ find (λ r. not (code r.offset)) (rows ms)
        → option_map row (cond (not b) (Some m) (find (λ m. not (has m.offset)) ms)) ≡ cond (not b) (Some (row m)) (find (λ r. not (code r.offset)) (rows ms))
    by_test b h1 = grind arith
