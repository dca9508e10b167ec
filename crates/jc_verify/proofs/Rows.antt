-- The rows of a package's methods, one more.
use Rattle.std.proofs.Common.{◌≡◌, ◌⊎◌, inl, inr, ℕ, ◌+◌, ◌<◌, ◌≤◌, ◌^◌, List, [], ◌∷◌, ◌++◌, length, Some, slice_get, sym, ap, subst, ◌∙◌, arith}
use Rattle.std.proofs.lemmas.Bool.{cases_eq}
use Rattle.std.proofs.lemmas.Option.{same_Some}
use Rattle.jc_cap_desc.specs.Shape.{MethodBody, StandApart}
use Rattle.jc_cert.specs.Cert.{Row, Stated}
use Rattle.jc_link.specs.Linked.{Linked}
use Rattle.jc_check.specs.Package.{method_of}
use Rattle.jc_verify.specs.PrivateGathered.{AreGathered, HasRow, IsInferred, IsPut, IsRowOf, Stands}
use Rattle.jc_verify.proofs.Lists.{get_either, get_kept, get_last, length_more}

module _ (l : Linked) (apart : StandApart l.body.kept.methods) (n : ℕ) (of : List Row) (so_far : AreGathered l n of) (b : MethodBody) (at : slice_get l.body.kept.methods n ≡ Some b) where
  -- a method among one more is one of those before, or the last
  either : (k : ℕ) (c : MethodBody) → Stands l (n + 1) k c → Stands l n k c ⊎ ((k ≡ n) × (b ≡ c))
  either k c s = by_place (cases_eq k n)
    where
      by_place : (k ≡ n) ⊎ (k ≡ n → ⊥) → Stands l n k c ⊎ ((k ≡ n) × (b ≡ c))
      by_place h1 = grind (arith, same_Some)

  more : (k : ℕ) (c : MethodBody) → Stands l n k c → Stands l (n + 1) k c
  more k c s = record { first = omega (arith, s.first); is = s.is }

  row_more : (r : Row) → IsRowOf l n r → IsRowOf l (n + 1) r
  row_more r h = record { place = h.place; method = h.method; stands = more h.place h.method h.stands; offset = h.offset; small = h.small; some = h.some; inferred = h.inferred }

  -- no method before stands at its offset
  none_before : (k : ℕ) (c : MethodBody) → Stands l n k c → c.offset ≡ b.offset → ⊥
  none_before k c s e = let same = apart.differ k n c b s.is at e in absurd (omega (arith, same, s.first))

  pub without_row : IsInferred l (method_of l b) [] → AreGathered l (n + 1) of
  without_row carried = record {
    each = λ k c s. each k c (either k c s);
    come = λ k r e. row_more r (so_far.come k r e);
    distinct = so_far.distinct;
    few = omega (arith, so_far.few);
  }
    where
      each : (k : ℕ) (c : MethodBody) → Stands l n k c ⊎ ((k ≡ n) × (b ≡ c)) → IsInferred l (method_of l c) [] ⊎ HasRow of c.offset
      each k c h1 = grind arith

  -- its row
  abbrev own_row : List Stated → Row
  own_row states = record { offset = b.offset; states = states }

  pub with_row : (states : List Stated) → b.offset < 2 ^ 16 → 1 ≤ length states → IsInferred l (method_of l b) states → AreGathered l (n + 1) (of ++ own_row states ∷ [])
  with_row states small some carried = record {
    each = λ k c s. each k c (either k c s);
    come = λ k r e. come k r (get_either of (own_row states) r k e);
    distinct = λ j k r s e f same. distinct j k r s same (get_either of (own_row states) r j e) (get_either of (own_row states) s k f);
    few = let k = length_more of (own_row states) in omega (arith, k, so_far.few);
  }
    where
      -- a row of those before isn't for its offset
      is_fresh : (j : ℕ) (r : Row) → slice_get of j ≡ Some r → r.offset ≡ b.offset → ⊥
      is_fresh j r e same = let h = so_far.come j r e in none_before h.place h.method h.stands (sym h.offset ∙ same)

      distinct : (j k : ℕ) (r s : Row) → r.offset ≡ s.offset → (slice_get of j ≡ Some r) ⊎ ((j ≡ length of) × (own_row states ≡ r)) → (slice_get of k ≡ Some s) ⊎ ((k ≡ length of) × (own_row states ≡ s)) → j ≡ k
      distinct j k r s h1 h2 h3 = grind (arith, is_fresh)

      each : (k : ℕ) (c : MethodBody) → Stands l n k c ⊎ ((k ≡ n) × (b ≡ c)) → IsInferred l (method_of l c) [] ⊎ HasRow (of ++ own_row states ∷ []) c.offset
      each k c (inl s) = of_row (so_far.each k c s)
        where
          of_row : IsInferred l (method_of l c) [] ⊎ HasRow of c.offset → IsInferred l (method_of l c) [] ⊎ HasRow (of ++ own_row states ∷ []) c.offset
          of_row h1 = grind (arith, get_kept)
      each k c (inr (is, same)) = inr (record { place = length of; row = own_row states; is = get_last of (own_row states); for = ap (λ (x : MethodBody). x.offset) same })

      come : (k : ℕ) (r : Row) → (slice_get of k ≡ Some r) ⊎ ((k ≡ length of) × (own_row states ≡ r)) → IsRowOf l (n + 1) r
      come k r h1 = grind (arith, row_more)

  pub put : (states : List Stated) (after : List Row) → b.offset < 2 ^ 16 → IsInferred l (method_of l b) states → IsPut b.offset states of after → AreGathered l (n + 1) after
  put states after small carried (inl (none, same)) = subst (AreGathered l (n + 1)) (sym same) (without_row (subst (IsInferred l (method_of l b)) none carried))
  put states after small carried (inr (some, same)) = subst (AreGathered l (n + 1)) (sym same) (with_row states small some carried)
