-- Private. Lists of types and states are ordered and joined element by element, and their heights fall upward, for a
-- lattice of classes: the laws of the impl of `Lattice`. They stand here since an impl cites nothing else of its crate.
use Rattle.std.proofs.Common.{◌≡◌, ℕ, suc, ◌<◌, ◌≤◌, ◌==◌, ◌⊎◌, inl, inr, Bool, true, false, ◌&&◌, List, [], ◌∷◌}
use Rattle.std.proofs.Common.{length, refl, ap, ◌∙◌, arith}
use Rattle.std.proofs.lemmas.Bool.{eqb-true, eq-eqb}
use Rattle.std.proofs.lemmas.List.Sums.{sum_by-cons}
use Rattle.std.specs.List.{sum_by}
use Rattle.jc_classes.specs.Subtype.{IsOrder, IsClassLattice}
use Rattle.jc_names.specs.declared.name.ClassName.{ClassName}
use Rattle.jc_types.specs.declared.ty.Ty.{Ty}
use Rattle.jc_types.specs.Ty.{is_below, join_of, height_of}
use Rattle.jc_types.specs.PrivateOrder.{below_self, below_both, below_through}
use Rattle.jc_types.specs.PrivateLeast.{least}
use Rattle.jc_types.specs.PrivateHeight.{height_falls, height_no_more}
use Rattle.jc_types.specs.State.{Types, all_below, types_below, has_shape_of, joined_all, joined_types, IsJoin}
use Rattle.jc_types.specs.State.{height_of_types}

both_true : (a b : Bool) → (a && b) ≡ true → (a ≡ true) × (b ≡ true)
both_true a b h1 = grind arith

both : (a b : Bool) → a ≡ true → b ≡ true → (a && b) ≡ true
both a b h1 h2 = grind arith

-- one of two tests fails
one_false : (a b : Bool) → (a && b) ≡ false → (a ≡ false) ⊎ (b ≡ false)
one_false a b h1 = grind arith

-- ---- the order

module _ (below : ClassName → ClassName → Bool) (order : IsOrder below) where
  all_below_self : (ts : List Ty) → all_below below ts ts ≡ true
  all_below_self [] = refl
  all_below_self (t ∷ ts) = rw (below_self below order t, all_below_self ts) refl

  all_below_both : (ts us : List Ty) → all_below below ts us ≡ true → all_below below us ts ≡ true → ts ≡ us
  all_below_both [] [] h k = refl
  all_below_both [] (b ∷ us) h k = absurd cc
  all_below_both (a ∷ ts) [] h k = absurd cc
  all_below_both (a ∷ ts) (b ∷ us) h k =
      let p = both_true (is_below below a b) (all_below below ts us) h in
      let q = both_true (is_below below b a) (all_below below us ts) k in
      ap (λ (t : Ty). t ∷ ts) (below_both below order a b p.0 q.0)
      ∙ ap (λ (ts : List Ty). b ∷ ts) (all_below_both ts us p.1 q.1)

  all_below_through : (ts us vs : List Ty) → all_below below ts us ≡ true → all_below below us vs ≡ true
      → all_below below ts vs ≡ true
  all_below_through [] [] [] h k = refl
  all_below_through [] [] (c ∷ vs) h k = absurd cc
  all_below_through [] (b ∷ us) vs h k = absurd cc
  all_below_through (a ∷ ts) [] vs h k = absurd cc
  all_below_through (a ∷ ts) (b ∷ us) [] h k = absurd cc
  all_below_through (a ∷ ts) (b ∷ us) (c ∷ vs) h k =
      let p = both_true (is_below below a b) (all_below below ts us) h in
      let q = both_true (is_below below b c) (all_below below us vs) k in
      rw (below_through below order a b c p.0 q.0, all_below_through ts us vs p.1 q.1) refl

  pub types_below_self : (s : Types) → types_below below s s ≡ true
  types_below_self s = rw (all_below_self s.locals, all_below_self s.operands) refl

  -- the state with these locals and operands
  abbrev state_of : List Ty → List Ty → Types
  state_of locals operands = record { locals = locals; operands = operands }

  pub types_below_both : (s t : Types) → types_below below s t ≡ true → types_below below t s ≡ true → s ≡ t
  types_below_both s t h k =
      let p = both_true (all_below below s.locals t.locals) (all_below below s.operands t.operands) h in
      let q = both_true (all_below below t.locals s.locals) (all_below below t.operands s.operands) k in
      ap (λ (ts : List Ty). state_of ts s.operands) (all_below_both s.locals t.locals p.0 q.0)
      ∙ ap (λ (ts : List Ty). state_of t.locals ts) (all_below_both s.operands t.operands p.1 q.1)

  pub types_below_through : (s t u : Types) → types_below below s t ≡ true → types_below below t u ≡ true
      → types_below below s u ≡ true
  types_below_through s t u h k =
      let p = both_true (all_below below s.locals t.locals) (all_below below s.operands t.operands) h in
      let q = both_true (all_below below t.locals u.locals) (all_below below t.operands u.operands) k in
      rw (
        all_below_through s.locals t.locals u.locals p.0 q.0,
        all_below_through s.operands t.operands u.operands p.1 q.1,
      ) refl

-- ---- states of one shape

same_lengths : (below : ClassName → ClassName → Bool) (ts us : List Ty) → all_below below ts us ≡ true
    → length ts ≡ length us
same_lengths below [] [] h = refl
same_lengths below [] (b ∷ us) h = absurd cc
same_lengths below (a ∷ ts) [] h = absurd cc
same_lengths below (a ∷ ts) (b ∷ us) h =
    ap (λ n. suc n) (same_lengths below ts us (both_true (is_below below a b) (all_below below ts us) h).1)

-- two lists below one list have one length
one_length : (below : ClassName → ClassName → Bool) (ts us vs : List Ty) → all_below below ts vs ≡ true
    → all_below below us vs ≡ true → (length ts == length us) ≡ true
one_length below ts us vs h k = grind (arith, eq-eqb, same_lengths)

pub one_shape : (below : ClassName → ClassName → Bool) (s t u : Types) → types_below below s u ≡ true
    → types_below below t u ≡ true → has_shape_of s t ≡ true
one_shape below s t u h k =
    let p = both_true (all_below below s.locals u.locals) (all_below below s.operands u.operands) h in
    let q = both_true (all_below below t.locals u.locals) (all_below below t.operands u.operands) k in
    both (length s.locals == length t.locals) (length s.operands == length t.operands)
    (one_length below s.locals t.locals u.locals p.0 q.0) (one_length below s.operands t.operands u.operands p.1 q.1)

pub lengths_of : (s t : Types) → has_shape_of s t ≡ true
    → (length s.locals ≡ length t.locals) × (length s.operands ≡ length t.operands)
lengths_of s t h =
    let p = both_true (length s.locals == length t.locals) (length s.operands == length t.operands) h in
    (eqb-true (length s.locals) (length t.locals) p.0, eqb-true (length s.operands) (length t.operands) p.1)

-- ---- joins and heights

module _ (below : ClassName → ClassName → Bool) (common : ClassName → ClassName → ClassName) (above : ClassName → ℕ)
    (most : ℕ) (lattice : IsClassLattice below common above most) where
  all_above_one : (ts us : List Ty) → length ts ≡ length us → all_below below ts (joined_all common ts us) ≡ true
  all_above_one [] [] e = refl
  all_above_one [] (b ∷ us) e = absurd (omega (arith, e))
  all_above_one (a ∷ ts) [] e = absurd (omega (arith, e))
  all_above_one (a ∷ ts) (b ∷ us) e = search (arith, both, all_above_one ts us (omega (arith, e)))

  all_above_other : (ts us : List Ty) → length ts ≡ length us → all_below below us (joined_all common ts us) ≡ true
  all_above_other [] [] e = refl
  all_above_other [] (b ∷ us) e = absurd (omega (arith, e))
  all_above_other (a ∷ ts) [] e = absurd (omega (arith, e))
  all_above_other (a ∷ ts) (b ∷ us) e = search (arith, both, all_above_other ts us (omega (arith, e)))

  all_least : (ts us vs : List Ty) → all_below below ts vs ≡ true → all_below below us vs ≡ true
      → all_below below (joined_all common ts us) vs ≡ true
  all_least [] [] vs h k = h
  all_least [] (b ∷ us) [] h k = refl
  all_least [] (b ∷ us) (c ∷ vs) h k = absurd cc
  all_least (a ∷ ts) [] [] h k = refl
  all_least (a ∷ ts) [] (c ∷ vs) h k = absurd cc
  all_least (a ∷ ts) (b ∷ us) [] h k = absurd cc
  all_least (a ∷ ts) (b ∷ us) (c ∷ vs) h k =
      let p = both_true (is_below below a c) (all_below below ts vs) h in
      let q = both_true (is_below below b c) (all_below below us vs) k in
      both (is_below below (join_of common a b) c) (all_below below (joined_all common ts us) vs)
      (least below common above most lattice a b c p.0 q.0) (all_least ts us vs p.1 q.1)

  pub types_above_one : (s t : Types) → has_shape_of s t ≡ true → types_below below s (joined_types common s t) ≡ true
  types_above_one s t h = grind (arith, lengths_of, both, all_above_one)

  pub types_above_other : (s t : Types) → has_shape_of s t ≡ true → types_below below t (joined_types common s t) ≡ true
  types_above_other s t h = grind (arith, lengths_of, both, all_above_other)

  pub types_least : (s t u : Types) → types_below below s u ≡ true → types_below below t u ≡ true
      → types_below below (joined_types common s t) u ≡ true
  types_least s t u h k =
      let p = both_true (all_below below s.locals u.locals) (all_below below s.operands u.operands) h in
      let q = both_true (all_below below t.locals u.locals) (all_below below t.operands u.operands) k in
      both (all_below below (joined_all common s.locals t.locals) u.locals)
      (all_below below (joined_all common s.operands t.operands) u.operands)
      (all_least s.locals t.locals u.locals p.0 q.0) (all_least s.operands t.operands u.operands p.1 q.1)

  pub is_join : (s t : Types) → has_shape_of s t ≡ true → IsJoin below s t (joined_types common s t)
  is_join s t h = record { first = types_above_one s t h; second = types_above_other s t h; least = types_least s t }

  -- the height of a list
  abbrev steps : List Ty → ℕ
  steps ts = sum_by (height_of above most) ts

  -- sums of heights don't grow upward
  all_no_more : (ts us : List Ty) → all_below below ts us ≡ true → steps us ≤ steps ts
  all_no_more [] [] h = omega arith
  all_no_more [] (b ∷ us) h = absurd cc
  all_no_more (a ∷ ts) [] h = absurd cc
  all_no_more (a ∷ ts) (b ∷ us) h =
      let p = both_true (is_below below a b) (all_below below ts us) h in
      omega (
        arith,
        sum_by-cons (height_of above most) a ts,
        sum_by-cons (height_of above most) b us,
        height_no_more below common above most lattice a b p.0,
        all_no_more ts us p.1,
      )

  all_fall : (ts us : List Ty) → all_below below ts us ≡ true → all_below below us ts ≡ false → steps us < steps ts
  all_fall [] [] h k = absurd cc
  all_fall [] (b ∷ us) h k = absurd cc
  all_fall (a ∷ ts) [] h k = absurd cc
  all_fall (a ∷ ts) (b ∷ us) h k =
      let p = both_true (is_below below a b) (all_below below ts us) h in
      by_case p.0 p.1 (all_fall ts us p.1) (one_false (is_below below b a) (all_below below us ts) k)
    where
      by_case : is_below below a b ≡ true → all_below below ts us ≡ true
          → (all_below below us ts ≡ false → steps us < steps ts)
          → (is_below below b a ≡ false) ⊎ (all_below below us ts ≡ false) → steps (b ∷ us) < steps (a ∷ ts)
      by_case one all rest (inl e) =
          omega (
            arith,
            sum_by-cons (height_of above most) a ts,
            sum_by-cons (height_of above most) b us,
            height_falls below common above most lattice a b one e,
            all_no_more ts us all,
          )
      by_case one all rest (inr e) =
          omega (
            arith,
            sum_by-cons (height_of above most) a ts,
            sum_by-cons (height_of above most) b us,
            height_no_more below common above most lattice a b one,
            rest e,
          )

  pub types_fall : (s t : Types) → types_below below s t ≡ true → types_below below t s ≡ false
      → height_of_types above most t < height_of_types above most s
  types_fall s t h k = by_case (one_false (all_below below t.locals s.locals) (all_below below t.operands s.operands) k)
    where
      p : (all_below below s.locals t.locals ≡ true) × (all_below below s.operands t.operands ≡ true)
      p = both_true (all_below below s.locals t.locals) (all_below below s.operands t.operands) h

      by_case : (all_below below t.locals s.locals ≡ false) ⊎ (all_below below t.operands s.operands ≡ false)
          → height_of_types above most t < height_of_types above most s
      by_case h1 = grind (arith, all_fall, p, all_no_more)
