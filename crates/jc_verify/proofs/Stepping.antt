-- Places that are raised one step after the other.
use Rattle.std.proofs.Common.{◌≡◌, inl, inr, ℕ, zero, suc, ◌<◌, ◌≤◌, Bool, true, List, [], ◌∷◌, length, Some, slice_get, refl, sym, ap, subst, ◌∙◌, arith}
use Rattle.std.proofs.lemmas.Option.{same_Some}
use Rattle.jc_verify.specs.PrivatePlaces.{AreSteps, IsRaised, IsStep, all_left, left_of}
use Rattle.jc_verify.specs.declared.place.Place.{Place}

module _ {L : Type 0} (below : L → L → Bool) (height : L → ℕ) (most : ℕ) where
  pub steps_none : (places : List (Place L)) → AreSteps below height most places places
  steps_none places = record { len = refl; each = λ n p q e f. inl (same_Some q p (sym f ∙ e)) }

  -- what stands at a place of a list that is as long
  pub stands : (xs ys : List (Place L)) → length ys ≡ length xs → (n : ℕ) (x : Place L) → slice_get xs n ≡ Some x → (y : Place L) × (slice_get ys n ≡ Some y)
  stands [] ys e n x h = absurd cc
  stands (a ∷ xs) [] e n x h = absurd (omega (arith, e))
  stands (a ∷ xs) (b ∷ ys) e zero x h = (b, refl)
  stands (a ∷ xs) (b ∷ ys) e (suc n) x h = stands xs ys (omega (arith, e)) n x h

  module _ (through : (x y z : L) → below x y ≡ true → below y z ≡ true → below x z ≡ true) where
    step_through : (p q r : Place L) → IsStep below height most p q → IsStep below height most q r → IsStep below height most p r
    step_through p q r (inl e) k = subst (λ x. IsStep below height most x r) e k
    step_through p q r (inr h) (inl e) = inr (subst (λ x. IsRaised below height most p x) (sym e) h)
    step_through p q r (inr h) (inr k) = inr (record {
      same = k.same ∙ h.same;
      changed = k.changed;
      above = λ x e. let y = h.above x e in let z = k.above y.value y.held in record { value = z.value; held = z.held; above = through x y.value z.value y.above z.above };
      less = omega (arith, h.less, k.less);
    })

    pub steps_through : (a b c : List (Place L)) → AreSteps below height most a b → AreSteps below height most b c → AreSteps below height most a c
    steps_through a b c g h = record {
      len = h.len ∙ g.len;
      each = λ n p r e f. let q = stands a b g.len n p e in step_through p q.0 r (g.each n p q.0 e q.1) (h.each n q.0 r q.1 f);
    }

  -- ---- how far they may still rise

  pub tails : (p q : Place L) (ps qs : List (Place L)) → AreSteps below height most (p ∷ ps) (q ∷ qs) → AreSteps below height most ps qs
  tails p q ps qs h = record { len = omega (arith, h.len); each = λ n x y e f. h.each (suc n) x y e f }

  step_left : (p q : Place L) → IsStep below height most p q → left_of height most q ≤ left_of height most p
  step_left p q h1 = grind arith

  pub left_falls : (a b : List (Place L)) → AreSteps below height most a b → all_left height most b ≤ all_left height most a
  left_falls [] [] h = omega arith
  left_falls (p ∷ ps) (q ∷ qs) h = omega (arith, step_left p q (h.each 0 p q refl refl), left_falls ps qs (tails p q ps qs h))
  left_falls t u h = absurd (omega (arith, h.len))

  -- a place that was raised lets it fall
  pub raised_falls : (a b : List (Place L)) → AreSteps below height most a b → (n : ℕ) (p q : Place L) → slice_get a n ≡ Some p → slice_get b n ≡ Some q → IsRaised below height most p q
      → all_left height most b < all_left height most a
  raised_falls (x ∷ ps) (y ∷ qs) h zero p q e f r =
      let u : left_of height most p ≡ left_of height most x = ap (left_of height most) (sym (same_Some x p e)) in
      let v : left_of height most q ≡ left_of height most y = ap (left_of height most) (sym (same_Some y q f)) in
      omega (arith, r.less, u, v, left_falls ps qs (tails x y ps qs h))
  raised_falls (x ∷ ps) (y ∷ qs) h (suc n) p q e f r = omega (arith, step_left x y (h.each 0 x y refl refl), raised_falls ps qs (tails x y ps qs h) n p q e f r)
  raised_falls t b h n p q e f r = absurd cc
