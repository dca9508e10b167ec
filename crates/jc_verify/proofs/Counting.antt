-- Numbering the places at the pcs of a set.
use Rattle.std.proofs.Common.{◌≡◌, ◌⊎◌, inl, inr, ℕ, zero, suc, ◌+◌, ◌<◌, ◌≤◌, true, false, List, [], ◌∷◌, ◌++◌, length, Option, Some, None, slice_get, refl, sym, ap, ◌∙◌, arith}
use Rattle.std.proofs.lemmas.Bool.{cases_eq}
use Rattle.std.proofs.lemmas.Option.{none-some, same_Some, slice_get_within}
use Rattle.jc_base.specs.NumberSet.{has_number}
use Rattle.jc_types.specs.State.{StateWithRoom}
use Rattle.jc_verify.specs.PrivateCarrier.{HasPlace}
use Rattle.jc_verify.specs.PrivateFlow.{Places, number_at}
use Rattle.jc_verify.specs.PrivateSettled.{AreNumbered}
use Rattle.jc_verify.specs.declared.place.Place.{Place}
use Rattle.jc_verify.proofs.Arriving.{number_within}
use Rattle.jc_verify.proofs.Lists.{get_either, length_more}

-- ---- one more at the end

number_past : (ns : List (Option ℕ)) (pc : ℕ) → length ns ≤ pc → number_at ns pc ≡ None
number_past (n ∷ ns) zero h = absurd (omega (arith, h))
number_past (n ∷ ns) (suc pc) h = number_past ns pc (omega (arith, h))
number_past t u h = refl

number_before : (ns : List (Option ℕ)) (x : Option ℕ) (pc : ℕ) → pc < length ns → number_at (ns ++ x ∷ []) pc ≡ number_at ns pc
number_before [] x pc h = absurd (omega (arith, h))
number_before (n ∷ ns) x zero h = refl
number_before (n ∷ ns) x (suc pc) h = number_before ns x pc (omega (arith, h))

number_last : (ns : List (Option ℕ)) (x : Option ℕ) → number_at (ns ++ x ∷ []) (length ns) ≡ x
number_last [] x = refl
number_last (n ∷ ns) x = number_last ns x

-- a number at a pc is one of those before, or the last
number_either : (ns : List (Option ℕ)) (x : Option ℕ) (pc n : ℕ) → number_at (ns ++ x ∷ []) pc ≡ Some n → (number_at ns pc ≡ Some n) ⊎ ((pc ≡ length ns) × (x ≡ Some n))
number_either [] x zero n e = inr (refl, e)
number_either [] x (suc pc) n e = absurd (none-some n e)
number_either (y ∷ ns) x zero n e = inl e
number_either (y ∷ ns) x (suc pc) n e = by_rest (number_either ns x pc n e)
  where
    by_rest : (number_at ns pc ≡ Some n) ⊎ ((pc ≡ length ns) × (x ≡ Some n)) → (number_at (y ∷ ns) (suc pc) ≡ Some n) ⊎ ((suc pc ≡ suc (length ns)) × (x ≡ Some n))
    by_rest h1 = grind arith

module _ (entries : List ℕ) (pc : ℕ) (numbers : List (Option ℕ)) (places : Places) (so_far : AreNumbered entries pc numbers places) where
  -- a number stays where it is
  kept : (x : Option ℕ) (at : ℕ) → HasPlace numbers at → HasPlace (numbers ++ x ∷ []) at
  kept x at h = record { number = h.number; is = number_before numbers x at (number_within numbers at h.number h.is) ∙ h.is }

  -- no place is at this pc
  pub without : has_number entries pc ≡ false → AreNumbered entries (pc + 1) (numbers ++ None ∷ []) places
  without none = record {
    sized = let k = length_more numbers None in omega (arith, k, so_far.sized);
    few = omega (arith, so_far.few);
    numbered = record {
      within = λ at n e. within at n (number_either numbers None at n e);
      known = λ n p e.
          let k = so_far.numbered.known n p e in
          number_before numbers None p.pc (number_within numbers p.pc n k) ∙ k;
      found = λ at n p e f. found at n p f (number_either numbers None at n e);
    };
    empty = so_far.empty;
    entered = so_far.entered;
    all = λ at lt is. all at lt is (cases_eq at pc);
    ascend = λ pc at j k e f. ascend pc at j k (number_either numbers None pc j e) (number_either numbers None at k f);
  }
    where
      ascend : (pc at j k : ℕ) → (number_at numbers pc ≡ Some j) ⊎ ((pc ≡ length numbers) × (None ≡ Some j)) → (number_at numbers at ≡ Some k) ⊎ ((at ≡ length numbers) × (None ≡ Some k)) → j < k → pc < at
      ascend pc at j k h1 h2 h3 = grind (arith, none-some)

      all : (at : ℕ) → at < pc + 1 → has_number entries at ≡ true → (at ≡ pc) ⊎ (at ≡ pc → ⊥) → HasPlace (numbers ++ None ∷ []) at
      all at h1 h2 h3 = grind (arith, kept)

      within : (at n : ℕ) → (number_at numbers at ≡ Some n) ⊎ ((at ≡ length numbers) × (None ≡ Some n)) → n < length places
      within at n h1 = grind (arith, none-some)

      found : (at n : ℕ) (p : Place StateWithRoom) → slice_get places n ≡ Some p → (number_at numbers at ≡ Some n) ⊎ ((at ≡ length numbers) × (None ≡ Some n)) → p.pc ≡ at
      found at n p h1 h2 = grind (arith, none-some)

  -- a place without anything
  abbrev pub blank : Place StateWithRoom
  blank = record { pc = pc; held = None; changed = false }

  pub with_one : has_number entries pc ≡ true
      → AreNumbered entries (pc + 1) (numbers ++ Some (length places) ∷ []) (places ++ blank ∷ [])
  with_one is = record {
    sized = let k = length_more numbers (Some (length places)) in omega (arith, k, so_far.sized);
    few = let k = length_more places blank in omega (arith, k, so_far.few);
    numbered = record {
      within = λ at n e. within at n (number_either numbers (Some (length places)) at n e);
      known = λ n p e. known n p (get_either places blank p n e);
      found = λ at n p e f. found at n p (number_either numbers (Some (length places)) at n e) (get_either places blank p n f);
    };
    empty = λ k p e. empty k p (get_either places blank p k e);
    entered = λ k p e. entered k p (get_either places blank p k e);
    all = λ at lt e. all at lt e (cases_eq at pc);
    ascend = λ pc at j k e f. ascend pc at j k (number_either numbers (Some (length places)) pc j e) (number_either numbers (Some (length places)) at k f);
  }
    where
      ascend : (pc at j k : ℕ) → (number_at numbers pc ≡ Some j) ⊎ ((pc ≡ length numbers) × (Some (length places) ≡ Some j)) → (number_at numbers at ≡ Some k) ⊎ ((at ≡ length numbers) × (Some (length places) ≡ Some k)) → j < k → pc < at
      ascend pc at j k (inl e) (inl f) lt = so_far.ascend pc at j k e f lt
      ascend pc at j k (inl e) (inr (h, f)) lt = let w = number_within numbers pc j e in omega (arith, w, h)
      ascend pc at j k (inr (h, e)) (inl f) lt = let w = so_far.numbered.within at k f in let i = same_Some (length places) j e in absurd (omega (arith, w, i, lt))
      ascend pc at j k (inr (h, e)) (inr (i, f)) lt = let a = same_Some (length places) j e in let b = same_Some (length places) k f in absurd (omega (arith, a, b, lt))

      all : (at : ℕ) → at < pc + 1 → has_number entries at ≡ true → (at ≡ pc) ⊎ (at ≡ pc → ⊥) → HasPlace (numbers ++ Some (length places) ∷ []) at
      all at lt e (inl same) = record { number = length places; is = ap (number_at (numbers ++ Some (length places) ∷ [])) (same ∙ sym so_far.sized) ∙ number_last numbers (Some (length places)) }
      all at lt e (inr apart) = kept (Some (length places)) at (so_far.all at (omega (arith, lt, apart)) e)

      within : (at n : ℕ) → (number_at numbers at ≡ Some n) ⊎ ((at ≡ length numbers) × (Some (length places) ≡ Some n)) → n < length (places ++ blank ∷ [])
      within at n h1 = grind (arith, length_more, same_Some)

      known : (n : ℕ) (p : Place StateWithRoom) → (slice_get places n ≡ Some p) ⊎ ((n ≡ length places) × (blank ≡ p)) → number_at (numbers ++ Some (length places) ∷ []) p.pc ≡ Some n
      known n p (inl e) = let k = so_far.numbered.known n p e in number_before numbers (Some (length places)) p.pc (number_within numbers p.pc n k) ∙ k
      known n p (inr (h, e)) =
          ap (λ (x : Place StateWithRoom). number_at (numbers ++ Some (length places) ∷ []) x.pc) (sym e) ∙ ap (number_at (numbers ++ Some (length places) ∷ [])) (sym so_far.sized)
          ∙ number_last numbers (Some (length places)) ∙ ap Some (sym h)

      found : (at n : ℕ) (p : Place StateWithRoom) → (number_at numbers at ≡ Some n) ⊎ ((at ≡ length numbers) × (Some (length places) ≡ Some n)) → (slice_get places n ≡ Some p) ⊎ ((n ≡ length places) × (blank ≡ p)) → p.pc ≡ at
      found at n p h1 h2 = grind (arith, within, slice_get_within, same_Some)

      empty : (k : ℕ) (p : Place StateWithRoom) → (slice_get places k ≡ Some p) ⊎ ((k ≡ length places) × (blank ≡ p)) → p.held ≡ None
      empty k p h1 = grind arith

      entered : (k : ℕ) (p : Place StateWithRoom) → (slice_get places k ≡ Some p) ⊎ ((k ≡ length places) × (blank ≡ p)) → has_number entries p.pc ≡ true
      entered k p h1 = grind arith

pub none_numbered : (entries : List ℕ) → AreNumbered entries 0 [] []
none_numbered entries = record {
  sized = refl;
  few = omega arith;
  numbered = record { within = λ pc n e. absurd (none-some n (sym (number_past [] pc (omega arith)) ∙ e)); known = λ n p e. absurd (none-some p e); found = λ pc n p e f. absurd (none-some p f) };
  empty = λ k p e. absurd (none-some p e);
  entered = λ k p e. absurd (none-some p e);
  all = λ at lt is. absurd (omega (arith, lt));
  ascend = λ pc at j k e. absurd (none-some j (sym (number_past [] pc (omega arith)) ∙ e));
}
