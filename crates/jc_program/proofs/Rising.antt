-- Rows of bits that are put into those that they are right above.
use Rattle.std.proofs.Common.{◌≡◌, ◌⊎◌, inl, inr, ℕ, zero, suc, ◌+◌, ◌<◌, ◌≤◌, ◌==◌, ◌||◌, Bool, true, false, List, []}
use Rattle.std.proofs.Common.{◌∷◌, ◌++◌, length, take, get_or, set, Some, slice_get, unwrap_or}
use Rattle.std.proofs.Common.{refl, sym, ap, ◌∙◌, arith, set-set}
use Rattle.std.specs.List.{list_any}
use Rattle.std.proofs.lemmas.Bool.{cases_eq, cases_lt, eq-eqb, eqb-true}
use Rattle.jc_program.specs.BitRow.{has_bit}
use Rattle.jc_program.specs.PrivateBitRow.{AreUnited, most_bits, unset}
use Rattle.jc_program.specs.PrivateBitRows.{ArePassed, AreRisen, AreSettled, IsOneAbove, IsRightAbove, has_number}
use Rattle.jc_program.specs.PrivateBitRows.{is_any_listed, unset_in}
use Rattle.jc_program.specs.Supertypes.{is_listed}
use Rattle.jc_program.proofs.Rowing.{empty_row, united_alike, united_both, unset_most}

no_such : {P : Type 0} → true ≡ false → P
no_such e = absurd cc

-- ---- one number more

any_more : (p : ℕ → Bool) (ns : List ℕ) (at : ℕ) → at < length ns
    → (list_any p (take at ns) || p (get_or ns at 0)) ≡ list_any p (take (at + 1) ns)
any_more p [] at less = absurd (omega (arith, less))
any_more p (n ∷ ns) zero less = either_none (p n)
  where
    either_none : (b : Bool) → b ≡ (b || false)
    either_none b = grind arith
any_more p (n ∷ ns) (suc at) less =
    let one : suc at + 1 ≡ suc (at + 1) = omega arith in
    grouped (p n) (list_any p (take at ns)) (p (get_or ns at 0))
    ∙ ap (λ b. p n || b) (any_more p ns at (omega (arith, less)))
    ∙ sym (ap (λ k. list_any p (take k (n ∷ ns))) one)
  where
    grouped : (x y z : Bool) → ((x || y) || z) ≡ (x || (y || z))
    grouped x y z = grind arith

pub all_more : (rows : List (List ℕ)) (numbers : List ℕ) (at number : ℕ) (a b c : List ℕ) (s t : Bool)
    → AreUnited (is_any_listed rows (take at numbers)) a b s → AreUnited (is_listed rows number) b c t
    → number ≡ get_or numbers at 0 → at < length numbers
    → AreUnited (is_any_listed rows (take (at + 1) numbers)) a c (s || t)
all_more rows numbers at number a b c s t one two is less =
    united_alike _ _ a c (s || t) (λ m.
    ap (λ k. list_any (λ n. is_listed rows n m) (take at numbers) || is_listed rows k m) is
    ∙ any_more (λ n. is_listed rows n m) numbers at less) (united_both a b c _ _ s t one two)

-- ---- one row in place of another

pub at_same : (made rows : List (List ℕ)) (at k : ℕ) (row : List ℕ) → at < length rows → k ≡ length made + at
    → slice_get (made ++ set rows at row) k ≡ Some row
at_same [] [] at k row less is = absurd (omega (arith, less))
at_same [] (r ∷ rows) zero zero row less is = refl
at_same [] (r ∷ rows) zero (suc k) row less is = absurd (omega (arith, is))
at_same [] (r ∷ rows) (suc at) zero row less is = absurd (omega (arith, is))
at_same [] (r ∷ rows) (suc at) (suc k) row less is =
    at_same [] rows at k row (omega (arith, less)) (omega (arith, is))
at_same (m ∷ made) rows at zero row less is = absurd (omega (arith, is))
at_same (m ∷ made) rows at (suc k) row less is = at_same made rows at k row less (omega (arith, is))

pub at_other : (made rows : List (List ℕ)) (at k : ℕ) (row : List ℕ) → (k ≡ length made + at → ⊥)
    → slice_get (made ++ set rows at row) k ≡ slice_get (made ++ rows) k
at_other [] [] at k row other = refl
at_other [] (r ∷ rows) zero zero row other = absurd (other (omega arith))
at_other [] (r ∷ rows) zero (suc k) row other = refl
at_other [] (r ∷ rows) (suc at) zero row other = refl
at_other [] (r ∷ rows) (suc at) (suc k) row other = at_other [] rows at k row (λ e. other (omega (arith, e)))
at_other (m ∷ made) rows at zero row other = refl
at_other (m ∷ made) rows at (suc k) row other = at_other made rows at k row (λ e. other (omega (arith, e)))

pub at_before : (made rows : List (List ℕ)) (at k : ℕ) → at < length rows → k ≡ length made + at
    → slice_get (made ++ rows) k ≡ Some (get_or rows at [])
at_before [] [] at k less is = absurd (omega (arith, less))
at_before [] (r ∷ rows) zero zero less is = refl
at_before [] (r ∷ rows) zero (suc k) less is = absurd (omega (arith, is))
at_before [] (r ∷ rows) (suc at) zero less is = absurd (omega (arith, is))
at_before [] (r ∷ rows) (suc at) (suc k) less is = at_before [] rows at k (omega (arith, less)) (omega (arith, is))
at_before (m ∷ made) rows at zero less is = absurd (omega (arith, is))
at_before (m ∷ made) rows at (suc k) less is = at_before made rows at k less (omega (arith, is))

set_fewer : (made rows : List (List ℕ)) (at : ℕ) (row : List ℕ) → at < length rows
    → unset row most_bits < unset (get_or rows at []) most_bits
    → unset_in (made ++ set rows at row) < unset_in (made ++ rows)
set_fewer [] [] at row less fewer = absurd (omega (arith, less))
set_fewer [] (r ∷ rows) zero row less fewer = omega (arith, fewer)
set_fewer [] (r ∷ rows) (suc at) row less fewer =
    let rest = set_fewer [] rows at row (omega (arith, less)) fewer in omega (arith, rest)
set_fewer (m ∷ made) rows at row less fewer = let rest = set_fewer made rows at row less fewer in omega (arith, rest)

set_most : (made rows : List (List ℕ)) (at : ℕ) (row : List ℕ) → at < length rows
    → unset row most_bits ≤ unset (get_or rows at []) most_bits
    → unset_in (made ++ set rows at row) ≤ unset_in (made ++ rows)
set_most [] [] at row less most = absurd (omega (arith, less))
set_most [] (r ∷ rows) zero row less most = omega (arith, most)
set_most [] (r ∷ rows) (suc at) row less most =
    let rest = set_most [] rows at row (omega (arith, less)) most in omega (arith, rest)
set_most (m ∷ made) rows at row less most = let rest = set_most made rows at row less most in omega (arith, rest)

-- ---- what is listed

any_listed : (p : ℕ → Bool) (numbers : List ℕ) → list_any p numbers ≡ true
    → (n : ℕ) × (has_number n numbers ≡ true) × (p n ≡ true)
any_listed p [] e = absurd cc
any_listed p (k ∷ numbers) e = by_first (p k) refl (any_listed p numbers) e
  where
    by_first : (b : Bool) → p k ≡ b
        → (list_any p numbers ≡ true → (n : ℕ) × (has_number n numbers ≡ true) × (p n ≡ true))
        → (b || list_any p numbers) ≡ true → (n : ℕ) × (has_number n (k ∷ numbers) ≡ true) × (p n ≡ true)
    by_first true t rest e = (k, ap (λ b. b || has_number k numbers) (eq-eqb k k refl), t)
    by_first false t rest e = let r = rest e in (r.0, or_true (k == r.0) (has_number r.0 numbers) r.1, r.2)
      where
        or_true : (a b : Bool) → b ≡ true → (a || b) ≡ true
        or_true a b h1 = grind arith

listed_any : (p : ℕ → Bool) (numbers : List ℕ) (n : ℕ) → has_number n numbers ≡ true → p n ≡ true
    → list_any p numbers ≡ true
listed_any p [] n has e = absurd cc
listed_any p (k ∷ numbers) n has e = by_first (k == n) refl (listed_any p numbers n) has
  where
    by_first : (b : Bool) → (k == n) ≡ b → (has_number n numbers ≡ true → p n ≡ true → list_any p numbers ≡ true)
        → (b || has_number n numbers) ≡ true → (p k || list_any p numbers) ≡ true
    by_first true t rest has =
        let same = eqb-true k n t in ap (λ i. p i || list_any p numbers) same ∙ ap (λ b. b || list_any p numbers) e
    by_first false t rest has = or_true (p k) (list_any p numbers) (rest has e)
      where
        or_true : (a b : Bool) → b ≡ true → (a || b) ≡ true
        or_true a b h1 = grind arith

-- ---- one row

module _ (made rows : List (List ℕ)) (at : ℕ) (numbers row : List ℕ) (changed : Bool) (less : at < length rows)
    (united : AreUnited (is_any_listed (made ++ set rows at []) numbers) (get_or rows at []) row changed) where
  abbrev place : ℕ
  place = length made + at

  abbrev old : List (List ℕ)
  old = made ++ rows

  abbrev hole : List (List ℕ)
  hole = made ++ set rows at []

  abbrev new : List (List ℕ)
  new = made ++ set rows at row

  new_here : (m : ℕ) → is_listed new place m ≡ has_bit row m
  new_here m = ap (λ o. has_bit (unwrap_or o []) m) (at_same made rows at place row less refl)

  old_here : (m : ℕ) → is_listed old place m ≡ has_bit (get_or rows at []) m
  old_here m = ap (λ o. has_bit (unwrap_or o []) m) (at_before made rows at place less refl)

  hole_here : (m : ℕ) → is_listed hole place m ≡ false
  hole_here m = ap (λ o. has_bit (unwrap_or o []) m) (at_same made rows at place [] less refl) ∙ empty_row m

  new_there : (n m : ℕ) → (n ≡ place → ⊥) → is_listed new n m ≡ is_listed old n m
  new_there n m other = ap (λ o. has_bit (unwrap_or o []) m) (at_other made rows at n row other)

  hole_there : (n m : ℕ) → (n ≡ place → ⊥) → is_listed hole n m ≡ is_listed old n m
  hole_there n m other = ap (λ o. has_bit (unwrap_or o []) m) (at_other made rows at n [] other)

  here_kept : (m : ℕ) → is_listed old place m ≡ true → is_listed new place m ≡ true
  here_kept m e = grind (arith, new_here, old_here)

  all_kept : (n m : ℕ) → is_listed old n m ≡ true → is_listed new n m ≡ true
  all_kept n m e = by_place (cases_eq n place)
    where
      by_place : (n ≡ place) ⊎ (n ≡ place → ⊥) → is_listed new n m ≡ true
      by_place h1 = grind (arith, here_kept, new_there)

  all_same : changed ≡ false → (n m : ℕ) → is_listed new n m ≡ is_listed old n m
  all_same none n m = by_place (cases_eq n place)
    where
      by_place : (n ≡ place) ⊎ (n ≡ place → ⊥) → is_listed new n m ≡ is_listed old n m
      by_place h1 = grind (arith, new_here, old_here, new_there)

  has_above : (above m : ℕ) → has_number above numbers ≡ true → is_listed new above m ≡ true
      → is_listed new place m ≡ true
  has_above above m among e = by_place (cases_eq above place)
    where
      by_place : (above ≡ place) ⊎ (above ≡ place → ⊥) → is_listed new place m ≡ true
      by_place (inl same) = ap (λ k. is_listed new k m) (sym same) ∙ e
      by_place (inr other) =
          new_here m ∙ united.bits m
          ∙ ap (λ b. has_bit (get_or rows at []) m || b) (listed_any (λ n. is_listed hole n m) numbers above among
          (hole_there above m other ∙ sym (new_there above m other) ∙ e))
          ∙ or_true (has_bit (get_or rows at []) m)
        where
          or_true : (a : Bool) → (a || true) ≡ true
          or_true a = grind arith

  fits_new : (fits : ℕ → ℕ → Bool)
      → ((n above m : ℕ) → IsOneAbove place numbers n above → fits above m ≡ true → fits n m ≡ true)
      → ((n m : ℕ) → is_listed old n m ≡ true → fits n m ≡ true)
      → (n m : ℕ) → is_listed new n m ≡ true → fits n m ≡ true
  fits_new fits step before n m e = by_place (cases_eq n place)
    where
      in_hole : (k : ℕ) → is_listed hole k m ≡ true → fits k m ≡ true
      in_hole k t = by_hole (cases_eq k place)
        where
          by_hole : (k ≡ place) ⊎ (k ≡ place → ⊥) → fits k m ≡ true
          by_hole h1 = grind (arith, no_such, hole_here, hole_there)

      by_bit : (a b : Bool) → has_bit (get_or rows at []) m ≡ a → is_any_listed hole numbers m ≡ b → (a || b) ≡ true
          → fits place m ≡ true
      by_bit true b s t e = before place m (old_here m ∙ s)
      by_bit false true s t e =
          let r = any_listed (λ n. is_listed hole n m) numbers t in
          step place r.0 m (refl, r.1) (in_hole r.0 r.2)
      by_bit false false s t e = no_such (sym e)

      by_place : (n ≡ place) ⊎ (n ≡ place → ⊥) → fits n m ≡ true
      by_place h1 = grind (arith, by_bit, get_or, new_here, new_there)

  passed_new : ArePassed (IsOneAbove place numbers) old new changed
  passed_new = record {
    kept = all_kept;
    same = all_same;
    most = set_most made rows at row less (unset_most (get_or rows at []) row
        (λ n e. united.bits n ∙ ap (λ b. b || is_any_listed hole numbers n) e) most_bits);
    fewer = λ e. set_fewer made rows at row less (united.fewer e);
    closed = λ none n above m is e. ap (λ k. is_listed new k m) is.0 ∙ has_above above m is.1 e;
    sound = fits_new;
  }

  pub passed_row : ArePassed (IsOneAbove place numbers) old (made ++ set (set rows at []) at row) changed
  passed_row = rw (set-set rows at [] row) passed_new

-- ---- one behind the other

either_false : (p q : Bool) → (p || q) ≡ false → (p ≡ false) × (q ≡ false)
either_false p q h1 = grind (arith, no_such)

module _ (first at : ℕ) (lists a b c : List (List ℕ)) (s t : Bool)
    (one : ArePassed (IsRightAbove first at lists) a b s) (list : List ℕ)
    (two : ArePassed (IsOneAbove (first + at) list) b c t)
    (is : list ≡ unwrap_or (slice_get lists at) []) where
  abbrev More : ℕ → ℕ → Type 0
  More = IsRightAbove first (at + 1) lists

  fewer_both : (s t : Bool) → ArePassed (IsRightAbove first at lists) a b s
      → ArePassed (IsOneAbove (first + at) list) b c t → (s || t) ≡ true → unset_in c < unset_in a
  fewer_both s t h1 h2 h3 = grind (arith, no_such)

  before_or_last : (n above : ℕ) → More n above
      → IsRightAbove first at lists n above ⊎ IsOneAbove (first + at) list n above
  before_or_last n above is_above = by_order (cases_lt is_above.0 at)
    where
      by_order : (is_above.0 < at) ⊎ (at ≤ is_above.0)
          → IsRightAbove first at lists n above ⊎ IsOneAbove (first + at) list n above
      by_order h1 = grind (arith, unwrap_or, slice_get)

  pub passed_more : ArePassed More a c (s || t)
  passed_more = record {
    kept = λ n m e. two.kept n m (one.kept n m e);
    same = λ e n m. let p = either_false s t e in two.same p.1 n m ∙ one.same p.0 n m;
    most = let x = one.most in let y = two.most in omega (arith, x, y);
    fewer = fewer_both s t one two;
    closed = λ e n above m is_above listed. closes (either_false s t e) n above m (before_or_last n above is_above)
        listed;
    sound = λ fits step before. two.sound fits
        (λ n above m o. step n above m (at, omega arith, o.0, ap (has_number above) (sym is) ∙ o.1))
        (one.sound fits (λ n above m r. step n above m (let less = r.1 in (r.0, omega (arith, less), r.2, r.3)))
        before);
  }
    where
      closes : (s ≡ false) × (t ≡ false) → (n above m : ℕ)
          → IsRightAbove first at lists n above ⊎ IsOneAbove (first + at) list n above
          → is_listed c above m ≡ true → is_listed c n m ≡ true
      closes h1 n above m h2 h3 = grind arith

pub passed_none : (first : ℕ) (lists rows : List (List ℕ)) → ArePassed (IsRightAbove first 0 lists) rows rows false
passed_none first lists rows = grind (arith, no_such)

-- ---- until all is there

pub risen_none : (Above : ℕ → ℕ → Type 0) (rows : List (List ℕ)) → AreRisen Above rows rows
risen_none Above rows = record { kept = λ n m e. e; sound = λ fits step before. before }

pub risen_more : (Above : ℕ → ℕ → Type 0) (a b c : List (List ℕ)) (s : Bool) → AreRisen Above a b
    → ArePassed Above b c s → AreRisen Above a c
risen_more Above a b c s risen passed = record {
  kept = λ n m e. passed.kept n m (risen.kept n m e);
  sound = λ fits step before. passed.sound fits step (risen.sound fits step before);
}

pub settled : (Above : ℕ → ℕ → Type 0) (a b c : List (List ℕ)) → AreRisen Above a b
    → ArePassed Above b c false → AreSettled Above a c
settled Above a b c risen passed =
    record { risen = risen_more Above a b c false risen passed; closed = passed.closed refl }
