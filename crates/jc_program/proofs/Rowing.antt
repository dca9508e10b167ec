-- Rows of bits.
use Rattle.std.proofs.Common.{◌≡◌, ◌≢◌, ◌⊎◌, inl, inr, ℕ, zero, suc, ◌+◌, ◌*◌, ◌/◌, ◌%◌, ◌^◌, ◌<◌, ◌≤◌, ◌==◌, ◌&&◌}
use Rattle.std.proofs.Common.{◌||◌, Bool, true, false, not, cond, max, nat_lt, List, [], ◌∷◌, ◌++◌, length, get_or, set}
use Rattle.std.proofs.Common.{take, bit_or, refl, sym, ap, ◌∙◌, arith}
use Rattle.std.specs.Int.{bit_at, w64}
use Rattle.std.proofs.lemmas.Bool.{cases_eq, eq-eqb, eqb-true, ne_eqb}
use Rattle.std.proofs.lemmas.List.{get_or-set_same, get_or-set_other}
use Rattle.std.proofs.lemmas.Nat.Bits.{bit_at-lt, bit_at-zero, bit_at_or}
use Rattle.std.proofs.lemmas.Nat.Bits.{bit_at_set_other, bit_at_set_same, same_from_bits_below}
use lib.Bits.{or_lt, or_zero_l}
use Rattle.jc_program.specs.BitRow.{has_bit}
use Rattle.jc_program.specs.PrivateBitRow.{AreUnited, bits_of, most_bits, unset}

no_such : {P : Type 0} → true ≡ false → P
no_such e = absurd cc

-- ---- longer rows

pushed : (words : List ℕ) (i : ℕ) → get_or (words ++ 0 ∷ []) i 0 ≡ get_or words i 0
pushed [] zero = refl
pushed [] (suc i) = refl
pushed (w ∷ words) zero = refl
pushed (w ∷ words) (suc i) = pushed words i

pub same_pushed : (words : List ℕ) (n : ℕ) → has_bit (words ++ 0 ∷ []) n ≡ has_bit words n
same_pushed words n = ap (λ word. bit_at word (n % 64) == 1) (pushed words (n / 64))

pub empty_row : (n : ℕ) → has_bit [] n ≡ false
empty_row n = ap (λ b. b == 1) (bit_at-zero (n % 64))

-- ---- how many numbers aren't there

module _ (old new : List ℕ) (kept : (n : ℕ) → has_bit old n ≡ true → has_bit new n ≡ true) where
  least : (n : ℕ) → cond (has_bit new n) 0 1 ≤ cond (has_bit old n) 0 1
  least n = by_old (has_bit old n) (has_bit new n) (kept n)
    where
      by_old : (a b : Bool) → (a ≡ true → b ≡ true) → cond b 0 1 ≤ cond a 0 1
      by_old a b h1 = grind (arith, no_such)

  pub unset_most : (n : ℕ) → unset new n ≤ unset old n
  unset_most zero = omega arith
  unset_most (suc n) = let a = least n in let b = unset_most n in omega (arith, a, b)

  pub unset_less : (k n : ℕ) → has_bit old k ≡ false → has_bit new k ≡ true → k < n → unset new n < unset old n
  unset_less k zero before now less = absurd (omega (arith, less))
  unset_less k (suc n) before now less = by_number (unset_less k n before now) (cases_eq k n)
    where
      by_number : (k < n → unset new n < unset old n) → (k ≡ n) ⊎ (k ≡ n → ⊥) → unset new (suc n) < unset old (suc n)
      by_number h1 h2 = grind (arith, unset_most, least)

-- ---- what was put in, put together

module _ (a b c : List ℕ) (p q : ℕ → Bool) (s t : Bool) (one : AreUnited p a b s) (two : AreUnited q b c t) where
  then_kept : (n : ℕ) → has_bit b n ≡ true → has_bit c n ≡ true
  then_kept n e = two.bits n ∙ ap (λ x. x || q n) e

  first_kept : (n : ℕ) → has_bit a n ≡ true → has_bit b n ≡ true
  first_kept n e = one.bits n ∙ ap (λ x. x || p n) e

  fewer_both : (s t : Bool) → AreUnited p a b s → AreUnited q b c t → (s || t) ≡ true
      → unset c most_bits < unset a most_bits
  fewer_both true t f g e = let x = f.fewer refl in let y = unset_most b c then_kept most_bits in omega (arith, x, y)
  fewer_both false true f g e =
      let x = unset_most a b first_kept most_bits in let y = g.fewer refl in omega (arith, x, y)
  fewer_both false false f g e = no_such (sym e)

  same_both : (s t : Bool) → AreUnited p a b s → AreUnited q b c t → (s || t) ≡ false
      → (n : ℕ) → has_bit c n ≡ has_bit a n
  same_both s t h1 h2 h3 n = grind (arith, no_such)

  grouped : (x y z : Bool) → ((x || y) || z) ≡ (x || (y || z))
  grouped x y z = grind arith

  pub united_both : AreUnited (λ n. p n || q n) a c (s || t)
  united_both = record {
    bits = λ n. two.bits n ∙ ap (λ x. x || q n) (one.bits n) ∙ grouped (has_bit a n) (p n) (q n);
    fewer = fewer_both s t one two;
    same = same_both s t one two;
  }

pub united_alike : (p q : ℕ → Bool) (a b : List ℕ) (s : Bool) → ((n : ℕ) → p n ≡ q n) → AreUnited p a b s
    → AreUnited q a b s
united_alike p q a b s alike u = record {
  bits = λ n. u.bits n ∙ ap (λ x. has_bit a n || x) (alike n);
  fewer = u.fewer;
  same = u.same;
}

either_none : (b : Bool) → b ≡ (b || false)
either_none b = grind arith

-- ---- one word

pub or_small : (word more : ℕ) → word < 2 ^ 64 → more < 2 ^ 64 → bit_or word more < 2 ^ 64
or_small word more small less = or_lt 64 word more small less

differs : (w a b : ℕ) → ((i : ℕ) × (i < w) × (bit_at a i ≢ bit_at b i)) ⊎ ((i : ℕ) → i < w → bit_at a i ≡ bit_at b i)
differs zero a b = inr (λ i less. absurd (omega (arith, less)))
differs (suc w) a b = by_last (cases_eq (bit_at a w) (bit_at b w)) (differs w a b)
  where
    all : (bit_at a w ≡ bit_at b w) → ((i : ℕ) → i < w → bit_at a i ≡ bit_at b i) → (i : ℕ) → i < suc w
        → bit_at a i ≡ bit_at b i
    all last before i less = by_number (cases_eq i w)
      where
        by_number : (i ≡ w) ⊎ (i ≡ w → ⊥) → bit_at a i ≡ bit_at b i
        by_number h1 = grind arith

    by_last : (bit_at a w ≡ bit_at b w) ⊎ (bit_at a w ≡ bit_at b w → ⊥)
        → ((i : ℕ) × (i < w) × (bit_at a i ≢ bit_at b i)) ⊎ ((i : ℕ) → i < w → bit_at a i ≡ bit_at b i)
        → ((i : ℕ) × (i < suc w) × (bit_at a i ≢ bit_at b i))
        ⊎ ((i : ℕ) → i < suc w → bit_at a i ≡ bit_at b i)
    by_last h1 h2 = grind (arith, all)

one_of_two : (x y : ℕ) → x < 2 → y < 2 → (max x y == 1) ≡ ((x == 1) || (y == 1))
one_of_two x y h1 h2 = grind arith

or_bit : (x y i : ℕ) → (bit_at (bit_or x y) i == 1) ≡ (bit_at x i == 1 || bit_at y i == 1)
or_bit x y i = grind (arith, bit_at_or, one_of_two, bit_at-lt)

same_bit : (x y : ℕ) → x < 2 → y < 2 → (x == 1) ≡ (y == 1) → x ≡ y
same_bit x y h1 h2 h3 = grind (arith, no_such)

module _ (words : List ℕ) (at more : ℕ) (within : at < length words) where
  abbrev word : ℕ
  word = get_or words at 0

  abbrev new : List ℕ
  new = set words at (bit_or word more)

  here : (n : ℕ) → n / 64 ≡ at → has_bit new n ≡ (has_bit words n || bits_of at more n)
  here n e = grind (arith, eq-eqb, get_or, get_or-set_same, bit_or, or_bit)

  there : (n : ℕ) → (n / 64 ≡ at → ⊥) → has_bit new n ≡ (has_bit words n || bits_of at more n)
  there n other = grind (arith, ne_eqb, get_or-set_other, bit_or, either_none)

  bits : (n : ℕ) → has_bit new n ≡ (has_bit words n || bits_of at more n)
  bits n = by_word (cases_eq (n / 64) at)
    where
      by_word : (n / 64 ≡ at) ⊎ (n / 64 ≡ at → ⊥) → has_bit new n ≡ (has_bit words n || bits_of at more n)
      by_word h1 = grind (arith, here, there)

  kept : (n : ℕ) → has_bit words n ≡ true → has_bit new n ≡ true
  kept n e = bits n ∙ ap (λ b. b || bits_of at more n) e

  fewer : at < 1024 → word < 2 ^ 64 → bit_or word more < 2 ^ 64 → bit_or word more ≢ word
      → unset new most_bits < unset words most_bits
  unfolding most_bits
  fewer low small large other = by_bit (differs 64 (bit_or word more) word)
    where
      by_had : (i : ℕ) → i < 64 → (bit_at (bit_or word more) i ≢ bit_at word i) → (b c : Bool)
          → (bit_at word i == 1) ≡ b → (bit_at (bit_or word more) i == 1) ≡ c
          → (b ≡ false) × (c ≡ true)
      by_had i h1 h2 b c h3 h4 = grind (arith, same_bit, bit_at-lt, bit_or, no_such, or_bit)

      by_bit : ((i : ℕ) × (i < 64) × (bit_at (bit_or word more) i ≢ bit_at word i))
          ⊎ ((i : ℕ) → i < 64 → bit_at (bit_or word more) i ≡ bit_at word i)
          → unset new most_bits < unset words most_bits
      by_bit (inr all) = absurd (other (same_from_bits_below 64 (bit_or word more) word large small all))
      by_bit (inl r) =
          let less = r.1 in
          let n = at * 64 + r.0 in
          let whole : n / 64 ≡ at = omega (arith, less) in
          let rest : n % 64 ≡ r.0 = omega (arith, less) in
          let h = by_had r.0 r.1 r.2 _ _ refl refl in
          unset_less words new kept n most_bits
          (ap (λ k. bit_at (get_or words k 0) (n % 64) == 1) whole ∙ ap (λ k. bit_at word k == 1) rest ∙ h.0)
          (ap (λ k. bit_at (get_or new k 0) (n % 64) == 1) whole
          ∙ ap (λ w. bit_at w (n % 64) == 1) (get_or-set_same words at (bit_or word more) 0 within)
          ∙ ap (λ k. bit_at (bit_or word more) k == 1) rest ∙ h.1)
          (omega (arith, less, low))

  set_itself : (ws : List ℕ) (i : ℕ) → i < length ws → (k : ℕ) → get_or (set ws i (get_or ws i 0)) k 0 ≡ get_or ws k 0
  set_itself ws i less k = by_place (cases_eq k i)
    where
      by_place : (k ≡ i) ⊎ (k ≡ i → ⊥) → get_or (set ws i (get_or ws i 0)) k 0 ≡ get_or ws k 0
      by_place h1 = grind (arith, get_or, set, get_or-set_same, get_or-set_other)

  -- a word's bits were put in, and it was looked whether the word changed
  pub united_word : at < 1024 → word < 2 ^ 64 → bit_or word more < 2 ^ 64
      → AreUnited (bits_of at more) words new (not (bit_or word more == word))
  united_word low small large = record {
    bits = bits;
    fewer = λ e. fewer low small large (λ same. no_such (sym e ∙ ap not (eq-eqb (bit_or word more) word same)));
    same = λ e n. ap (λ w. bit_at (get_or (set words at w) (n / 64) 0) (n % 64) == 1)
        (eqb-true (bit_or word more) word (was (bit_or word more == word) e))
        ∙ ap (λ w. bit_at w (n % 64) == 1) (set_itself words at within (n / 64));
  }
    where
      was : (b : Bool) → not b ≡ false → b ≡ true
      was b h1 = grind (arith, no_such)

-- ---- one number

abbrev one_at : ℕ → ℕ
one_at k = 1 * 2 ^ k % 2 ^ 64

one_here : (k : ℕ) → k < 64 → bit_at (one_at k) k ≡ 1
one_here k less = ap (λ w. bit_at w k) (sym (or_zero_l (one_at k))) ∙ bit_at_set_same w64 0 k less

one_there : (k i : ℕ) → k < 64 → (i ≡ k → ⊥) → bit_at (one_at k) i ≡ 0
one_there k i less other =
    ap (λ w. bit_at w i) (sym (or_zero_l (one_at k))) ∙ bit_at_set_other w64 0 k less i other ∙ bit_at-zero i

pub one_bit : (number n : ℕ) → bits_of (number / 64) (1 * 2 ^ (number % 64) % 2 ^ 64) n ≡ (n == number)
one_bit number n = by_number (cases_eq n number)
  where
    by_word : (b : Bool) → (n / 64 == number / 64) ≡ b → (n ≡ number → ⊥)
        → (b && bit_at (one_at (number % 64)) (n % 64) == 1) ≡ false
    by_word b h1 h2 = grind (arith, eqb-true, one_there)

    by_number : (n ≡ number) ⊎ (n ≡ number → ⊥)
        → bits_of (number / 64) (1 * 2 ^ (number % 64) % 2 ^ 64) n ≡ (n == number)
    by_number h1 = grind (arith, eq-eqb, one_here, ne_eqb, by_word)

-- ---- the first of other words

abbrev pub bits_before : List ℕ → ℕ → ℕ → Bool
bits_before words at n = nat_lt (n / 64) at && has_bit words n

-- ---- words in a list that has others behind

pub refilled : {A : Type 0} (words rest : List A) (count : ℕ) → count ≡ length words
    → take count (words ++ rest) ≡ words
refilled [] rest zero is = refl
refilled [] rest (suc count) is = absurd (omega (arith, is))
refilled (w ∷ words) rest zero is = absurd (omega (arith, is))
refilled (w ∷ words) rest (suc count) is = ap (λ ws. w ∷ ws) (refilled words rest count (omega (arith, is)))
