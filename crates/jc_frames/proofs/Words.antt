-- Parts of words, and words that are put over others.
use Rattle.std.proofs.Common.{◌≡◌, ℕ, zero, suc, ◌+◌, ◌-◌, ◌≤◌, List, [], ◌∷◌, ◌++◌, length, take, drop, refl, sym, ap, ◌∙◌, arith}
use Rattle.std.proofs.lemmas.List.{length-append, length-drop, length-take-le}
use Rattle.jc_frames.specs.PrivateLaid.{part, put_at}

pub take_less : (words : List ℕ) (n end : ℕ) → n ≤ end → take n (take end words) ≡ take n words
take_less words zero end le = refl
take_less words (suc n) zero le = absurd (omega (arith, le))
take_less [] (suc n) (suc end) le = refl
take_less (w ∷ words) (suc n) (suc end) le = ap (λ xs. w ∷ xs) (take_less words n end (omega (arith, le)))

pub take_long : (words : List ℕ) (n : ℕ) → length words ≤ n → take n words ≡ words
take_long [] zero le = refl
take_long [] (suc n) le = refl
take_long (w ∷ words) zero le = absurd (omega (arith, le))
take_long (w ∷ words) (suc n) le = ap (λ xs. w ∷ xs) (take_long words n (omega (arith, le)))

pub take_first : (words others : List ℕ) → take (length words) (words ++ others) ≡ words
take_first [] others = refl
take_first (w ∷ words) others = ap (λ xs. w ∷ xs) (take_first words others)

pub drop_first : (words others : List ℕ) → drop (length words) (words ++ others) ≡ others
drop_first [] others = refl
drop_first (w ∷ words) others = drop_first words others

pub drop_past : (words : List ℕ) (n : ℕ) → length words ≤ n → drop n words ≡ []
drop_past [] zero le = refl
drop_past [] (suc n) le = refl
drop_past (w ∷ words) zero le = absurd (omega (arith, le))
drop_past (w ∷ words) (suc n) le = drop_past words n (omega (arith, le))

abbrev nil : List ℕ
nil = []

take_none : (k : ℕ) → take k nil ≡ nil
take_none k = grind arith

drop_none : (k : ℕ) → drop k nil ≡ nil
drop_none k = grind arith

-- what was taken, cut in two
pub drop_taken : (words : List ℕ) (n m : ℕ) → drop n (take (n + m) words) ≡ take m (drop n words)
drop_taken words zero m = let e : zero + m ≡ m = omega arith in ap (λ k. take k words) e
drop_taken [] (suc n) m = ap (drop (suc n)) (take_none (suc n + m)) ∙ drop_none (suc n) ∙ sym (take_none m) ∙ ap (take m) (sym (drop_none (suc n)))
drop_taken (w ∷ words) (suc n) m = let e : suc n + m ≡ suc (n + m) = omega arith in ap (λ k. drop (suc n) (take k (w ∷ words))) e ∙ drop_taken words n m

pub take_both : (words : List ℕ) (n m : ℕ) → take n words ++ take m (drop n words) ≡ take (n + m) words
take_both words zero m = let e : m ≡ zero + m = omega arith in ap (λ k. take k words) e
take_both [] (suc n) m = ap (take m) (drop_none (suc n)) ∙ take_none m ∙ sym (take_none (suc n + m))
take_both (w ∷ words) (suc n) m = let e : suc (n + m) ≡ suc n + m = omega arith in ap (λ xs. w ∷ xs) (take_both words n m) ∙ ap (λ k. take k (w ∷ words)) e

pub drop_twice : (words : List ℕ) (n m : ℕ) → drop (n + m) words ≡ drop m (drop n words)
drop_twice words zero m = let e : zero + m ≡ m = omega arith in ap (λ k. drop k words) e
drop_twice [] (suc n) m = drop_none (suc n + m) ∙ sym (drop_none m) ∙ ap (drop m) (sym (drop_none (suc n)))
drop_twice (w ∷ words) (suc n) m = let e : suc n + m ≡ suc (n + m) = omega arith in ap (λ k. drop k (w ∷ words)) e ∙ drop_twice words n m

-- a part that ends before a word sees what stands before it alone
pub part_before : (words : List ℕ) (start len end : ℕ) → start + len ≤ end → part (take end words) start len ≡ part words start len
part_before words zero len end le = take_less words len end (omega (arith, le))
part_before words (suc start) len zero le = absurd (omega (arith, le))
part_before [] (suc start) len (suc end) le = refl
part_before (w ∷ words) (suc start) len (suc end) le = part_before words start len end (omega (arith, le))

pub part_length : (words : List ℕ) (start len : ℕ) → start + len ≤ length words → length (part words start len) ≡ len
part_length words start len within = let left : length (drop start words) ≡ length words - start = length-drop start words in length-take-le len (drop start words) (omega (arith, left, within))

-- a part of a part
pub sub_part : (words : List ℕ) (start len first count : ℕ) → first + count ≤ len → part words (start + first) count ≡ take count (drop first (part words start len))
sub_part words start len first count le = grind (arith, drop_twice, part_before)

-- ---- words in place of others

module _ (words : List ℕ) (start : ℕ) (others : List ℕ) (within : start + length others ≤ length words) where
  before : length (take start words) ≡ start
  before = length-take-le start words (omega (arith, within))

  pub put_before : take start (put_at words start others) ≡ take start words
  put_before = ap (λ k. take k (put_at words start others)) (sym before) ∙ take_first (take start words) (others ++ drop (start + length others) words)

  pub put_here : take (length others) (drop start (put_at words start others)) ≡ others
  put_here = grind (arith, before, drop_first, take_first)

  pub put_length : length (put_at words start others) ≡ length words
  put_length = grind (arith, before, length-append, length-drop)

-- ---- what is left in a slice that was lent

-- what lies behind the part that counts is not seen
pub left_in_part : (left words : List ℕ) (n : ℕ) → take n (left ++ drop (length left) words) ≡ take n (left ++ drop (length left) (take n words))
left_in_part [] words n = sym (take_less words n n (omega arith))
left_in_part (w ∷ left) words zero = refl
left_in_part (w ∷ left) [] (suc n) = refl
left_in_part (w ∷ left) (v ∷ words) (suc n) = ap (λ xs. w ∷ xs) (left_in_part left words n)

-- all words with what was left put over those from one on
abbrev pub left_over : List ℕ → ℕ → List ℕ → List ℕ
left_over words start left = take start words ++ (left ++ drop (length left) (drop start words))

module _ (words : List ℕ) (start : ℕ) (left : List ℕ) (within : start ≤ length words) where
  abbrev all : List ℕ
  all = left_over words start left

  abbrev filled : ℕ → List ℕ
  filled len = take len (all ++ drop (length all) words)

  head_length : length (take start words) ≡ start
  head_length = length-take-le start words within

  long : length words ≤ length all
  long = grind (arith, head_length, length-append, length-drop)

  nothing_behind : all ++ drop (length all) words ≡ all
  nothing_behind = ap (λ xs. all ++ xs) (drop_past words (length all) long) ∙ append_none all
    where
      append_none : (xs : List ℕ) → xs ++ [] ≡ xs
      append_none [] = refl
      append_none (x ∷ xs) = ap (λ ys. x ∷ ys) (append_none xs)

  -- what stands before is as it was
  pub filled_before : (len : ℕ) → start ≤ len → take start (filled len) ≡ take start words
  filled_before len le = grind (arith, take_less, nothing_behind, head_length, take_first)

  -- and a part from there on begins with what was left
  pub filled_part : (len n : ℕ) → start + n ≤ len → part (filled len) start n ≡ take n (left ++ drop (length left) (take n (drop start words)))
  filled_part len n le = grind (arith, part_before, nothing_behind, head_length, drop_first, left_in_part)
