-- Bytes that are cut out of bytes, joined and filled up: those of a command, and those that the runtime writes.
use Rattle.std.proofs.Common.{◌≡◌, ℕ, zero, suc, ◌+◌, ◌-◌, ◌<◌, ◌≤◌, List, [], ◌∷◌, ◌++◌, drop, get_or, length}
use Rattle.std.proofs.Common.{replicate, take, true, nat_le, nat_lt, Some, arith}
use Rattle.std.proofs.lemmas.Bool.{and_parts, leb-true, ltb-true}
use Rattle.std.proofs.lemmas.List.{length-append}
use Rattle.std.proofs.lemmas.Option.{none-some, same_Some}
use Rattle.jc_natives.specs.Kept.{are_bytes, has_aid_length, is_aid}
use Rattle.jc_card.specs.Command.{Command, buffer_of, command_of, p3_of, with_data, without_data}
use Rattle.jc_card.specs.Install.{install_size, padded, parameters_of}

abbrev pub AreLow : List ℕ → Type 0
AreLow bytes = (n : ℕ) → get_or bytes n 0 < 256

pub bytes_low : (bytes : List ℕ) → are_bytes bytes ≡ true → (n : ℕ) → get_or bytes n 0 < 256
bytes_low [] are n = omega arith
bytes_low (b ∷ bytes) are zero = ltb-true b 256 (and_parts (nat_lt b 256) (are_bytes bytes) are).0
bytes_low (b ∷ bytes) are (suc n) = bytes_low bytes (and_parts (nat_lt b 256) (are_bytes bytes) are).1 n

low_joined : (xs ys : List ℕ) → AreLow xs → AreLow ys → (n : ℕ) → get_or (xs ++ ys) n 0 < 256
low_joined [] ys a b n = b n
low_joined (x ∷ xs) ys a b zero = a 0
low_joined (x ∷ xs) ys a b (suc n) = low_joined xs ys (λ k. a (suc k)) b n

low_more : (x : ℕ) (xs : List ℕ) → x < 256 → AreLow xs → (n : ℕ) → get_or (x ∷ xs) n 0 < 256
low_more x xs h1 h2 n = grind arith

low_zeros : (count n : ℕ) → get_or (replicate count 0) n 0 < 256
low_zeros zero n = omega arith
low_zeros (suc count) zero = omega arith
low_zeros (suc count) (suc n) = low_zeros count n

low_cut : (count : ℕ) (xs : List ℕ) → AreLow xs → (n : ℕ) → get_or (take count xs) n 0 < 256
low_cut zero xs a n = omega arith
low_cut (suc count) [] a n = omega arith
low_cut (suc count) (x ∷ xs) a zero = a 0
low_cut (suc count) (x ∷ xs) a (suc n) = low_cut count xs (λ k. a (suc k)) n

low_rest : (count : ℕ) (xs : List ℕ) → AreLow xs → (n : ℕ) → get_or (drop count xs) n 0 < 256
low_rest zero xs a n = a n
low_rest (suc count) [] a n = omega arith
low_rest (suc count) (x ∷ xs) a n = low_rest count xs (λ k. a (suc k)) n

cut_length : (count : ℕ) (xs : List ℕ) → length (take count xs) ≤ count
cut_length zero xs = omega arith
cut_length (suc count) [] = omega arith
cut_length (suc count) (x ∷ xs) = let l = cut_length count xs in omega (arith, l)

-- ---- commands

-- its bytes are bytes, and its data few
pub record IsCommand (k : Command) : Type 0 where
  pub header : AreLow k.header
  pub p3 : k.p3 < 256
  pub incoming : AreLow k.incoming
  pub few : length k.incoming ≤ 255
  pub expected : k.expected < 256

no_data : (bytes : List ℕ) → AreLow bytes → IsCommand (without_data bytes)
no_data bytes a = record {
  header = low_cut 4 bytes a;
  p3 = a 4;
  incoming = λ n. omega arith;
  few = omega arith;
  expected = a 4;
}

some_data : (bytes : List ℕ) → AreLow bytes → IsCommand (with_data bytes)
some_data bytes a = record {
  header = low_cut 4 bytes a;
  p3 = a 4;
  incoming = low_cut (p3_of bytes) (drop 5 bytes) (low_rest 5 bytes a);
  few =
      let l = cut_length (p3_of bytes) (drop 5 bytes) in
      let p = a 4 in
      omega (arith, l, p);
  expected = a (5 + p3_of bytes);
}

pub command_is : (bytes : List ℕ) → AreLow bytes → (k : Command) → command_of bytes ≡ Some k → IsCommand k
command_is bytes a k e = grind (arith, same_Some, some_data, none-some, no_data)

-- what the APDU buffer holds then
pub buffer_low : (k : Command) → IsCommand k → (n : ℕ) → get_or (buffer_of k) n 0 < 256
buffer_low k is =
    low_joined k.header (k.p3 ∷ replicate 256 0) is.header
    (low_more k.p3 (replicate 256 0) is.p3 (low_zeros 256))

-- ---- installs

pub aid_short : (aid : List ℕ) → is_aid aid ≡ true → length aid ≤ 16
aid_short aid e = grind (arith, and_parts, leb-true, nat_le)

aid_low : (aid : List ℕ) → is_aid aid ≡ true → (n : ℕ) → get_or aid n 0 < 256
aid_low aid e = bytes_low aid (and_parts (has_aid_length (length aid)) (are_bytes aid) e).1

-- what an install method is given
pub parameters_low : (instance incoming : List ℕ) → is_aid instance ≡ true → are_bytes incoming ≡ true
    → length incoming ≤ 108 → (n : ℕ) → get_or (padded install_size (parameters_of instance incoming)) n 0 < 256
parameters_low instance incoming aid bytes few =
    let words = parameters_of instance incoming in
    let short = aid_short instance aid in
    low_joined words (replicate (127 - length words) 0)
    (low_more (length instance) (instance ++ 0 ∷ length incoming ∷ incoming) (omega (arith, short))
    (low_joined instance (0 ∷ length incoming ∷ incoming) (aid_low instance aid)
    (low_more 0 (length incoming ∷ incoming) (omega arith)
    (low_more (length incoming) incoming (omega (arith, few)) (bytes_low incoming bytes)))))
    (low_zeros (127 - length words))

pub parameters_short : (instance incoming : List ℕ) → is_aid instance ≡ true → length incoming ≤ 108
    → length (parameters_of instance incoming) < 65536
parameters_short instance incoming aid few = grind (arith, aid_short, length-append)
