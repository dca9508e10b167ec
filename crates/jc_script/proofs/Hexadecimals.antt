-- Bytes in hexadecimal, one more at a time.
use Rattle.std.proofs.Common.{◌≡◌, ℕ, ◌+◌, ◌/◌, ◌%◌, ◌<◌, List, [], ◌∷◌, ◌++◌, length, take, slice_index, refl, ap}
use Rattle.std.proofs.Common.{append_assoc, append-nil, sym, ◌∙◌}
use Rattle.std.proofs.lemmas.List.{take_more}
use Rattle.std.specs.Char.{encode_utf8}
use Rattle.hex.specs.Hex.{encode_upper, encode_with, upper_digits}

pub encode_upper-nil : encode_upper [] ≡ []
unfolding encode_with
encode_upper-nil = refl

encode_with-snoc : (t xs : List ℕ) (b : ℕ)
    → encode_with t (xs ++ b ∷ []) ≡ encode_with t xs ++ slice_index t (b / 16) ∷ slice_index t (b % 16) ∷ []
unfolding encode_with
encode_with-snoc t [] b = refl
encode_with-snoc t (x ∷ xs) b =
    ap (λ (l : List ℕ). slice_index t (x / 16) ∷ slice_index t (x % 16) ∷ l) (encode_with-snoc t xs b)

-- the text of a character that is one byte
pub one_more : (xs : List ℕ) (i high low : ℕ) → i < length xs
    → high ≡ slice_index upper_digits (slice_index xs i / 16) → low ≡ slice_index upper_digits (slice_index xs i % 16)
    → encode_utf8 high ≡ high ∷ [] → encode_utf8 low ≡ low ∷ []
    → encode_upper (take i xs) ++ (encode_utf8 high ++ encode_utf8 low) ≡ encode_upper (take (i + 1) xs)
one_more xs i high low less h l th tl =
    rw (th, tl, h, l) (sym (ap encode_upper (take_more xs i 0 less)
    ∙ encode_with-snoc upper_digits (take i xs) (slice_index xs i)))

-- the same behind a line
pub digits_none : (line : List ℕ) → line ≡ line ++ encode_upper []
digits_none line = rw encode_upper-nil (sym (append-nil line))

pub digits_more : (line now xs : List ℕ) (i high low : ℕ) → i < length xs → now ≡ line ++ encode_upper (take i xs)
    → high ≡ slice_index upper_digits (slice_index xs i / 16) → low ≡ slice_index upper_digits (slice_index xs i % 16)
    → (now ++ high ∷ []) ++ low ∷ [] ≡ line ++ encode_upper (take (i + 1) xs)
digits_more line now xs i high low less n h l =
    let before = encode_upper (take i xs) in
    let more = sym (ap encode_upper (take_more xs i 0 less) ∙ encode_with-snoc upper_digits (take i xs) (slice_index xs i)) in
    rw (n, h, l)
    (append_assoc (line ++ before) (slice_index upper_digits (slice_index xs i / 16) ∷ []) _
    ∙ append_assoc line before _ ∙ ap (λ (k : List ℕ). line ++ k) more)
