-- The table of hexadecimal digits, and pairs of digits.
use Rattle.std.proofs.Common.{◌≡◌, ℕ, zero, suc, ◌+◌, ◌*◌, ◌<◌, ◌≤◌, ◌==◌, ◌&&◌, Bool, true, List, [], ◌∷◌, length}
use Rattle.std.proofs.Common.{◌%◌, drop, take, slice_index, slice_set, Option, Some, None, Ok, Err}
use Rattle.std.proofs.Common.{refl, sym, ap, ◌∙◌, subst, arith}
use Rattle.std.specs.Prelude.{unwrap_or}
use Rattle.std.proofs.lemmas.Bool.{eqb-true}
use Rattle.hex.specs.Hex.{decode_of, decode_pairs, digit_or_error, hex_digit_value, pair_value, value_at}
use Rattle.hex.specs.declared.error.FromHexError.{FromHexError}
use Rattle.hex.specs.declared.error.FromHexError.TheVariants.{InvalidHexCharacter}
use Rattle.hex.proofs.HexLemmas.{decode_of-even}
use Rattle.hex.proofs.Pairs.{decode_done, decode_err, decode_step, prepend}
use Rattle.jc_api.specs.Text.{given}
use Rattle.jc_script.specs.PrivateDigits.{AreValues, value_or_sixteen}

-- ---- the table

both_true : (a b : Bool) → a && b ≡ true → (a ≡ true) × (b ≡ true)
both_true a b h = grind arith

-- each value is that of its byte, from one byte on
abbrev have_theirs : ℕ → List ℕ → Bool
have_theirs first [] = true
have_theirs first (value ∷ values) = value == value_or_sixteen first && have_theirs (suc first) values

theirs : (first : ℕ) (values : List ℕ) → have_theirs first values ≡ true → (index : ℕ) → index < length values
    → slice_index values index ≡ value_or_sixteen (first + index)
theirs first [] h index within = absurd (omega (arith, within))
theirs first (v ∷ vs) h zero within =
    let same : first + 0 ≡ first = omega arith in
    rw same (eqb-true v (value_or_sixteen first) (both_true (v == value_or_sixteen first) (have_theirs (suc first) vs) h).0)
theirs first (v ∷ vs) h (suc index) within =
    let same : first + suc index ≡ suc first + index = omega arith in
    rw same (theirs (suc first) vs (both_true (v == value_or_sixteen first) (have_theirs (suc first) vs) h).1 index
    (omega (arith, within)))

pub are_values : (values : List ℕ) → have_theirs 0 values ≡ true → length values ≡ 256 → AreValues values
are_values values h all = record {
  each = λ byte small. subst (λ (n : ℕ). slice_index values byte ≡ value_or_sixteen n) (zero_plus byte)
      (theirs 0 values h byte (omega (arith, all, small)));
  all = all;
}
  where
    zero_plus : (n : ℕ) → 0 + n ≡ n
    zero_plus n = omega arith

-- ---- what a value says of its byte

is_digit : (o : Option ℕ) (value : ℕ) → value ≡ unwrap_or o 16 → value ≤ 15 → o ≡ Some value
is_digit (Some v) value e small = ap Some (sym e)
is_digit None value e small = absurd (omega (arith, e))

small_value : (byte v : ℕ) → hex_digit_value byte ≡ Some v → v < 16
small_value byte v h = grind arith

no_digit : (byte value : ℕ) (o : Option ℕ) → hex_digit_value byte ≡ o → value ≡ unwrap_or o 16 → 15 < value → o ≡ None
no_digit byte value (Some v) is e large = absurd (let small = small_value byte v is in omega (arith, e))
no_digit byte value None is e large = refl

-- ---- one more pair

module _ (first second high low index : ℕ) (is_high : high ≡ value_or_sixteen first)
    (is_low : low ≡ value_or_sixteen second) where
  read_high : high ≤ 15 → value_at first index ≡ Ok high
  read_high small = ap (digit_or_error first index) (is_digit (hex_digit_value first) high is_high small)

  read_low : low ≤ 15 → value_at second (index + 1) ≡ Ok low
  read_low small = ap (digit_or_error second (index + 1)) (is_digit (hex_digit_value second) low is_low small)

  pair_read : high ≤ 15 → low ≤ 15 → pair_value first second index ≡ Ok (16 * high + low)
  pair_read small_high small_low =
      let byte : high * 16 + low ≡ 16 * high + low = omega arith in
      rw (read_high small_high, read_low small_low) (ap Ok byte)

  high_refused : 15 < high → pair_value first second index ≡ Err (InvalidHexCharacter first index)
  high_refused large =
      let bad : value_at first index ≡ Err (InvalidHexCharacter first index) =
      ap (digit_or_error first index) (no_digit first high (hex_digit_value first) refl is_high large) in
      rw bad refl

  low_refused : high ≤ 15 → 15 < low → pair_value first second index ≡ Err (InvalidHexCharacter second (index + 1))
  low_refused small large =
      let bad : value_at second (index + 1) ≡ Err (InvalidHexCharacter second (index + 1)) =
      ap (digit_or_error second (index + 1)) (no_digit second low (hex_digit_value second) refl is_low large) in
      rw (read_high small, bad) refl

-- the first bytes of `out` are those of the first pairs of digits
abbrev AreDecoded : List ℕ → List ℕ → ℕ → Type 0
AreDecoded word out at = decode_pairs 0 word ≡ prepend (take at out) (decode_pairs (2 * at) (drop (2 * at) word))

none_given : (word : List ℕ) (e : FromHexError) → length word % 2 ≡ 0 → decode_pairs 0 word ≡ Err e
    → given (decode_of word) ≡ None
none_given word e even bad = ap given (decode_of-even word even ∙ bad)

module _ (word out : List ℕ) (at high low : ℕ) (even : length word % 2 ≡ 0) (fits : 2 * at + 1 < length word)
    (is_high : high ≡ value_or_sixteen (slice_index word (2 * at)))
    (is_low : low ≡ value_or_sixteen (slice_index word (2 * at + 1))) (decoded : AreDecoded word out at) where
  abbrev First : ℕ
  First = slice_index word (2 * at)

  abbrev Second : ℕ
  Second = slice_index word (2 * at + 1)

  pub pair_decoded : at < length out → high ≤ 15 → low ≤ 15
      → AreDecoded word (slice_set out at (16 * high + low)) (at + 1)
  pair_decoded room small_high small_low =
      decode_step word out at (16 * high + low) fits room
      (pair_read First Second high low (2 * at) is_high is_low small_high small_low) decoded

  pub refused_by_high : 15 < high → given (decode_of word) ≡ None
  refused_by_high large =
      none_given word _ even (decode_err word out at _ fits
      (high_refused First Second high low (2 * at) is_high is_low large) decoded)

  pub refused_by_low : high ≤ 15 → 15 < low → given (decode_of word) ≡ None
  refused_by_low small large =
      none_given word _ even (decode_err word out at _ fits
      (low_refused First Second high low (2 * at) is_high is_low small large) decoded)

-- all pairs are decoded
pub all_decoded : (word out : List ℕ) (at : ℕ) → length word % 2 ≡ 0 → length out ≤ at → length word ≤ 2 * at
    → AreDecoded word out at → given (decode_of word) ≡ Some out
all_decoded word out at even end whole decoded =
    ap given (decode_of-even word even ∙ decode_done word out at end whole decoded)
