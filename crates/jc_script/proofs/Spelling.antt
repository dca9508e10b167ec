-- Words in hexadecimal.
use Rattle.std.proofs.Common.{◌≡◌, ℕ, ◌*◌, ◌/◌, ◌<◌, Bool, true, false, cond, List, length}
use Rattle.std.proofs.Common.{Some, None, IfSome, Result, Ok, Err, ap, sym, refl, arith, nat_le, nat_lt, ◌&&◌}
use Rattle.hex.specs.Hex.{decode_of}
use Rattle.hex.specs.declared.error.FromHexError.{FromHexError}
use Rattle.hex.proofs.HexLemmas.{decode_of-ok}
use Rattle.jc_base.specs.Aid.{aid_of, has_aid_length}
use Rattle.jc_api.specs.Options.{◌>>=◌}
use Rattle.jc_api.specs.Text.{given, hexadecimal, spelled_aid}
use Rattle.jc_script.specs.Script.{bytes_of, most_in_line}

-- bytes that are too few or too many are no AID
no_aid : (bytes : List ℕ) → has_aid_length (length bytes) ≡ false → aid_of bytes ≡ None
no_aid bytes e = ap (λ v. cond v (Some bytes) None) e

-- nothing spells none, and neither does a word that is longer than a line may be
outside : (word bytes : List ℕ) → (nat_lt 0 (length word) && nat_le (length word) most_in_line) ≡ false
    → length word ≡ 2 * length bytes → has_aid_length (length bytes) ≡ false
outside word bytes e l = grind arith

none_there : (word : List ℕ) → (nat_lt 0 (length word) && nat_le (length word) most_in_line) ≡ false
    → None ≡ spelled_aid word
unfolding spelled_aid hexadecimal
none_there word h = part (decode_of word) refl
  where
    part : (d : Result (List ℕ) FromHexError) → decode_of word ≡ d → None ≡ (given d >>= aid_of)
    part (Ok bytes) e = let l = (decode_of-ok word bytes e).2 in sym (no_aid bytes (outside word bytes h (omega (arith, l))))
    part (Err x) e = refl

-- a word spells half as many bytes as it has digits, which may be more than there is room for
pub no_room : (word : List ℕ) (room : ℕ) → room < length word / 2
    → IfSome (bytes_of word) (λ bytes. room < length bytes)
no_room word room less = part (nat_lt 0 (length word) && nat_le (length word) most_in_line) (decode_of word) refl
  where
    part : (fits : Bool) (d : Result (List ℕ) FromHexError) → decode_of word ≡ d
        → IfSome (cond fits (given d) None) (λ bytes. room < length bytes)
    part true (Ok bytes) e = let l = (decode_of-ok word bytes e).2 in omega (arith, l, less)
    part true (Err x) e = tt
    part false d e = tt

-- an AID is spelled by a word that spells bytes
pub aid_by_bytes : (word : List ℕ) → (bytes_of word >>= aid_of) ≡ spelled_aid word
unfolding spelled_aid hexadecimal
aid_by_bytes word = part (nat_lt 0 (length word) && nat_le (length word) most_in_line) refl
  where
    part : (fits : Bool) → (nat_lt 0 (length word) && nat_le (length word) most_in_line) ≡ fits
        → (cond fits (given (decode_of word)) None >>= aid_of) ≡ spelled_aid word
    part true e = refl
    part false e = none_there word e
