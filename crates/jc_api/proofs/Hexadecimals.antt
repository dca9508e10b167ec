-- AIDs in hexadecimal.
use Rattle.std.proofs.Common.{◌≡◌, ℕ, ◌/◌, ◌<◌, Bool, false, cond, List, ◌++◌, length, take, Some, None, Result, Ok, Err, ap, ◌∙◌, sym, refl, arith}
use Rattle.std.proofs.Math.Seq.{take-append_seam}
use Rattle.hex.specs.Hex.{decode_of}
use Rattle.hex.specs.declared.error.FromHexError.{FromHexError}
use Rattle.hex.proofs.HexLemmas.{decode_of-ok}
use Rattle.jc_base.specs.Aid.{aid_of, has_aid_length}
use Rattle.jc_api.specs.Options.{◌>>=◌}
use Rattle.jc_api.specs.Text.{given, hexadecimal, spelled_aid}

long : (bytes : List ℕ) → 16 < length bytes → aid_of bytes ≡ None
long bytes h = part (has_aid_length (length bytes)) over
  where
    over : has_aid_length (length bytes) ≡ false
    over = grind arith

    part : (b : Bool) → b ≡ false → cond b (Some bytes) None ≡ None
    part b e = ap (λ v. cond v (Some bytes) None) e

pub too_long : (word : List ℕ) → 16 < length word / 2 → None ≡ spelled_aid word
unfolding spelled_aid hexadecimal
too_long word h = part (decode_of word) refl
  where
    part : (d : Result (List ℕ) FromHexError) → decode_of word ≡ d → None ≡ (given d >>= aid_of)
    part (Ok bytes) e = let l = (decode_of-ok word bytes e).2 in sym (long bytes (omega (arith, l)))
    part (Err x) e = refl

pub not_spelled : (word : List ℕ) → hexadecimal word ≡ None → None ≡ spelled_aid word
unfolding spelled_aid
not_spelled word h = sym (ap (λ o. o >>= aid_of) h)

pub spelled : (word out rest : List ℕ) (n : ℕ) → length out ≡ n → hexadecimal word ≡ Some out → aid_of (take n (out ++ rest)) ≡ spelled_aid word
unfolding spelled_aid
spelled word out rest n full h =
    ap (λ k. aid_of (take k (out ++ rest))) (sym full) ∙ ap aid_of (take-append_seam out rest) ∙ sym (ap (λ o. o >>= aid_of) h)
