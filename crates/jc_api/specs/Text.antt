-- Text as lines, lines as words, and words as numbers and bytes. A byte is its number: 10 is the line feed, 32 the
-- space, 35 the sign #.
use Rattle.std.specs.Prelude.{ℕ, ◌+◌, ◌-◌, ◌*◌, ◌==◌, ◌&&◌, nat_le, nat_lt, List, [], ◌∷◌, length, fold, Bool, true}
use Rattle.std.specs.Prelude.{Option, Some, None, Result, Ok, Err, if◌then◌else◌}
use Rattle.std.specs.Char.{is_ascii_digit}
use Rattle.std.specs.List.{list_all, slice_split}
use Rattle.hex.specs.Hex.{decode_of}
use Rattle.hex.specs.declared.error.FromHexError.{FromHexError}
use Rattle.jc_base.specs.Aid.{aid_of}
use Rattle.jc_api.specs.Options.{◌>>=◌}

-- the pieces before, between and after the separators
abbrev pub pieces : ℕ → List ℕ → List (List ℕ)
pieces separator bytes = slice_split (λ b. b == separator) bytes

-- the lines of a text; if it ends with a line feed, the last line is empty
abbrev pub lines_of : List ℕ → List (List ℕ)
lines_of text = pieces 10 text

-- the words of a line, separated by one space; between two spaces stands an empty word
abbrev pub words_of : List ℕ → List (List ℕ)
words_of line = pieces 32 line

-- a line that is skipped: it is empty, or its first byte is #
abbrev pub is_skipped : List ℕ → Bool
is_skipped [] = true
is_skipped (b ∷ bytes) = b == 35

-- the number that decimal digits encode
abbrev pub value_of : List ℕ → ℕ
value_of digits = fold (λ n digit. 10 * n + (digit - 48)) 0 digits

-- one or more decimal digits, as a number up to a limit; leading zeros are allowed
unfoldable pub decimal_up_to : ℕ → List ℕ → Option ℕ
decimal_up_to limit word =
    if nat_lt 0 (length word) && list_all is_ascii_digit word && nat_le (value_of word) limit then Some (value_of word)
    else None

-- two hexadecimal digits a byte, in either case
abbrev pub given : {A : Type 0} → Result A FromHexError → Option A
given (Ok x) = Some x
given (Err e) = None

unfoldable pub hexadecimal : List ℕ → Option (List ℕ)
hexadecimal word = given (decode_of word)

-- an AID in hexadecimal
unfoldable pub spelled_aid : List ℕ → Option (List ℕ)
spelled_aid word = hexadecimal word >>= aid_of
