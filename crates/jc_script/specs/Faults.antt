-- The fault of a line that is no command, and its place. A script that ends at such a line reports it; no answer
-- depends on it.
use Rattle.std.specs.Prelude.{ℕ, ◌+◌, ◌-◌, ◌/◌, ◌%◌, ◌==◌, ◌&&◌, Bool, true, false, not, nat_le, nat_lt}
use Rattle.std.specs.Prelude.{List, [], ◌∷◌, ◌++◌, codes, length, Option, Some, None}
use Rattle.std.specs.Prelude.{replicate, bytes_eq, get_or, position, if◌then◌else◌, unwrap_or}
use Rattle.std.specs.Char.{encode_utf8, is_ascii_hexdigit}
use Rattle.std.specs.Fmt.{decimal}
use Rattle.std.specs.Option.{is_some, option_map_or}
use Rattle.std.specs.Str.{is_utf8}
use Rattle.hex.specs.Hex.{encode_upper}
use Rattle.jc_api.specs.Text.{words_of}
use Rattle.jc_base.specs.Aid.{has_aid_length}
use Rattle.jc_api.specs.Options.{◌>>=◌}
use Rattle.jc_script.specs.Script.{budget_of, cut_name, is_quote, name_of, quoted_names, trimmed}
use Rattle.jc_script.specs.declared.fault.LineCause.{LineCause}
use Rattle.jc_script.specs.declared.fault.LineCause.TheVariants.{AidLength, BlankTooMany, NoBudget, NoDigit, NotText}
use Rattle.jc_script.specs.declared.fault.LineCause.TheVariants.{OddDigit, OpenQuote, TooLong, TooMany, UnknownCommand}
use Rattle.jc_script.specs.declared.fault.LineCause.TheVariants.{Unprintable, WordMissing, WordTooMany}
use Rattle.jc_script.specs.declared.fault.LineFault.{LineFault}
use Rattle.jc_script.specs.declared.finding.Dialect.{Dialect}
use Rattle.jc_script.specs.declared.finding.Dialect.TheVariants.{Script, Session}
use Rattle.jc_script.specs.declared.finding.Form.{Form}
use Rattle.jc_script.specs.declared.finding.Form.TheVariants.{Budget, Bytes, Name}
use Rattle.jc_script.specs.declared.finding.Form.TheVariants as forms

abbrev pub fault_at : LineCause → ℕ → LineFault
fault_at cause column = record { cause = cause; column = column }

-- ---- one word, whose first byte is in a column

-- whether a byte is printable: in ASCII, from the space on
abbrev pub is_printable : ℕ → Bool
is_printable b = nat_le 32 b && nat_lt b 127

-- a byte in place of a digit
abbrev pub byte_cause : ℕ → LineCause
byte_cause b = if is_printable b then NoDigit b else Unprintable b

abbrev pub odd_fault : ℕ → List ℕ → Option LineFault
odd_fault column word = if length word % 2 == 0 then None else Some (fault_at OddDigit (column + length word - 1))

-- the first byte that is no digit, or an odd number of digits
abbrev pub digits_fault : ℕ → List ℕ → Option LineFault
digits_fault column word =
    option_map_or (λ at. Some (fault_at (byte_cause (get_or word at 0)) (column + at)))
    (position (λ b. not (is_ascii_hexdigit b)) word)
    (odd_fault column word)

-- an AID's digits
abbrev pub aid_fault : ℕ → List ℕ → Option LineFault
aid_fault column word =
    option_map_or Some (digits_fault column word)
    (if has_aid_length (length word / 2) then None else Some (fault_at AidLength column))

-- a name is UTF-8
abbrev pub name_fault : ℕ → List ℕ → Option LineFault
name_fault column word = if is_utf8 word then None else Some (fault_at NotText column)

-- a budget of steps
abbrev pub budget_fault : ℕ → List ℕ → Option LineFault
budget_fault column word = if is_some (budget_of word) then None else Some (fault_at NoBudget column)

-- between two spaces there is a byte
abbrev pub word_fault : Form → ℕ → List ℕ → Option LineFault
word_fault form column [] = Some (fault_at BlankTooMany column)
word_fault Name column (b ∷ word) = name_fault column (b ∷ word)
word_fault forms.Aid column (b ∷ word) = aid_fault column (b ∷ word)
word_fault Bytes column (b ∷ word) = digits_fault column (b ∷ word)
word_fault Budget column (b ∷ word) = budget_fault column (b ∷ word)

-- ---- the words after the first

abbrev pub extra_fault : ℕ → List ℕ → LineFault
extra_fault column [] = fault_at BlankTooMany column
extra_fault column (b ∷ word) = fault_at WordTooMany column

abbrev pub missing_fault : ℕ → ℕ → Option LineFault
missing_fault needed column = if needed == 0 then None else Some (fault_at WordMissing column)

-- how many bytes words take, with one space after each
abbrev pub spread : List (List ℕ) → ℕ
spread [] = 0
spread (word ∷ words) = length word + 1 + spread words

-- the first fault of words that should have these forms, at least `needed` of them. Words are separated by one space
unfoldable pub words_fault : List Form → ℕ → ℕ → List (List ℕ) → Option LineFault
words_fault [] needed column [] = None
words_fault [] needed column (word ∷ words) = Some (extra_fault column word)
words_fault (form ∷ forms) needed column [] = missing_fault needed column
words_fault (form ∷ forms) needed column (word ∷ words) =
    option_map_or Some (word_fault form column word)
    (words_fault forms (needed - 1) (column + (length word + 1)) words)

-- ---- names in quotes, in a session

-- whether a name begins with a quote that isn't closed
abbrev pub is_open : List ℕ → Bool
is_open [] = false
is_open (b ∷ text) = is_quote b && not (is_some (position is_quote text))

-- such a quote at the beginning of a line's last bytes
abbrev pub open_fault : (line last : List ℕ) → Option LineFault
open_fault line last =
    if is_open last then Some (fault_at OpenQuote (length line + 1 - length last)) else None

-- or at the beginning of the second name, if the first is a name
abbrev pub second_fault : (line last : List ℕ) → Option LineFault
second_fault line last = do
  folder ← cut_name last
  name ← name_of folder.name
  rest ← folder.behind
  open_fault line rest

abbrev pub quote_fault : List ℕ → Option LineFault
quote_fault line = do
  names ← quoted_names line
  option_map_or Some (open_fault line names) (second_fault line names)

-- ---- a line

-- the forms of a command's words, and how many of them are needed
pub record Layout : Type 0 where
  pub forms : List Form
  pub needed : ℕ

abbrev pub is_session : Dialect → Bool
is_session Script = false
is_session Session = true

-- bytes are one word; in a session as many words as a line can have
abbrev pub byte_forms : Dialect → List Form
byte_forms Script = Bytes ∷ []
byte_forms Session = replicate 512 Bytes

-- commands by their first word. A session has three more
abbrev pub layout_of : Dialect → List ℕ → Option Layout
layout_of dialect keyword =
    if bytes_eq keyword (codes "load") then Some (record { forms = Name ∷ Name ∷ []; needed = 2 })
    else (if bytes_eq keyword (codes "install")
    then Some (record { forms = forms.Aid ∷ forms.Aid ∷ Bytes ∷ []; needed = 2 })
    else (if bytes_eq keyword (codes "apdu") then Some (record { forms = byte_forms dialect; needed = 1 })
    else (if bytes_eq keyword (codes "reset") then Some (record { forms = []; needed = 0 })
    else (if is_session dialect && bytes_eq keyword (codes "cells") then Some (record { forms = []; needed = 0 })
    else (if is_session dialect && bytes_eq keyword (codes "objects") then Some (record { forms = []; needed = 0 })
    else (if is_session dialect && bytes_eq keyword (codes "steps")
    then Some (record { forms = Budget ∷ []; needed = 1 })
    else None))))))

-- a first word that is no command
abbrev pub keyword_fault : List ℕ → LineFault
keyword_fault [] = fault_at BlankTooMany 1
keyword_fault (b ∷ word) =
    option_map_or (λ at. fault_at (Unprintable (get_or (b ∷ word) at 0)) (1 + at))
    (position (λ b. not (is_printable b)) (b ∷ word))
    (fault_at UnknownCommand 1)

-- the words after the first word and a space
abbrev pub command_fault : List Form → ℕ → List ℕ → List (List ℕ) → LineFault
command_fault forms needed keyword words =
    unwrap_or (words_fault forms needed (length keyword + 2) words) (fault_at UnknownCommand 1)

abbrev pub fault_behind : Dialect → List ℕ → List (List ℕ) → LineFault
fault_behind dialect keyword words =
    option_map_or (λ (layout : Layout). command_fault layout.forms layout.needed keyword words)
    (layout_of dialect keyword) (keyword_fault keyword)

abbrev pub fault_among : Dialect → List (List ℕ) → LineFault
fault_among dialect [] = fault_at UnknownCommand 1
fault_among dialect (keyword ∷ words) = fault_behind dialect keyword words

-- in a session white space at the end of a line doesn't count
abbrev pub looked_at : Dialect → List ℕ → List ℕ
looked_at Script line = line
looked_at Session line = trimmed line

-- a script has no names in quotes
abbrev pub quote_fault_in : Dialect → List ℕ → Option LineFault
quote_fault_in Script line = None
quote_fault_in Session line = quote_fault line

-- the fault of an open quote, or else the first fault among the words
abbrev pub fault_of : Dialect → List ℕ → LineFault
fault_of dialect line = unwrap_or (quote_fault_in dialect line) (fault_among dialect (words_of line))

-- the first fault of a line that is no command, of a script or of a session
abbrev pub fault_in : Dialect → List ℕ → LineFault
fault_in dialect line = fault_of dialect (looked_at dialect line)

-- ---- as text

abbrev pub escaped : ℕ → List ℕ
escaped b = if b == 9 then codes "\\t" else (if b == 13 then codes "\\r" else codes "\\x" ++ encode_upper (b ∷ []))

abbrev pub cause_text : LineCause → List ℕ
cause_text BlankTooMany = codes "a blank too many"
cause_text UnknownCommand = codes "an unknown command"
cause_text WordMissing = codes "a word is missing"
cause_text WordTooMany = codes "a word too many"
cause_text OddDigit = codes "an odd digit"
cause_text (NoDigit b) = codes "no hexadecimal digit: " ++ encode_utf8 b
cause_text (Unprintable b) = codes "a byte that isn't printable: " ++ escaped b
cause_text AidLength = codes "an AID with fewer than 5 or more than 16 bytes"
cause_text NotText = codes "a name that isn't UTF-8"
cause_text OpenQuote = codes "a quote without another"
cause_text NoBudget = codes "no number from 1 to 4294967295"
cause_text TooLong = codes "more than 1024 bytes"
cause_text TooMany = codes "more than 100000 lines"

abbrev pub fault_text : LineFault → List ℕ
fault_text fault = ((codes "column " ++ decimal fault.column) ++ codes ": ") ++ cause_text fault.cause
