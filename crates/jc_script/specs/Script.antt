-- Scripts: their lines, and the commands that these are. A byte is its number: 10 is the line feed.
use Rattle.std.specs.Prelude.{ℕ, ◌+◌, ◌-◌, ◌^◌, ◌==◌, ◌&&◌, ◌||◌, nat_le, nat_lt}
use Rattle.std.specs.Prelude.{List, [], ◌∷◌, ◌++◌, drop, length, take, Option, Some, None}
use Rattle.std.specs.Prelude.{Bool, bytes_eq, codes, position, if◌then◌else◌}
use Rattle.std.specs.Char.{is_ascii_digit, is_ascii_whitespace}
use Rattle.std.specs.List.{list_all, onto_first, suffix_len}
use Rattle.std.specs.Option.{is_some, option_map_or}
use Rattle.std.specs.Str.{is_utf8}
use Rattle.std.specs.Str.Parse.{digits_value}
use Rattle.jc_api.specs.Options.{◌>>=◌}
use Rattle.hex.specs.Hex.{decode_of}
use Rattle.jc_api.specs.Text.{given, is_skipped, spelled_aid, words_of}

-- ---- lines

-- the lines of a script: each ends with a line feed. The bytes after the last line feed are a line if there are any
unfoldable pub lines_of : List ℕ → List (List ℕ)
lines_of [] = []
lines_of (b ∷ bytes) = if b == 10 then [] ∷ lines_of bytes else onto_first b (lines_of bytes)

-- the most bytes of a line without its line feed, and the most lines of a script
abbrev pub most_in_line : ℕ
most_in_line = 1024

abbrev pub most_lines : ℕ
most_lines = 100000

-- ---- commands

-- a package and its certificate, by their names; an applet, the new instance and its data; a command APDU; a reset; and
-- in a session how many cells and objects are used, and how many steps a call may make from now on
pub data ScriptCommand : Type 0 where
  Load : (folder certificate : List ℕ) → ScriptCommand
  Install : (applet instance incoming : List ℕ) → ScriptCommand
  Apdu : (bytes : List ℕ) → ScriptCommand
  Reset : ScriptCommand
  Cells : ScriptCommand
  Objects : ScriptCommand
  Steps : (steps : ℕ) → ScriptCommand

abbrev pub text_of : List ℕ → Option (List ℕ)
text_of word = if is_utf8 word then Some word else None

-- a name is UTF-8. It may have control bytes, such as a tab
abbrev pub name_of : List ℕ → Option (List ℕ)
name_of word = if nat_lt 0 (length word) then text_of word else None

-- at least one byte, two hexadecimal digits each
abbrev pub bytes_of : List ℕ → Option (List ℕ)
bytes_of word = if nat_lt 0 (length word) && nat_le (length word) most_in_line then given (decode_of word) else None

-- a budget of steps: decimal digits that encode 1 to 4,294,967,295. Leading zeros are allowed
abbrev pub is_budget : List ℕ → Bool
is_budget text = list_all is_ascii_digit text
    && (nat_lt 0 (digits_value 10 text) && nat_lt (digits_value 10 text) (2 ^ 32))

abbrev pub budget_in : List ℕ → Option ℕ
budget_in text = if is_budget text then Some (digits_value 10 text) else None

abbrev pub budget_of : List ℕ → Option ℕ
budget_of word = text_of word >>= budget_in

-- a folder and a certificate, if both are names
abbrev pub loading : (folder certificate : List ℕ) → Option ScriptCommand
loading folder certificate = do
  f ← name_of folder
  c ← name_of certificate
  Some (Load f c)

-- `load FOLDER CERTIFICATE`
unfoldable pub load_asked : List (List ℕ) → Option ScriptCommand
load_asked (folder ∷ certificate ∷ []) = loading folder certificate
load_asked _ = None

-- `install APPLET INSTANCE`, and optionally DATA
unfoldable pub install_asked : List (List ℕ) → Option ScriptCommand
install_asked (applet ∷ instance ∷ []) = do
  a ← spelled_aid applet
  i ← spelled_aid instance
  Some (Install a i [])
install_asked (applet ∷ instance ∷ incoming ∷ []) = do
  a ← spelled_aid applet
  i ← spelled_aid instance
  d ← bytes_of incoming
  Some (Install a i d)
install_asked _ = None

-- `apdu BYTES`
unfoldable pub apdu_asked : List (List ℕ) → Option ScriptCommand
apdu_asked (bytes ∷ []) = do
  b ← bytes_of bytes
  Some (Apdu b)
apdu_asked _ = None

-- `reset`
unfoldable pub reset_asked : List (List ℕ) → Option ScriptCommand
reset_asked [] = Some Reset
reset_asked _ = None

-- the first word selects the command
unfoldable pub asked : List (List ℕ) → Option ScriptCommand
asked [] = None
asked (keyword ∷ words) =
    if bytes_eq keyword (codes "load") then load_asked words
    else (if bytes_eq keyword (codes "install") then install_asked words
    else (if bytes_eq keyword (codes "apdu") then apdu_asked words
    else (if bytes_eq keyword (codes "reset") then reset_asked words
    else None)))

-- `steps N`, in a session
unfoldable pub steps_asked : List (List ℕ) → Option ScriptCommand
steps_asked (number ∷ []) = do
  n ← budget_of number
  Some (Steps n)
steps_asked _ = None

-- bytes in several words, after those so far: at most as many as a line of one word can encode
abbrev pub most_bytes : ℕ
most_bytes = 512

unfoldable pub joined_behind : List ℕ → List (List ℕ) → Option (List ℕ)
joined_behind before [] = Some before
joined_behind before (word ∷ words) = do
  bytes ← bytes_of word
  if nat_le (length before + length bytes) most_bytes then joined_behind (before ++ bytes) words else None

-- `apdu BYTES BYTES ..`, in a session
unfoldable pub pieces_asked : List (List ℕ) → Option ScriptCommand
pieces_asked [] = None
pieces_asked (word ∷ words) = do
  bytes ← joined_behind [] (word ∷ words)
  Some (Apdu bytes)

-- in a session the first word selects the command, too
unfoldable pub asked_in_session : List (List ℕ) → Option ScriptCommand
asked_in_session [] = None
asked_in_session (keyword ∷ words) =
    if bytes_eq keyword (codes "steps") then steps_asked words
    else (if bytes_eq keyword (codes "apdu") then pieces_asked words
    else asked (keyword ∷ words))

-- ---- names in quotes, in a session: `load "my folder" "my certificate"`

-- the first name of a text, and what follows after a space, if there is a space
pub record Cut : Type 0 where
  pub name : List ℕ
  pub behind : Option (List ℕ)

abbrev pub is_space : ℕ → Bool
is_space b = b == 32

abbrev pub is_quote : ℕ → Bool
is_quote b = b == 34

-- a name that doesn't begin with a quote ends before the first space
abbrev pub cut_at_space : List ℕ → Cut
cut_at_space text =
    option_map_or (λ at. record { name = take at text; behind = Some (drop (at + 1) text) }) (position is_space text)
    (record { name = text; behind = None })

-- a closing quote ends the text, or a space follows it
abbrev pub behind_quote : (name text : List ℕ) → Option Cut
behind_quote name [] = Some (record { name = name; behind = None })
behind_quote name (b ∷ text) = if is_space b then Some (record { name = name; behind = Some text }) else None

-- after an opening quote the name ends before the next quote
abbrev pub cut_at_quote : List ℕ → Option Cut
cut_at_quote text = do
  at ← position is_quote text
  behind_quote (take at text) (drop (at + 1) text)

-- a name that begins with a quote is between two quotes
unfoldable pub cut_name : List ℕ → Option Cut
cut_name [] = Some (cut_at_space [])
cut_name (b ∷ text) = if is_quote b then cut_at_quote text else Some (cut_at_space (b ∷ text))

-- two names, separated by one space, with nothing after them
unfoldable pub quoted_load : List ℕ → Option ScriptCommand
quoted_load text = do
  folder ← cut_name text
  rest ← folder.behind
  certificate ← cut_name rest
  if is_some certificate.behind then None else loading folder.name certificate.name

-- the text after `load` and a space, in a line with a quote
abbrev pub quoted_names : List ℕ → Option (List ℕ)
quoted_names line =
    if bytes_eq (cut_at_space line).name (codes "load") && is_some (position is_quote line)
    then (cut_at_space line).behind
    else None

-- a line of a session, by its names in quotes or by its words
unfoldable pub asked_by_line : List ℕ → Option ScriptCommand
asked_by_line line = option_map_or quoted_load (quoted_names line) (asked_in_session (words_of line))

-- ---- the meaning of a line

pub data ScriptLine : Type 0 where
  Skipped : ScriptLine
  Asks : (command : ScriptCommand) → ScriptLine
  Bad : ScriptLine

-- an empty line and one whose first byte is # are skipped; words are separated by one space
unfoldable pub said_by : List ℕ → ScriptLine
said_by line = if is_skipped line then Skipped else option_map_or Asks (asked (words_of line)) Bad

-- a line without the white space of ASCII at its end
abbrev pub trimmed : List ℕ → List ℕ
trimmed line = take (length line - suffix_len is_ascii_whitespace line) line

-- a session's line: also `cells`, `objects` and `steps`; the bytes of a command may be in several words, and names in
-- quotes
unfoldable pub said_trimmed : List ℕ → ScriptLine
said_trimmed line =
    if bytes_eq line (codes "cells") then Asks Cells
    else (if bytes_eq line (codes "objects") then Asks Objects
    else (if is_skipped line then Skipped
    else option_map_or Asks (asked_by_line line) Bad))

-- white space at its end doesn't count
abbrev pub said_in_session : List ℕ → ScriptLine
said_in_session line = said_trimmed (trimmed line)

-- the meaning of a session's line, whatever its number
abbrev pub session_line : List ℕ → ScriptLine
session_line line = if nat_lt most_in_line (length line) then Bad else said_in_session line

-- a line isn't read whole if its number, from 1 on, is too great, or if it is too long
abbrev pub is_unread : ℕ → List ℕ → Bool
is_unread number line = nat_lt most_lines number || nat_lt most_in_line (length line)

-- the meaning of a line by its number: a line that isn't read whole is bad
abbrev pub line_at : ℕ → List ℕ → ScriptLine
line_at number line = if is_unread number line then Bad else said_by line
