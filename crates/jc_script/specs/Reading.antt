-- The results of reading a script: a line, its end, or a line that is none.
use Rattle.std.specs.Prelude.{⊤, ◌≡◌, ℕ, suc, ◌<◌, ◌≤◌, true, List, [], ◌∷◌, ◌++◌, length, Option, Some, None}
use Rattle.std.specs.Prelude.{option_map}
use Rattle.jc_script.specs.Script.{is_unread, lines_of, most_in_line, most_lines}
use Rattle.jc_script.specs.declared.reader.NextLine.{NextLine}
use Rattle.jc_script.specs.declared.reader.NextLine.TheVariants as next
use Rattle.jc_script.specs.declared.reader.ReadFault.{ReadFault}
use Rattle.jc_script.specs.declared.reader.ReadFault.TheVariants as faults

-- bytes that were read and belong to later lines, the line that was read last, and how often the reader was called
pub record SoFar : Type 0 where
  pub unread : List ℕ
  pub line : List ℕ
  pub calls : ℕ

-- the most calls of a reader
abbrev pub most_calls : ℕ
most_calls = 16777216

-- why nothing was read, from how many calls of the reader had failed before and after, and how often it was called for
-- the script: one call failed; or it was called as often as it may be
abbrev pub IsReadFault : (before after calls : ℕ) → ReadFault → Type 0
IsReadFault before after calls (faults.System error) = after ≡ suc before
IsReadFault before after calls faults.TooManyReads = calls ≡ most_calls

-- the bytes that are left of the script, if its reader's bytes are known
abbrev pub pending : List ℕ → Option (List ℕ) → Option (List ℕ)
pending unread known = option_map (λ bytes. unread ++ bytes) known

-- the first of these lines isn't read whole, with its number
pub record BeginsBad (number : ℕ) (lines : List (List ℕ)) : Type 0 where
  pub first : List ℕ
  pub others : List (List ℕ)
  pub are : lines ≡ first ∷ others
  pub unread : is_unread number first ≡ true

-- a line that isn't too long was taken off
pub record TakesLine (number : ℕ) (line bytes rest : List ℕ) : Type 0 where
  pub lines : lines_of bytes ≡ line ∷ lines_of rest
  pub short : length line ≤ most_in_line
  pub few : number ≤ most_lines

-- what a result means for bytes that are known; for others it means nothing
abbrev pub TellsOf : ℕ → List ℕ → List ℕ → List ℕ → NextLine → Type 0
TellsOf number line bytes rest next.Line = TakesLine number line bytes rest
TellsOf number line bytes rest next.End = lines_of bytes ≡ []
TellsOf number line bytes rest next.Bad = BeginsBad number (lines_of bytes)

abbrev pub Tells : ℕ → List ℕ → Option (List ℕ) → Option (List ℕ) → NextLine → Type 0
Tells number line (Some bytes) (Some rest) told = TellsOf number line bytes rest told
Tells number line (Some bytes) None told = ⊥
Tells number line None after told = ⊤

-- ---- a session, whose lines have no numbers

-- a line was taken off
pub record TakesShortLine (line bytes rest : List ℕ) : Type 0 where
  pub lines : lines_of bytes ≡ line ∷ lines_of rest
  pub short : length line ≤ most_in_line

-- a line that is too long was taken off
pub record SkipsLine (bytes rest : List ℕ) : Type 0 where
  pub first : List ℕ
  pub lines : lines_of bytes ≡ first ∷ lines_of rest
  pub long : most_in_line < length first

abbrev pub TellsOfSession : List ℕ → List ℕ → List ℕ → NextLine → Type 0
TellsOfSession line bytes rest next.Line = TakesShortLine line bytes rest
TellsOfSession line bytes rest next.End = lines_of bytes ≡ []
TellsOfSession line bytes rest next.Bad = SkipsLine bytes rest

abbrev pub TellsInSession : List ℕ → Option (List ℕ) → Option (List ℕ) → NextLine → Type 0
TellsInSession line (Some bytes) (Some rest) told = TellsOfSession line bytes rest told
TellsInSession line (Some bytes) None told = ⊥
TellsInSession line None after told = ⊤
