-- Private. The parts of reading a line.
use Rattle.std.specs.Prelude.{⊤, ◌≡◌, ℕ, ◌<◌, ◌≤◌, ◌==◌, Bool, true, false, List, [], ◌∷◌, ◌++◌, length, Option, Some}
use Rattle.std.specs.Prelude.{None}
use Rattle.std.specs.Io.KnownBytes.{Consumes, IsAtEnd}
use Rattle.std.specs.List.{AllByRecursion}
use Rattle.jc_streams.specs.declared.outcome.Outcome.{Outcome}
use Rattle.jc_streams.specs.declared.outcome.Outcome.TheVariants.{Moved, Interrupted, Failed}
use Rattle.jc_script.specs.Reading.{SoFar}
use Rattle.jc_script.specs.Script.{lines_of, most_in_line}
use Rattle.jc_script.specs.declared.reader.NextLine.{NextLine}
use Rattle.jc_script.specs.declared.reader.NextLine.TheVariants as next
use Rattle.jc_script.specs.declared.reader.Part.{Part}
use Rattle.jc_script.specs.declared.reader.Part.TheVariants as parts

-- these bytes have no line feed
abbrev pub NoFeed : List ℕ → Type 0
NoFeed bytes = AllByRecursion (λ b. (b == 10) ≡ false) bytes

-- a fact that holds if a call of a reader gave no bytes, because it didn't succeed
abbrev pub IfNoneMoved : Outcome → Type 0 → Type 0
IfNoneMoved (Moved count) fact = ⊤
IfNoneMoved Interrupted fact = fact
IfNoneMoved (Failed error) fact = fact

-- a chunk from a reader; it is empty only at the reader's end
pub record Fills (unread : List ℕ) (before after : Option (List ℕ)) (some : Bool) : Type 0 where
  pub came : Consumes before after unread
  pub ended : some ≡ false → IsAtEnd after × (unread ≡ [])
  pub there : some ≡ true → 0 < length unread

-- the rest of a line, and the bytes after its line feed
pub record EndsPart (before after : SoFar) : Type 0 where
  pub piece : List ℕ
  pub unread : before.unread ≡ piece ++ 10 ∷ after.unread
  pub feedless : NoFeed piece
  pub line : after.line ≡ before.line ++ piece
  pub short : length after.line ≤ most_in_line

-- all unread bytes belong to the line
pub record GoesOnPart (before after : SoFar) : Type 0 where
  pub unread : after.unread ≡ []
  pub feedless : NoFeed before.unread
  pub line : after.line ≡ before.line ++ before.unread

-- a line has too many bytes: those that were taken belong to it
pub record IsTooLong (before after : SoFar) : Type 0 where
  pub piece : List ℕ
  pub unread : before.unread ≡ piece ++ after.unread
  pub feedless : NoFeed piece
  pub long : most_in_line < length (before.line ++ piece)

abbrev pub TakesPart : SoFar → SoFar → Part → Type 0
TakesPart before after parts.Ended = EndsPart before after
TakesPart before after parts.GoesOn = GoesOnPart before after
TakesPart before after parts.TooLong = IsTooLong before after

-- bytes are a line so far and the bytes left after it
pub record IsSoFar (bytes line left : List ℕ) : Type 0 where
  pub bytes_are : bytes ≡ line ++ left
  pub feedless : NoFeed line

abbrev pub AreSoFar : Option (List ℕ) → List ℕ → Option (List ℕ) → Type 0
AreSoFar (Some bytes) line (Some left) = IsSoFar bytes line left
AreSoFar (Some bytes) line None = ⊥
AreSoFar None line left = ⊤

-- the first line of these bytes is too long: more bytes than a line may have come before those that are left
pub record BeginsLong (bytes rest : List ℕ) : Type 0 where
  pub front : List ℕ
  pub are : bytes ≡ front ++ rest
  pub feedless : NoFeed front
  pub long : most_in_line < length front

abbrev pub ReadsKnown : List ℕ → List ℕ → List ℕ → NextLine → Type 0
ReadsKnown line bytes rest next.Line = (lines_of bytes ≡ line ∷ lines_of rest) × (length line ≤ most_in_line)
ReadsKnown line bytes rest next.End = lines_of bytes ≡ []
ReadsKnown line bytes rest next.Bad = BeginsLong bytes rest

abbrev pub ReadsOn : List ℕ → Option (List ℕ) → Option (List ℕ) → NextLine → Type 0
ReadsOn line (Some bytes) (Some rest) told = ReadsKnown line bytes rest told
ReadsOn line (Some bytes) None told = ⊥
ReadsOn line None after told = ⊤

-- what comes if nothing is left to read
abbrev pub told_last : List ℕ → NextLine
told_last [] = next.End
told_last (b ∷ line) = next.Line

-- whether bytes are left, if they are known; they stay known
abbrev pub TellsKnown : List ℕ → NextLine → Type 0
TellsKnown bytes next.Line = ⊥
TellsKnown bytes next.End = bytes ≡ []
TellsKnown bytes next.Bad = 0 < length bytes

abbrev pub TellsMore : Option (List ℕ) → Option (List ℕ) → NextLine → Type 0
TellsMore (Some bytes) (Some rest) told = TellsKnown bytes told
TellsMore (Some bytes) None told = ⊥
TellsMore None after next.Line = ⊥
TellsMore None after next.End = ⊤
TellsMore None after next.Bad = ⊤

-- ---- the rest of a line that is too long

-- the line ends in what was read, or all of that belongs to it
pub record EndsAmong (before after : List ℕ) : Type 0 where
  pub piece : List ℕ
  pub are : before ≡ piece ++ 10 ∷ after
  pub feedless : NoFeed piece

abbrev pub SkipsPart : List ℕ → List ℕ → Bool → Type 0
SkipsPart before after true = EndsAmong before after
SkipsPart before after false = (after ≡ []) × NoFeed before

-- bytes without a line feed come before those that are left
pub record IsPast (bytes left : List ℕ) : Type 0 where
  pub piece : List ℕ
  pub are : bytes ≡ piece ++ left
  pub feedless : NoFeed piece

abbrev pub ArePast : Option (List ℕ) → Option (List ℕ) → Type 0
ArePast (Some bytes) (Some left) = IsPast bytes left
ArePast (Some bytes) None = ⊥
ArePast None left = ⊤

-- a line feed follows them, or nothing does
pub data IsSkipped (bytes rest : List ℕ) : Type 0 where
  at_feed : EndsAmong bytes rest → IsSkipped bytes rest
  at_end : NoFeed bytes → rest ≡ [] → IsSkipped bytes rest

abbrev pub AreSkipped : Option (List ℕ) → Option (List ℕ) → Type 0
AreSkipped (Some bytes) (Some rest) = IsSkipped bytes rest
AreSkipped (Some bytes) None = ⊥
AreSkipped None rest = ⊤
