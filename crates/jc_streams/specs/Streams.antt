-- What calls of a reader or a writer come to: bytes that are read or written, an interruption or a failure.
use Rattle.std.specs.Prelude.{⊤, ◌≡◌, ℕ, ◌<◌, List, length, take, Option}
use Rattle.std.specs.Io.KnownBytes.{Appends, Consumes, IsAtEnd, Keeps}
use Rattle.jc_streams.specs.declared.outcome.Outcome.{Outcome}
use Rattle.jc_streams.specs.declared.outcome.Outcome.TheVariants.{Moved, Interrupted, Failed}

-- how many calls failed, of one: an interrupted call didn't fail
abbrev pub faults_in : Outcome → ℕ
faults_in (Moved count) = 0
faults_in Interrupted = 0
faults_in (Failed error) = 1

-- a fact of the number of bytes that were read or written
abbrev pub IfMoved : Outcome → (ℕ → Type 0) → Type 0
IfMoved (Moved count) holds = holds count
IfMoved Interrupted holds = ⊤
IfMoved (Failed error) holds = ⊤

-- the bytes that came, at the front of the buffer, are the first of those that were left, if these are known: none
-- came only at the end, or if the buffer has no room; if the call didn't succeed, all of them are still left
abbrev pub Reads : Option (List ℕ) → Option (List ℕ) → Outcome → List ℕ → Type 0
Reads before after (Moved count) buffer =
    Consumes before after (take count buffer) × (count ≡ 0 → 0 < length buffer → IsAtEnd after)
Reads before after Interrupted buffer = Keeps before after
Reads before after (Failed error) buffer = Keeps before after

-- the first of some bytes were appended to those that were written, if these are known; if the call didn't succeed,
-- none were
abbrev pub Writes : Option (List ℕ) → Option (List ℕ) → Outcome → List ℕ → Type 0
Writes before after (Moved count) bytes = Appends before after (take count bytes)
Writes before after Interrupted bytes = Keeps before after
Writes before after (Failed error) bytes = Keeps before after

-- bytes in memory that aren't read yet, and how often they were read so far
pub record BytesLeft : Type 0 where
  pub unread : List ℕ
  pub calls : ℕ
