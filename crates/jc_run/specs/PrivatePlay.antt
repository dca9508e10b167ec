-- Private. The parts of playing a script.
use Rattle.std.specs.Prelude.{⊤, ◌≡◌, ℕ, suc, Bool, true, false, List, [], ◌∷◌, ◌++◌, Option, Some, None, Result}
use Rattle.jc_base.specs.declared.fault.LoadFault.{LoadFault}
use Rattle.jc_card.specs.Card.{CardState}
use Rattle.jc_card.specs.Load.{IsLoad}
use Rattle.jc_card.specs.Reads.{CardWords, Holds}
use Rattle.jc_source.specs.Source.{Asked}
use Rattle.jc_interp.specs.declared.shown.ShownFrame.{ShownFrame}
use Rattle.jc_run.specs.Answer.{Answered}
use Rattle.jc_run.specs.Play.{BadLimits, BadLine, IsAnswered, IsFailing, IsPart, NoMemory, NotRead, NotWritten, Over}
use Rattle.jc_run.specs.Play.{ScriptEnd, SourceFailed, answer_line, load_answer}
use Rattle.jc_run.specs.EndCauses.{EndCauses}
use Rattle.jc_run.specs.Loading.{exactly}
use Rattle.jc_run.specs.Reports.{AnsweredLine, AreTold, Report}
use Rattle.jc_script.specs.Reading.{BeginsBad, TakesLine, most_calls}
use Rattle.jc_script.specs.Script.{Asks, Bad, Load, ScriptCommand, ScriptLine, Skipped, line_at, lines_of}
use Rattle.jc_script.specs.Whole.{bad_fault, unread_fault}
use Rattle.jc_script.specs.declared.fault.LineFault.{LineFault}

-- ---- lines

-- a command is performed, the line of its answer is written, and the teller gets the answer
pub record IsCommandPlayed (images certificates : List ℕ → List ℕ → Type 0) (c : CardState) (number : ℕ)
    (command : ScriptCommand) (reports : List Report) (written : List ℕ) (after : CardState) : Type 0 where
  pub answer : Answered
  pub answered : IsAnswered (exactly images certificates) c command answer after
  pub written_is : written ≡ answer_line answer
  pub stopped : Option ShownFrame
  pub reports_are : reports ≡ AnsweredLine number answer stopped ∷ []

-- what is told and written for a line with a number, and the card after it. A skipped line changes nothing
abbrev pub IsLinePlayed : (images certificates : List ℕ → List ℕ → Type 0) → CardState → ℕ → ScriptLine → List Report
    → List ℕ → CardState → Type 0
IsLinePlayed images certificates c number Skipped reports written after =
    (reports ≡ []) × (written ≡ []) × (after ≡ c)
IsLinePlayed images certificates c number (Asks command) reports written after =
    IsCommandPlayed images certificates c number command reports written after
IsLinePlayed images certificates c number Bad reports written after = ⊥

-- what is written for a line that ends the script, and the end; if the line is no command it has this fault, and if its
-- answer can't be written, this is why
pub data EndsAt (images certificates : List ℕ → List ℕ → Type 0) (failed_at : Asked → Type 0) (short : ℕ)
    (unwritable : Type 0) (c : CardState) (number : ℕ) (told : LineFault) : ScriptLine → List ℕ → ScriptEnd → Type 0
  where
    bad : EndsAt images certificates failed_at short unwritable c number told Bad [] (BadLine number told)
    source : (folder certificate : List ℕ) → IsFailing failed_at folder certificate
        → EndsAt images certificates failed_at short unwritable c number told (Asks (Load folder certificate)) []
        (SourceFailed number)
    memory : (folder certificate : List ℕ) → short ≡ 1
        → EndsAt images certificates failed_at short unwritable c number told (Asks (Load folder certificate)) []
        NoMemory
    unwritten : (command : ScriptCommand) (written : List ℕ) (answer : Answered) (after : CardState) → unwritable
        → IsAnswered (exactly images certificates) c command answer after → IsPart written (answer_line answer)
        → EndsAt images certificates failed_at short unwritable c number told (Asks command) written NotWritten

-- the result of lines, of which the first has a number: what is told, the bytes that are written, and the end. The
-- lines are played in order, each on the card that the one before it left
pub data Plays (images certificates : List ℕ → List ℕ → Type 0) (causes : EndCauses)
    : ℕ → List (List ℕ) → CardState → List Report → List ℕ → ScriptEnd → Type 0 where
  over : (number : ℕ) (c : CardState) → Plays images certificates causes number [] c [] [] Over
  line : (number : ℕ) (first : List ℕ) (lines : List (List ℕ)) (c after : CardState) (reports more : List Report)
      (written behind : List ℕ) (end : ScriptEnd)
      → IsLinePlayed images certificates c number (line_at number first) reports written after
      → Plays images certificates causes (suc number) lines after more behind end
      → Plays images certificates causes number (first ∷ lines) c (reports ++ more) (written ++ behind) end
  ended : (number : ℕ) (first : List ℕ) (lines : List (List ℕ)) (c : CardState) (written : List ℕ) (end : ScriptEnd)
      → EndsAt images certificates causes.failed_at causes.short causes.unwritten c number (bad_fault number first)
      (line_at number first) written end
      → Plays images certificates causes number (first ∷ lines) c [] written end
  unread : (number : ℕ) (lines : List (List ℕ)) (c : CardState) → causes.unread
      → Plays images certificates causes number lines c [] [] NotRead

-- what was told, what was appended to the output, and the end, are the result of these lines; the first has a number
pub record PlaysFrom (images certificates : List ℕ → List ℕ → Type 0) (causes : EndCauses)
    (told : List Report → Type 0) (number : ℕ) (bytes : List ℕ) (c : CardState) (before : List ℕ)
    (now : Option (List ℕ)) (end : ScriptEnd) : Type 0 where
  pub reports : List Report
  pub were_told : told reports
  pub written : List ℕ
  pub plays : Plays images certificates causes number (lines_of bytes) c reports written end
  pub now_is : now ≡ Some (before ++ written)

-- ---- parts

-- known bytes grow by a first part of some bytes
pub record GrowsByPart (before after whole : List ℕ) : Type 0 where
  pub bytes : List ℕ
  pub part : IsPart bytes whole
  pub after_is : after ≡ before ++ bytes

abbrev pub AppendsPart : Option (List ℕ) → Option (List ℕ) → List ℕ → Type 0
AppendsPart None after whole = ⊤
AppendsPart (Some before) None whole = ⊥
AppendsPart (Some before) (Some after) whole = GrowsByPart before after whole

-- a load leaves a card that represents the card after the load on the defensive machine's card, with the same answer
pub record LoadsAs (c : CardState) (image certificate : List ℕ) (answer : Answered) (after : CardWords) : Type 0 where
  pub card : CardState
  pub result : Result ℕ LoadFault
  pub load : IsLoad c image certificate result card
  pub answer_is : answer ≡ load_answer result
  pub holds : Holds after card

-- a line is played
pub record IsLineDone (images certificates : List ℕ → List ℕ → Type 0) (told : List Report → Type 0) (c : CardState)
    (number : ℕ) (said : ScriptLine) (after : CardWords) (before : List ℕ) (now : Option (List ℕ)) : Type 0 where
  pub reports : List Report
  pub were_told : told reports
  pub card : CardState
  pub written : List ℕ
  pub played : IsLinePlayed images certificates c number said reports written card
  pub holds : Holds after card
  pub now_is : now ≡ Some (before ++ written)

-- a line ends the script
pub record IsLineEnd (images certificates : List ℕ → List ℕ → Type 0) (failed_at : Asked → Type 0) (short : ℕ)
    (unwritable : Type 0) (c : CardState) (number : ℕ) (told : LineFault) (said : ScriptLine)
    (before : List ℕ) (now : Option (List ℕ)) (end : ScriptEnd) : Type 0 where
  pub written : List ℕ
  pub ends : EndsAt images certificates failed_at short unwritable c number told said written end
  pub now_is : now ≡ Some (before ++ written)

-- a read: a line was taken off, or none is left
pub record IsTaken (number : ℕ) (line bytes : List ℕ) (left : Option (List ℕ)) : Type 0 where
  pub rest : List ℕ
  pub left_is : left ≡ Some rest
  pub takes : TakesLine number line bytes rest

abbrev pub IsRead : ℕ → List ℕ → List ℕ → Option (List ℕ) → Bool → Type 0
IsRead number taken bytes left true = IsTaken number taken bytes left
IsRead number taken bytes left false = lines_of bytes ≡ []

-- why lines can't be read, from how many calls of their reader had failed, and how often it was called for them
pub data IsUnreadSoFar (faults faults_after calls : ℕ) : Type 0 where
  failed : faults_after ≡ suc faults → IsUnreadSoFar faults faults_after calls
  called : calls ≡ most_calls → IsUnreadSoFar faults faults_after calls

-- no line is read: the first line is bad, or the reader can't be read
abbrev pub IsUnread : (why : Type 0) → ℕ → List ℕ → ScriptEnd → Type 0
IsUnread why number bytes Over = ⊥
IsUnread why number bytes (BadLine told fault) =
    (told ≡ number) × (fault ≡ unread_fault number) × BeginsBad number (lines_of bytes)
IsUnread why number bytes (SourceFailed told) = ⊥
IsUnread why number bytes NotRead = why
IsUnread why number bytes NotWritten = ⊥
IsUnread why number bytes NoMemory = ⊥
IsUnread why number bytes BadLimits = ⊥

-- no line is left; or no line is read, as above
abbrev pub IsEnd : (why : Type 0) → ℕ → List ℕ → ScriptEnd → Type 0
IsEnd why number bytes Over = lines_of bytes ≡ []
IsEnd why number bytes (BadLine told fault) =
    (told ≡ number) × (fault ≡ unread_fault number) × BeginsBad number (lines_of bytes)
IsEnd why number bytes (SourceFailed told) = ⊥
IsEnd why number bytes NotRead = why
IsEnd why number bytes NotWritten = ⊥
IsEnd why number bytes NoMemory = ⊥
IsEnd why number bytes BadLimits = ⊥

-- a line was read and played
pub record IsTurn (images certificates : List ℕ → List ℕ → Type 0) (told : List Report → Type 0) (number : ℕ)
    (bytes : List ℕ) (c : CardState) (after : CardWords) (left : Option (List ℕ)) (before : List ℕ)
    (now : Option (List ℕ)) : Type 0 where
  pub first : List ℕ
  pub rest : List ℕ
  pub left_is : left ≡ Some rest
  pub lines : lines_of bytes ≡ first ∷ lines_of rest
  pub done : IsLineDone images certificates told c number (line_at number first) after before now

abbrev pub Turns : (images certificates : List ℕ → List ℕ → Type 0) → (causes : EndCauses)
    → (told : List Report → Type 0) → ℕ → List ℕ → CardState → CardWords → Option (List ℕ) → List ℕ
    → Option (List ℕ) → Bool → Type 0
Turns images certificates causes told number bytes c after left before now true =
    IsTurn images certificates told number bytes c after left before now
Turns images certificates causes told number bytes c after left before now false =
    PlaysFrom images certificates causes told number bytes c before now Over

-- lines are played: if the lines that are left have a result, all lines have that result after what is told and
-- written, whatever the source, the reader and the writer are at the end
pub record HasPlayed {S U V T : Type 0} (images certificates : List ℕ → List ℕ → Type 0)
    (causes : S → U → V → EndCauses)
    (tells : T → Report → T → Type 0) (first : T) (c : CardState) (script before : List ℕ) (number : ℕ)
    (after : CardWords) (teller : T) (left now : Option (List ℕ)) : Type 0 where
  pub card : CardState
  pub holds : Holds after card
  pub rest : List ℕ
  pub left_is : left ≡ Some rest
  pub reports : List Report
  pub were_told : AreTold tells first teller reports
  pub written : List ℕ
  pub now_is : now ≡ Some (before ++ written)
  pub leads : (s : S) (u : U) (v : V) (more : List Report) (behind : List ℕ) (end : ScriptEnd)
      → Plays images certificates (causes s u v) number (lines_of rest) card more behind end
      → Plays images certificates (causes s u v) 1 (lines_of script) c (reports ++ more) (written ++ behind) end
