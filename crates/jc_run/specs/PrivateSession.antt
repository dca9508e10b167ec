-- Private. The parts of a session.
use Rattle.std.specs.Prelude.{◌≡◌, ℕ, suc, Bool, true, false, List, [], ◌∷◌, ◌++◌, Option, Some}
use Rattle.jc_card.specs.Card.{CardState}
use Rattle.jc_card.specs.Reads.{CardWords, Holds}
use Rattle.jc_run.specs.Answer.{Answered}
use Rattle.jc_run.specs.Play.{BadLimits, BadLine, IsAnswered, IsPart, NoMemory, NotRead, NotWritten, Over, ScriptEnd}
use Rattle.jc_run.specs.Play.{SourceFailed, answer_line}
use Rattle.jc_run.specs.PrivatePlay.{IsLinePlayed}
use Rattle.jc_run.specs.EndCauses.{SessionCauses}
use Rattle.jc_run.specs.Loading.{exactly}
use Rattle.jc_run.specs.Reports.{AreTold, RefusedLine, Report}
use Rattle.jc_run.specs.Session.{AreCounted, FaultCount, session_fault}
use Rattle.jc_run.specs.declared.refusal.LineRefusal.TheVariants as refusals
use Rattle.jc_script.specs.Script.{Asks, Bad, Load, ScriptCommand, ScriptLine, lines_of, session_line}
use Rattle.jc_script.specs.declared.fault.LineFault.{LineFault}
use Rattle.jc_source.specs.declared.source.SourceFault.{SourceFault}

-- a line is played, or refused: then it is none, for this fault, or a load. A refused line writes nothing and changes
-- nothing
pub data IsDoneOrRefused (images certificates : List ℕ → List ℕ → Type 0) (c : CardState) (number : ℕ)
    (fault : LineFault) (said : ScriptLine) : List Report → List ℕ → CardState → Type 0 where
  played : (reports : List Report) (written : List ℕ) (after : CardState)
      → IsLinePlayed images certificates c number said reports written after
      → IsDoneOrRefused images certificates c number fault said reports written after
  left_out : said ≡ Bad
      → IsDoneOrRefused images certificates c number fault said (RefusedLine number (refusals.Bad fault) ∷ []) [] c
  not_loaded : (folder certificate : List ℕ) (why : SourceFault) → said ≡ Asks (Load folder certificate)
      → IsDoneOrRefused images certificates c number fault said (RefusedLine number (refusals.Unread why) ∷ []) [] c

-- the result of lines, of which the first has a number: what is told, the bytes that are written, and the end. The
-- lines are played in order, each on the card that the one before it left
pub data Converses (images certificates : List ℕ → List ℕ → Type 0) (causes : SessionCauses)
    : ℕ → List (List ℕ) → CardState → List Report → List ℕ → ScriptEnd → Type 0 where
  over : (number : ℕ) (c : CardState) → Converses images certificates causes number [] c [] [] Over
  line : (number : ℕ) (first : List ℕ) (lines : List (List ℕ)) (c after : CardState) (reports more : List Report)
      (written behind : List ℕ) (end : ScriptEnd)
      → IsDoneOrRefused images certificates c number (session_fault first) (session_line first) reports written after
      → Converses images certificates causes (suc number) lines after more behind end
      → Converses images certificates causes number (first ∷ lines) c (reports ++ more) (written ++ behind) end
  unwritten : (number : ℕ) (first : List ℕ) (lines : List (List ℕ)) (c after : CardState) (command : ScriptCommand)
      (written : List ℕ) (answer : Answered) → causes.unwritten → session_line first ≡ Asks command
      → IsAnswered (exactly images certificates) c command answer after → IsPart written (answer_line answer)
      → Converses images certificates causes number (first ∷ lines) c [] written NotWritten
  unread : (number : ℕ) (lines : List (List ℕ)) (c : CardState) → causes.unread number
      → Converses images certificates causes number lines c [] [] NotRead

-- what was told, what was appended to the output, and the end, are the result of these lines; the first has a number.
-- The source counted the faults for which loads were refused
pub record ConversesFrom (images certificates : List ℕ → List ℕ → Type 0) (causes : SessionCauses)
    (faults : FaultCount) (told : List Report → Type 0) (number : ℕ) (bytes : List ℕ) (c : CardState)
    (before : List ℕ) (now : Option (List ℕ)) (end : ScriptEnd) : Type 0 where
  pub reports : List Report
  pub counted : AreCounted faults reports
  pub were_told : told reports
  pub written : List ℕ
  pub converses : Converses images certificates causes number (lines_of bytes) c reports written end
  pub now_is : now ≡ Some (before ++ written)

-- a line is played or refused, and the source counted the faults for which it was
pub record IsLineHeld (images certificates : List ℕ → List ℕ → Type 0) (faults : FaultCount)
    (told : List Report → Type 0) (c : CardState) (number : ℕ) (fault : LineFault) (said : ScriptLine)
    (after : CardWords) (before : List ℕ) (now : Option (List ℕ)) : Type 0 where
  pub reports : List Report
  pub counted : AreCounted faults reports
  pub were_told : told reports
  pub card : CardState
  pub written : List ℕ
  pub done : IsDoneOrRefused images certificates c number fault said reports written card
  pub holds : Holds after card
  pub now_is : now ≡ Some (before ++ written)

-- an answer can't be written, for this reason: a part of its line may be
pub record IsLineUnwritten (images certificates : List ℕ → List ℕ → Type 0) (unwritable : Type 0) (c : CardState)
    (said : ScriptLine) (before : List ℕ) (now : Option (List ℕ)) : Type 0 where
  pub why : unwritable
  pub written : List ℕ
  pub command : ScriptCommand
  pub is : said ≡ Asks command
  pub answer : Answered
  pub card : CardState
  pub answered : IsAnswered (exactly images certificates) c command answer card
  pub part : IsPart written (answer_line answer)
  pub now_is : now ≡ Some (before ++ written)

-- no line ends a session otherwise
abbrev pub EndsLine : (images certificates : List ℕ → List ℕ → Type 0) → (unwritable : Type 0) → CardState
    → ScriptLine → List ℕ → Option (List ℕ) → ScriptEnd → Type 0
EndsLine images certificates unwritable c said before now Over = ⊥
EndsLine images certificates unwritable c said before now (BadLine number fault) = ⊥
EndsLine images certificates unwritable c said before now (SourceFailed number) = ⊥
EndsLine images certificates unwritable c said before now NotRead = ⊥
EndsLine images certificates unwritable c said before now NotWritten =
    IsLineUnwritten images certificates unwritable c said before now
EndsLine images certificates unwritable c said before now NoMemory = ⊥
EndsLine images certificates unwritable c said before now BadLimits = ⊥

-- a line was read and played
pub record IsSessionTurn (images certificates : List ℕ → List ℕ → Type 0) (faults : FaultCount)
    (told : List Report → Type 0) (number : ℕ) (bytes : List ℕ) (c : CardState) (after : CardWords)
    (left : Option (List ℕ)) (before : List ℕ) (now : Option (List ℕ)) : Type 0 where
  pub first : List ℕ
  pub rest : List ℕ
  pub left_is : left ≡ Some rest
  pub lines : lines_of bytes ≡ first ∷ lines_of rest
  pub done : IsLineHeld images certificates faults told c number (session_fault first) (session_line first) after
      before now

abbrev pub SessionTurns : (images certificates : List ℕ → List ℕ → Type 0) → SessionCauses → FaultCount
    → (told : List Report → Type 0) → ℕ → List ℕ → CardState → CardWords → Option (List ℕ) → List ℕ
    → Option (List ℕ) → Bool → Type 0
SessionTurns images certificates causes faults told number bytes c after left before now true =
    IsSessionTurn images certificates faults told number bytes c after left before now
SessionTurns images certificates causes faults told number bytes c after left before now false =
    ConversesFrom images certificates causes faults told number bytes c before now Over

-- lines are played: if the lines that are left have a result, all lines have that result after what is told and
-- written, whatever the source, the reader and the writer are at the end
pub record HasConversed {S U V T : Type 0} (images certificates : List ℕ → List ℕ → Type 0)
    (causes : S → U → V → SessionCauses) (faults : FaultCount) (tells : T → Report → T → Type 0) (first : T)
    (c : CardState) (input before : List ℕ) (number : ℕ) (after : CardWords) (teller : T)
    (left now : Option (List ℕ)) : Type 0 where
  pub reports : List Report
  pub counted : AreCounted faults reports
  pub were_told : AreTold tells first teller reports
  pub card : CardState
  pub holds : Holds after card
  pub rest : List ℕ
  pub left_is : left ≡ Some rest
  pub written : List ℕ
  pub now_is : now ≡ Some (before ++ written)
  pub leads : (s : S) (u : U) (v : V) (more : List Report) (behind : List ℕ) (end : ScriptEnd)
      → Converses images certificates (causes s u v) number (lines_of rest) card more behind end
      → Converses images certificates (causes s u v) 1 (lines_of input) c (reports ++ more) (written ++ behind) end
