-- The simulation theorem for a whole script: the commands that were performed, the answers of the defensive machine to
-- them, the objects that it accessed, and the changes by these accesses (Java Card Runtime Environment Specification,
-- Applet Isolation and Object Sharing).
use Rattle.std.specs.Prelude.{⊤, ◌≡◌, ℕ, true, false, List, [], ◌∷◌, ◌++◌, Option, Some, None, IfSome, map}
use Rattle.jc_api.specs.Bound.{Bound}
use Rattle.jc_card.specs.Accesses.{ChangesBy, IsApartCard, IsGuardedCommand, LeavesObjects, law_of_plain_objects}
use Rattle.jc_card.specs.Card.{CardState, with_steps}
use Rattle.jc_card.specs.Commands.{apdu_command, reset_command}
use Rattle.jc_card.specs.Install.{install_command}
use Rattle.jc_card.specs.Load.{IsLoad}
use Rattle.jc_card.specs.New.{new_card}
use Rattle.jc_machine.specs.Limits.{are_limits}
use Rattle.jc_card.specs.Order.{Leads, Resets, apdu_order, install_order}
use Rattle.jc_machine.specs.declared.limits.Limits.{Limits}
use Rattle.jc_machine.specs.Apart.{IsSetApart}
use Rattle.jc_machine.specs.Machine.{Touch}
use Rattle.jc_machine.specs.Storable.{FieldsHoldStorable}
use Rattle.jc_natives.specs.Apart.{names_applets}
use Rattle.jc_run.specs.Answer.{Answered}
use Rattle.jc_run.specs.CardRun.{IsCardRun}
use Rattle.jc_run.specs.Isolation.{AreIsolated}
use Rattle.jc_run.specs.Loading.{AreSafeLoads, LoadRule, Loading, anything, exactly, loading_by}
use Rattle.jc_run.specs.NeverStuck.{IsNeverStuck}
use Rattle.jc_run.specs.Play.{BadLimits, BadLine, IsAnswered, IsFailing, IsPart, NoMemory, NotRead, NotWritten, Over}
use Rattle.jc_run.specs.Play.{ScriptEnd, SourceFailed, answer_line}
use Rattle.jc_run.specs.EndCauses.{EndCauses}
use Rattle.jc_run.specs.Reports.{AreReported, Report}
use Rattle.jc_script.specs.Script.{Apdu, Cells, Install, Load, Objects, Reset, ScriptCommand, Steps}
use Rattle.jc_script.specs.Whole.{FaultyLine, Numbered, Script, script_commands}

-- ---- the law of its accesses

-- the law of accesses, for a command on a card that leaves another one
abbrev pub IsGuarded : CardState → ScriptCommand → CardState → Type 0
IsGuarded c (Load folder certificate) after = LeavesObjects c.heap after.heap
IsGuarded c (Install applet instance incoming) after =
    IfSome (install_command c applet instance incoming) (IsGuardedCommand (install_order c applet) c)
IsGuarded c (Apdu bytes) after = IfSome (apdu_command c bytes) (IsGuardedCommand (apdu_order c bytes) c)
IsGuarded c Reset after = IfSome (reset_command c) (IsGuardedCommand Resets c)
IsGuarded c Cells after = after ≡ c
IsGuarded c Objects after = after ≡ c
IsGuarded c (Steps steps) after = after ≡ with_steps c steps

-- ---- cards on which only the runtime runs as the runtime

-- no instance is in the runtime's context; and no field, component or static field holds a reference to a temporary
-- entry point or a global array, except static fields to arrays of libraries
pub record IsApart (c : CardState) : Type 0 where
  pub objects : IsSetApart c.heap
  pub statics : FieldsHoldStorable c.heap c.statics
  pub instances : names_applets c.kept ≡ true

-- part by part, a command keeps plain objects. A load has no parts
abbrev pub KeepsPlainObjects : CardState → ScriptCommand → Type 0
KeepsPlainObjects c (Load folder certificate) = ⊤
KeepsPlainObjects c (Install applet instance incoming) =
    IfSome (install_command c applet instance incoming)
    (λ l. Leads law_of_plain_objects (install_order c applet) c l.touches l.card)
KeepsPlainObjects c (Apdu bytes) =
    IfSome (apdu_command c bytes) (λ l. Leads law_of_plain_objects (apdu_order c bytes) c l.touches l.card)
KeepsPlainObjects c Reset = IfSome (reset_command c) (λ l. Leads law_of_plain_objects Resets c l.touches l.card)
KeepsPlainObjects c Cells = ⊤
KeepsPlainObjects c Objects = ⊤
KeepsPlainObjects c (Steps steps) = ⊤

-- ---- all commands

-- for each command on each card, and for each run from each card. From a card that is known to be apart each command
-- keeps plain objects, and each run leaves such a card
pub record AreGuarded (apart : CardState → Type 0) (loading : Loading) : Type 0 where
  pub commands : (c : CardState) (command : ScriptCommand) (answer : Answered) (after : CardState)
      → IsAnswered loading c command answer after → IsGuarded c command after
  pub runs : (commands : List ScriptCommand) (c : CardState) (answers : List Answered) (touches : List Touch)
      (ran : List ℕ) (after : CardState) → IsCardRun loading commands c answers touches ran after
      → ChangesBy touches c.heap after.heap
  pub plain : (c : CardState) → apart c → (command : ScriptCommand) → KeepsPlainObjects c command
  pub stays : (commands : List ScriptCommand) (c : CardState) (answers : List Answered) (touches : List Touch)
      (ran : List ℕ) (after : CardState) → apart c → IsCardRun loading commands c answers touches ran after
      → apart after
  pub known : (c : CardState) → apart c → IsApart c

-- the card that is made for limits and a binding is safe, by a rule of loads and what is known of cards that are apart:
-- each load puts a package on the card as its image says, or changes nothing; each access is one that the firewall
-- allows, or is denied, throws and changes nothing; contexts are isolated, on each card that is apart; the new card is;
-- and no list of commands is stuck there. This holds for every list of commands, whatever is loaded
pub record IsSafeCard (rule : LoadRule) (apart : CardState → Type 0) (limits : Limits) (binding : Bound) : Type 0 where
  pub loads : AreSafeLoads rule
  pub accesses : AreGuarded apart (loading_by rule anything anything)
  pub isolated : AreIsolated apart (loading_by rule anything anything)
  pub begins : apart (new_card limits binding)
  pub never_stuck : IsNeverStuck (loading_by rule anything anything) (new_card limits binding)

-- ---- a script

-- the commands of lines, in order
abbrev pub commands_of : List Numbered → List ScriptCommand
commands_of lines = map (λ n. n.command) lines

-- the lines of answers, one after the other
abbrev pub answer_lines : List Answered → List ℕ
answer_lines [] = []
answer_lines (answer ∷ answers) = answer_line answer ++ answer_lines answers

-- the end of a script, on the card after the commands that were performed: which commands are left, what is written
-- after the answers, and the end. All are performed; or all up to a line that is none, for its fault; a file of the
-- next one, which is a load, can't be read, and the last read that failed was of it; memory runs out for one of its
-- files, and for no other read; the lines can't be read; or the next one's answer can't be written, and a part of it is
pub data EndsWith (loading : Loading) (causes : EndCauses) (c : CardState)
    (bad : Option FaultyLine) : List Numbered → List ℕ → ScriptEnd → Type 0 where
  over : bad ≡ None → EndsWith loading causes c bad [] [] Over
  bad_line : (at : FaultyLine) → bad ≡ Some at
      → EndsWith loading causes c bad [] [] (BadLine at.number at.fault)
  source : (next : Numbered) (left : List Numbered) (folder certificate : List ℕ)
      → next.command ≡ Load folder certificate → IsFailing causes.failed_at folder certificate
      → EndsWith loading causes c bad (next ∷ left) [] (SourceFailed next.number)
  memory : (next : Numbered) (left : List Numbered) (folder certificate : List ℕ)
      → next.command ≡ Load folder certificate → causes.short ≡ 1
      → EndsWith loading causes c bad (next ∷ left) [] NoMemory
  unread : (left : List Numbered) → causes.unread → EndsWith loading causes c bad left [] NotRead
  unwritten : (next : Numbered) (left : List Numbered) (part : List ℕ) (answer : Answered) (after : CardState)
      → causes.unwritten → IsAnswered loading c next.command answer after → IsPart part (answer_line answer)
      → EndsWith loading causes c bad (next ∷ left) part NotWritten

-- a script on a card: its commands are performed in order, up to an end. Their answers are what is written, each answer
-- in a line of its own, and what the teller gets
pub record IsPlayed (loading : Loading) (causes : EndCauses) (told : List Report → Type 0)
    (script : Script) (c : CardState) (written : List ℕ) (end : ScriptEnd) : Type 0 where
  pub done : List Numbered
  pub left : List Numbered
  pub in_order : script.commands ≡ done ++ left
  pub answers : List Answered
  pub touches : List Touch
  pub ran : List ℕ
  pub card : CardState
  pub run : IsCardRun loading (commands_of done) c answers touches ran card
  pub part : List ℕ
  pub lines : written ≡ answer_lines answers ++ part
  pub reports : List Report
  pub reported : AreReported done answers reports
  pub were_told : told reports
  pub ends : EndsWith loading causes card script.bad left part end

-- a script on a new card, which is made first: its limits are bad, or memory runs out for it, and no command is
-- performed, and nothing is told
pub data RunsTo (loading : Loading) (causes : EndCauses) (told : List Report → Type 0)
    (limits : Limits) (binding : Bound) (script : List ℕ) : List ℕ → ScriptEnd → Type 0 where
  unfit : are_limits limits ≡ false → told []
      → RunsTo loading causes told limits binding script [] BadLimits
  no_card : are_limits limits ≡ true → told []
      → RunsTo loading causes told limits binding script [] NoMemory
  played : (written : List ℕ) (end : ScriptEnd) → are_limits limits ≡ true
      → IsPlayed loading causes told (script_commands script) (new_card limits binding) written end
      → RunsTo loading causes told limits binding script written end

-- ---- the theorem

-- safety, whatever the rule by which packages are accepted, and whatever is known of cards that are apart: the
-- responses are those of the defensive machine on a new card, and that card is safe
pub record IsSafe (rule : LoadRule) (apart : CardState → Type 0) (images certificates : List ℕ → List ℕ → Type 0)
    (causes : EndCauses) (told : List Report → Type 0) (limits : Limits) (binding : Bound)
    (script written : List ℕ) (end : ScriptEnd) : Type 0 where
  pub responses : RunsTo (loading_by rule images certificates) causes told limits binding script written end
  pub card : IsSafeCard rule apart limits binding

-- exactness: packages are accepted, and refused with a fault, exactly as jc_card Load says
pub record IsExact (images certificates : List ℕ → List ℕ → Type 0) (causes : EndCauses) (told : List Report → Type 0)
    (limits : Limits) (binding : Bound) (script written : List ℕ) (end : ScriptEnd) : Type 0 where
  pub responses : RunsTo (exactly images certificates) causes told limits binding script written end

-- both. Who wants safety alone reads IsSafe, and needs neither IsLoad nor IsApartCard: it says all of them that counts
pub record IsSimulated (images certificates : List ℕ → List ℕ → Type 0) (causes : EndCauses)
    (told : List Report → Type 0) (limits : Limits) (binding : Bound) (script written : List ℕ) (end : ScriptEnd)
    : Type 0 where
  pub safe : IsSafe IsLoad IsApartCard images certificates causes told limits binding script written end
  pub exact : IsExact images certificates causes told limits binding script written end
