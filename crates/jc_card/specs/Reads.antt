-- When a card on words represents a card of the defensive machine without its tags, and the effects of its commands.
use Rattle.std.specs.Prelude.{⊤, ◌≡◌, ℕ, true, List, [], Option, Some, None, Result, Ok, Err}
use Rattle.std.specs.Option.{option_map_or}
use Rattle.jc_base.specs.declared.fault.LoadFault.{LoadFault}
use Rattle.jc_interp.specs.Agree.{AgreeBeside}
use Rattle.jc_interp.specs.declared.ends.RunEnd.{RunEnd}
use Rattle.jc_interp.specs.declared.ends.RunEnd.TheVariants.{Gave, RanOut, Threw}
use Rattle.jc_interp.specs.declared.machine.WordMachine.{WordMachine}
use Rattle.jc_link.specs.Linked.{World}
use Rattle.jc_program.specs.Program.{IsProgramOf}
use Rattle.jc_program.specs.declared.program.Program.{Program}
use Rattle.jc_machine.specs.Reading.{ReadsResult}
use Rattle.jc_names.specs.declared.owner.Owner.{Owner}
use Rattle.jc_natives.specs.Kept.{Kept}
use Rattle.jc_words.specs.Values.{TaggedValue, is_written}
use Rattle.jc_card.specs.Card.{CardState, around, at_rest}
use Rattle.jc_card.specs.Commands.{Response}
use Rattle.jc_card.specs.Load.{IsLoad}
use Rattle.jc_card.specs.Install.{HasNumber, Installed, Refused}
use Rattle.jc_card.specs.Parts.{Ended, Left, Normally, OutOfBudget, Uncaught}
use Rattle.jc_card.specs.Typed.{IsTypedCard}
use Rattle.jc_card.specs.declared.answer.Answer.{Answer}
use Rattle.jc_card.specs.declared.fault.InstallFault.{InstallFault}

-- a card on words
pub record CardWords : Type 0 where
  pub world : World
  pub program : Program
  pub machine : WordMachine
  pub kept : Kept
  pub selected : Option Owner
  pub most_objects : ℕ
  pub most_cells : ℕ
  pub steps : ℕ

-- ---- agreement

-- the words represent a typed card, with the world's own tables; and no frame lives
pub record Holds (k : CardWords) (c : CardState) : Type 0 where
  pub typed : IsTypedCard c
  pub world : k.world ≡ c.world
  pub program : IsProgramOf k.world k.program
  pub beside : AgreeBeside (around c None) k.program k.machine k.kept (at_rest c)
  pub frames : k.machine.frames.frames ≡ []
  pub selected : k.selected ≡ c.selected
  pub most_objects : k.most_objects ≡ c.limits.objects
  pub most_cells : k.most_cells ≡ c.limits.cells
  pub steps : k.steps ≡ c.steps

-- the invariant of a card on words: it represents a card of the defensive machine
pub record IsCard (k : CardWords) : Type 0 where
  pub card : CardState
  pub holds : Holds k card

-- ---- what a command does

-- it represents the card after the command on the defensive machine's card, which isn't stuck, and its answer is that
-- command's
abbrev pub IsDone : {A : Type 0} → CardWords → (A → Type 0) → Option (Left A) → Type 0
IsDone after reads None = ⊥
IsDone after reads (Some l) = Holds after l.card × reads l.value

-- for each card of the defensive machine that the words represent
abbrev pub Does : {A : Type 0} → CardWords → CardWords → (A → Type 0) → (CardState → Option (Left A)) → Type 0
Does before after reads command = (c : CardState) → Holds before c → IsDone after reads (command c)

-- ---- results

-- the end of a call on words. A value that it returned was written
pub record GaveSo (word : Option ℕ) (value : Option TaggedValue) : Type 0 where
  pub reads : ReadsResult word value
  pub written : option_map_or is_written value true ≡ true

abbrev pub ReadsEnded : RunEnd → Ended → Type 0
ReadsEnded (Gave word) (Normally value) = GaveSo word value
ReadsEnded (Threw object point found) (Uncaught number at denied) =
    (object ≡ number) × (point ≡ at) × (found ≡ denied)
ReadsEnded (RanOut budget point) (OutOfBudget spent at) = (budget ≡ spent) × (point ≡ at)
ReadsEnded (Gave word) (Uncaught number at denied) = ⊥
ReadsEnded (Gave word) (OutOfBudget spent at) = ⊥
ReadsEnded (Threw object point found) (Normally value) = ⊥
ReadsEnded (Threw object point found) (OutOfBudget spent at) = ⊥
ReadsEnded (RanOut budget point) (Normally value) = ⊥
ReadsEnded (RanOut budget point) (Uncaught number at denied) = ⊥

-- no result
abbrev pub GivesNothing : Unit {0} → Type 0
GivesNothing u = ⊤

-- an answer's data and status, and why its call didn't end normally
pub record ReadsResponse (answer : Answer) (response : Response) : Type 0 where
  pub sent : answer.sent.items ≡ response.sent
  pub status : answer.status ≡ response.status
  pub cause : answer.cause ≡ response.cause

-- ---- loading

-- a load leaves a card that represents the card after the load on the defensive machine's card, with the same result:
-- for each card of the defensive machine that the words represent
pub record LoadsFrom (c : CardState) (after : CardWords) (image certificate : List ℕ) (result : Result ℕ LoadFault)
    : Type 0 where
  pub card : CardState
  pub load : IsLoad c image certificate result card
  pub holds : Holds after card

abbrev pub Loads : CardWords → CardWords → List ℕ → List ℕ → Result ℕ LoadFault → Type 0
Loads before after image certificate result =
    (c : CardState) → Holds before c → LoadsFrom c after image certificate result

-- the result of an installation: the instance's number, or the refusal
abbrev pub ReadsInstalled : Result ℕ InstallFault → Installed → Type 0
ReadsInstalled (Ok number) (HasNumber taken) = number ≡ taken
ReadsInstalled (Ok number) (Refused fault) = ⊥
ReadsInstalled (Err why) (HasNumber taken) = ⊥
ReadsInstalled (Err why) (Refused fault) = why ≡ fault
