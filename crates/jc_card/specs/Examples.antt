-- A card for examples, with a small package. Its applet registers when it is installed, and answers each command with
-- no data and the normal status.
use Rattle.std.specs.Prelude.{ℕ, List, [], ◌∷◌, Option, None, map}
use Rattle.std.specs.Option.{option_and_then, option_map}
use Rattle.jc_api.specs.Bound.{default_binding}
use Rattle.jc_machine.specs.Machine.{Touch}
use Rattle.jc_machine.specs.TypedExamples.{applet_world}
use Rattle.jc_card.specs.Card.{CardState}
use Rattle.jc_card.specs.Commands.{Response, apdu_command, reset_command}
use Rattle.jc_card.specs.Install.{Installed, install_command}
use Rattle.jc_card.specs.New.{new_card}
use Rattle.jc_card.specs.Parts.{Left}
use Rattle.jc_machine.specs.declared.limits.Limits.{Limits}
use Rattle.jc_store.specs.Heap.{Object}
use Rattle.jc_store.specs.declared.kind.Mark.TheVariants.{Plain}
use Rattle.jc_store.specs.declared.kind.ObjectType.TheVariants.{ShortArray}
use Rattle.jc_words.specs.Values.{TaggedValue, Word}

-- ---- the card

abbrev pub small_limits : Limits
small_limits =
    record { objects = 50; cells = 1000; frames = 4; frame_words = 50; steps = 20 }

-- the package has no static fields
abbrev pub loaded_card : CardState
loaded_card = record (new_card small_limits default_binding) { world = applet_world; statics = [] ∷ [] }

-- ---- commands

-- the AID of the package's applet, and another one
abbrev pub applet_aid : List ℕ
applet_aid = 0xF0 ∷ 1 ∷ 2 ∷ 3 ∷ 4 ∷ 1 ∷ []

abbrev pub other_aid : List ℕ
other_aid = 0xF0 ∷ 1 ∷ 2 ∷ 3 ∷ 4 ∷ 2 ∷ []

-- SELECT by name of an AID of six bytes
abbrev pub select_of : List ℕ → List ℕ
select_of aid = 0x00 ∷ 0xA4 ∷ 0x04 ∷ 0x00 ∷ 6 ∷ aid

-- a command of a header alone
abbrev pub header_alone : List ℕ
header_alone = 0x80 ∷ 0x01 ∷ 0x00 ∷ 0x00 ∷ []

-- ---- objects

-- an array of shorts of an owner, with one component
abbrev pub held_by : ℕ → ℕ → ℕ → Object TaggedValue
held_by context instance word = record {
  kind = record { object_type = ShortArray; mark = Plain; clears = None };
  owner = record { context = context; instance = instance };
  cells = Word word ∷ [];
}

-- ---- the results that are shown

abbrev pub card_of : {A : Type 0} → Option (Left A) → Option CardState
card_of done = option_map (λ l. l.card) done

abbrev pub said_by : {A : Type 0} → Option (Left A) → Option A
said_by done = option_map (λ l. l.value) done

-- the objects that were accessed, in the order of the accesses
abbrev pub objects_accessed : {A : Type 0} → Option (Left A) → Option (List ℕ)
objects_accessed done = option_map (λ l. map (λ (t : Touch). t.object) l.touches) done

-- an instance is installed; then it is selected
unfoldable pub install_on : CardState → List ℕ → List ℕ → Option (Left Installed)
install_on c applet instance = install_command c applet instance []

unfoldable pub send_to : CardState → List ℕ → Option (Left Response)
send_to c bytes = apdu_command c bytes

abbrev pub installed_card : Option CardState
installed_card = card_of (install_on loaded_card applet_aid applet_aid)

abbrev pub selected_card : Option CardState
selected_card = option_and_then (λ c. card_of (send_to c (select_of applet_aid))) installed_card

-- the answer of the card to a command
abbrev pub answer_on : Option CardState → List ℕ → Option Response
answer_on card bytes = option_and_then (λ c. said_by (send_to c bytes)) card

abbrev pub reset_card : Option CardState
reset_card = option_and_then (λ c. card_of (reset_command c)) selected_card
