-- Parts of commands, one behind the other.
use Rattle.std.proofs.Common.{ℕ, List, Option, arith}
use Rattle.std.specs.Option.{option_map}
use Rattle.jc_machine.specs.Machine.{Touch}
use Rattle.jc_card.specs.Card.{CardState}
use Rattle.jc_card.specs.Parts.{Left, and_then, behind}
use Rattle.jc_card.specs.Reads.{CardWords, Holds, IsCard, IsDone}

-- what a part leaves is a card
pub left_card : {A : Type 0} (after : CardWords) (reads : A → Type 0) (o : Option (Left A)) → IsDone after reads o
    → IsCard after
left_card after reads o h1 = grind arith

behind_done : {A : Type 0} (after : CardWords) (reads : A → Type 0) (touches : List Touch) (ran : List ℕ)
    (o : Option (Left A)) → IsDone after reads o → IsDone after reads (option_map (behind touches ran) o)
behind_done after reads touches ran o h1 = grind arith

-- a part, and then the next
pub then_done : {A B : Type 0} (between after : CardWords) (reads : A → Type 0) (reads_next : B → Type 0)
    (o : Option (Left A)) (next : CardState → A → Option (Left B)) → IsDone between reads o
    → ((c : CardState) (value : A) → Holds between c → reads value → IsDone after reads_next (next c value))
    → IsDone after reads_next (and_then o next)
then_done between after reads reads_next o next h1 h2 = grind (arith, behind_done)
