-- When a card of the defensive machine is typed, and a command on it isn't stuck.
use Rattle.std.specs.Prelude.{◌<◌, Option, Some, None}
use Rattle.jc_machine.specs.Accepted.{IsAccepted}
use Rattle.jc_machine.specs.Typed.{IsTypedBeside}
use Rattle.jc_card.specs.Card.{CardState, around, at_rest}
use Rattle.jc_card.specs.Parts.{Left}

-- its packages were accepted; its contents are typed, and the runtime's state fits them; and its limit of cells fits a
-- word
pub record IsTypedCard (c : CardState) : Type 0 where
  pub accepted : IsAccepted c.world
  pub beside : IsTypedBeside (around c None) (at_rest c)
  pub cells : c.limits.cells < 65536

-- a part of a command, or a whole one: it isn't stuck, and leaves such a card
abbrev pub GivesTyped : {A : Type 0} → Option (Left A) → Type 0
GivesTyped None = ⊥
GivesTyped (Some l) = IsTypedCard l.card
