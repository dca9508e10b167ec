-- The applet that is selected, and another one that is.
use Rattle.std.proofs.Common.{◌≡◌, ℕ, true, Option, Some, IfSome, arith}
use Rattle.jc_names.specs.declared.owner.Owner.{Owner}
use Rattle.jc_natives.specs.Kept.{instance_of}
use Rattle.jc_natives.specs.Meaning.{fits_instance}
use Rattle.jc_natives.specs.declared.kept.Instance.{Instance}
use Rattle.jc_card.proofs.TypedCards.{instance_fits, selected_typed, steps_typed}
use Rattle.jc_card.specs.Card.{CardState, with_selected, with_steps}
use Rattle.jc_card.specs.Parts.{gives}
use Rattle.jc_card.specs.Reads.{CardWords, GivesNothing, Holds, IsDone}

-- the registered instance of an owner fits the objects
fits_on_words : (k : CardWords) (c : CardState) → Holds k c → (owner : Owner) (i : Instance)
    → instance_of k.kept.instances owner ≡ Some i → fits_instance c.world.shapes c.heap i ≡ true
fits_on_words k c h owner i e = grind (arith, instance_fits)

pub found_fits : (k : CardWords) (owner : Owner) (now : CardWords) → k ≡ now → (o : Option Instance)
    → o ≡ instance_of k.kept.instances owner
    → IfSome o (λ i. (c : CardState) → Holds now c → fits_instance c.world.shapes c.heap i ≡ true)
found_fits k owner now h1 o h2 = grind (arith, fits_on_words)

-- another budget of steps
pub steps_held : (k : CardWords) (c : CardState) → Holds k c → (steps : ℕ)
    → Holds (record k { steps = steps }) (with_steps c steps)
steps_held k c h steps = grind (arith, steps_typed)

pub selected_done : (k : CardWords) (c : CardState) → Holds k c → (selected : Option Owner)
    → IsDone (record k { selected = selected }) GivesNothing (gives (with_selected c selected) tt)
selected_done k c h selected = grind (arith, selected_typed)
