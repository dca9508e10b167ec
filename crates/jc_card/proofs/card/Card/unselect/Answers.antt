use Rattle.std.proofs.Common.{None, Option, Some, subst, sym, ◌∙◌}
use Rattle.std.specs.Option.{option_map_or}
use Rattle.jc_names.specs.declared.owner.Owner.{Owner}
use Rattle.jc_store.specs.declared.kind.ClearingEvent.TheVariants.{Deselect}
use Rattle.jc_card.specs.Card.{with_selected}
use Rattle.jc_card.specs.Parts.{clear, gives}
use Rattle.jc_card.specs.Reads.{CardWords, GivesNothing, Holds, IsDone}
use Rattle.jc_card.proofs.card.Card.unselect.Goals as goal

pub returns-in-Some : goal.returns-in-Some
returns-in-Some c card holds =
    let h = subst (λ (x : CardWords). Holds x card) (sym c.self.view_is) holds in
    subst (λ (o : Option Owner). IsDone c.clear.new.self GivesNothing (option_map_or (λ (owner : Owner). clear Deselect
    (Some owner.context) (with_selected card None)) o (gives card tt))) (sym c.in-Some.is ∙ h.selected)
    (c.clear.ensures _ (c.set_selected.ensures card holds).0)
