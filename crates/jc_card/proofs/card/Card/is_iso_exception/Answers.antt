use Rattle.std.proofs.Common.{ℕ, Some, ap, subst, sym, ◌∙◌, arith}
use Rattle.jc_card.specs.contracts.card.Card.{the_view}
use Rattle.jc_card.specs.Reads.{CardWords, Holds}
use Rattle.jc_card.proofs.Thrown.{TableLaws, has_number, listed_is}
use Rattle.jc_card.proofs.card.Card.is_iso_exception.Goals as goal

pub returns-in-Some : goal.returns-in-Some
returns-in-Some c card thrown holds found = grind (arith, listed_is)

pub returns-in-None : goal.returns-in-None
returns-in-None c card thrown holds found =
    let laws : TableLaws = record {
      answers = c.program_laws.ensures;
      named = c.classes_have_numbers.ensures.named;
      below = c.class_subtypes_are_below.ensures;
      stands = c.built_worlds_have_the_api.ensures;
    } in
    let k : CardWords = the_view c.self.inside in
    let h = subst (λ (x : CardWords). Holds x card) (sym c.self.view_is) holds in
    has_number laws k card h c.args.object thrown found c.new-class.result (c.class_number.ensures ∙ ap (λ (n : ℕ).
    Some n) (sym c.new-class.ensures))
    (sym c.in-None.is ∙ c.number_of.ensures)
