use Rattle.std.proofs.Common.{Ok, refl, subst, sym, ◌∙◌, arith}
use Rattle.std.proofs.lemmas.Result.{err_from_is_err_and}
use Rattle.jc_link.specs.Linked.{World}
use Rattle.jc_card.specs.Load.{IsFit, with_package}
use Rattle.jc_card.specs.Reads.{CardWords, Holds}
use Rattle.jc_card.proofs.Checked.{refused}
use Rattle.jc_card.proofs.card.Card.load.Goals as goal

pub returns-in_err-linked-clause-done : goal.returns-in_err-linked-clause-done
returns-in_err-linked-clause-done c card holds = grind (arith, err_from_is_err_and, refused)

pub returns-in-Ok-clause-done : goal.returns-in-Ok-clause-done
returns-in-Ok-clause-done c card holds =
    let linked = c.in_ok-linked.linked in
    let h = subst (λ (x : CardWords). Holds x card) (sym c.self.view_is) holds in
    let done = c.in-Ok.ensures.done card holds in record {
      card = with_package card linked;
      load = record {
        linked = linked;
        fit = subst (λ (w : World). IsFit w.shapes c.args.image.now c.args.certificate.now linked) h.world
            c.in_ok-linked.ensures.fit;
        room = sym (c.has_room.ensures card holds) ∙ c.if-not-has_room.false;
        number_is = done.0;
        after_is = refl;
      };
      holds = done.1;
    }

pub returns-in-Ok-clause-guarded : goal.returns-in-Ok-clause-guarded
returns-in-Ok-clause-guarded c card after h =
    c.commands_are_guarded.ensures.load card after c.args.image.now c.args.certificate.now (Ok c.in-Ok.number) h
