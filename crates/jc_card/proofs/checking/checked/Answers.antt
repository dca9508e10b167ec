use Rattle.std.proofs.Common.{◌≤◌, Err, ◌∙◌, sym, ap, subst, arith}
use Rattle.std.proofs.lemmas.Result.{err_from_is_err_and}
use Rattle.jc_link.specs.Linked.{most_in_world}
use Rattle.jc_card.specs.Load.{AreSpelled, IsFit, IsLinkedBehind}
use Rattle.jc_card.proofs.Checked.{is_cut, is_fit, uncarried, uncut, unlinked, unspelled}
use Rattle.jc_card.proofs.checking.checked.Goals as goal

pub returns-in_err-cut-clause-unfit : goal.returns-in_err-cut-clause-unfit
returns-in_err-cut-clause-unfit c = grind (arith, err_from_is_err_and, uncut)

pub returns-in_err-linked-clause-unfit : goal.returns-in_err-linked-clause-unfit
returns-in_err-linked-clause-unfit c = grind (arith, err_from_is_err_and, unlinked)

pub returns-in_err-rows-clause-unfit : goal.returns-in_err-rows-clause-unfit
returns-in_err-rows-clause-unfit c =
    let p = err_from_is_err_and c.from_residual-in_err-rows.result c.from_residual-in_err-rows.ensures.1 in
    let behind : IsLinkedBehind c.args.world.now.shapes c.args.image.now c.in_ok-linked.linked = record {
      parts = c.in_ok-cut.field-0;
      cut = is_cut c.args.image.now _ c.in_ok-cut.ensures.found;
      linked = c.in_ok-linked.ensures.linked;
    } in
    rw (p.1, p.2) (unspelled c.args.world.now.shapes c.args.image.now c.args.certificate.now c.in_ok-linked.linked
    c.in_err-rows.field-0.0 behind (λ bad. c.in_err-rows.ensures.refused (ap Err bad))
    c.in_err-rows.ensures.faults)

pub returns-in_err-check-clause-unfit : goal.returns-in_err-check-clause-unfit
returns-in_err-check-clause-unfit c =
    let p = err_from_is_err_and c.from_residual-in_err-check.result c.from_residual-in_err-check.ensures.1 in
    let behind : IsLinkedBehind c.args.world.now.shapes c.args.image.now c.in_ok-linked.linked = record {
      parts = c.in_ok-cut.field-0;
      cut = is_cut c.args.image.now _ c.in_ok-cut.ensures.found;
      linked = c.in_ok-linked.ensures.linked;
    } in
    let spelled : AreSpelled c.args.certificate.now c.in_ok-rows.rows = record {
      cert = c.in_ok-rows.ensures.found.0;
      bytes_are = c.in_ok-rows.ensures.found.1;
    } in
    rw (p.1, p.2) (uncarried c.args.world.now.shapes c.args.image.now c.args.certificate.now c.in_ok-linked.linked
    c.in_ok-rows.rows c.in_err-check.field-0.0 behind spelled c.in_err-check.ensures.refused)

pub returns-clause-accepted : goal.returns-clause-accepted
returns-clause-accepted c accepted =
    let before = c.args.world.now.shapes in
    let same = c.into_linked.ensures.linked ∙ c.in_ok-check.ensures.accepted.0 in
    let fits = subst (IsFit before c.args.image.now c.args.certificate.now) (sym same)
    (is_fit before c.args.image.now c.args.certificate.now c.in_ok-linked.linked c.in_ok-cut.field-0 c.in_ok-rows.rows
    c.in_ok-cut.ensures.found c.in_ok-linked.ensures.linked c.in_ok-rows.ensures.found
    c.in_ok-check.ensures.accepted.1) in
    let few = subst (λ n. n ≤ most_in_world) c.len-count.ensures.count c.len-count.ensures.most in
    c.fit_packages_are_accepted.ensures c.args.world.now accepted few c.args.image.now c.args.certificate.now
    c.bytes_are_low.ensures c.into_linked.result fits
