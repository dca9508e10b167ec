use Rattle.std.proofs.Common.{[], List, Option, unwrap_or, set, ap, sym, subst, ◌∙◌, arith}
use Rattle.std.proofs.lemmas.Option.{slice_get-get_or}
use Rattle.jc_classes.proofs.Tabling.{put_right}
use Rattle.jc_classes.specs.PrivateTables.{AreVisibleOver, IsRowOver, row_at}
use Rattle.jc_names.specs.declared.name.MethodName.{MethodName}
use Rattle.jc_classes.proofs.shapes.Shapes.put_own_row.Goals as goal

pub returns : goal.returns
returns c =
    let rows = c.args.rows.now in
    let made = c.in_ok-rows.field-0 in
    let at = c.index-at.ensures.index in
    let less = c.requires in
    let here = ap (λ (o : Option (List (Option MethodName))). unwrap_or o [])
    (slice_get-get_or rows c.index-at.result c.index-rows-at.result (omega (arith, at, less))) in
    subst (λ n. AreVisibleOver c.args.self.now c.args.home c.args.table.now rows (set rows n made)) (sym at)
    (put_right c.args.self.now c.args.home c.args.table.now rows made less
    (subst (λ row. IsRowOver c.args.self.now c.args.home c.args.table.now row made) (sym (ap (row_at rows) (sym at) ∙ here))
    c.in_ok-rows.ensures))
