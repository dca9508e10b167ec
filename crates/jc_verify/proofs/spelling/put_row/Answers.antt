use Rattle.std.proofs.Common.{◌++◌, [], ◌∷◌, List, map, ap, sym, subst, ◌∙◌}
use Rattle.std.proofs.lemmas.List.{map-append}
use Rattle.jc_cert.specs.Cert.{Stated, stated}
use Rattle.jc_check.specs.Package.{class_of_name}
use Rattle.jc_verify.specs.PrivateStated.{AreStateRows}
use Rattle.jc_verify.proofs.Stating.{nothing_more, row_more}
use Rattle.jc_verify.proofs.spelling.put_row.Goals as goal

pub returns-in-None-clause-rows : goal.returns-in-None-clause-rows
returns-in-None-clause-rows c places h = nothing_more (class_of_name c.args.table.now) places c.args.place.now (map stated c.args.rows.now.items) c.in-None.is h

pub returns-in-Some-2-clause-rows : goal.returns-in-Some-2-clause-rows
returns-in-Some-2-clause-rows c places h =
    let are : List Stated → Type 0 = λ cs. AreStateRows (class_of_name c.args.table.now) (places ++ c.args.place.now ∷ []) cs in
    let row = rw c.in-Some-2.is at c.in_ok-row-in-Some.ensures.row in
    subst are (sym (ap (map stated) c.push_reserved.ensures.items ∙ map-append stated c.args.rows.now.items (c.in-Some-2.row ∷ [])))
    (row_more (class_of_name c.args.table.now) places c.args.place.now c.in-Some.held (map stated c.args.rows.now.items) (stated c.in-Some-2.row) c.in-Some.is row h)
