use Rattle.std.proofs.Common.{ap, slice_get, ◌∙◌, arith}
use Rattle.std.proofs.lemmas.Option.{slice_get-get_or}
use Rattle.jc_api.specs.declared.class.ApiClass.TheVariants.{Object}
use Rattle.jc_names.specs.declared.name.ClassName.TheVariants.{Api}
use Rattle.jc_program.proofs.Beginning.{begins_more}
use Rattle.jc_program.proofs.Summing.{row_more}
use Rattle.jc_program.proofs.class_rows.put_rows.Goals as goal

pub loop-at-preserved : goal.loop-at-preserved
loop-at-preserved c =
    let names = c.args.classes.now in
    let at = c.loop-at.at in
    let t = c.loop-at-test.true in
    let e = c.len-at-end.ensures.count in
    let n = c.new-number.ensures in
    let there = slice_get-get_or names at (Api Object) (omega (arith, t, e)) in
    rw c.in_ok-push.ensures.items (record {
      rows = row_more c.args.table.now names c.loop-at.rows.items c.in_ok-row.row at _ there c.loop-at.invariant.rows
          (c.in_ok-row.ensures _ (ap (slice_get names) (omega (arith, n)) ∙ there));
      begins = begins_more _ c.loop-at.rows.items _ c.loop-at.invariant.begins;
    })
