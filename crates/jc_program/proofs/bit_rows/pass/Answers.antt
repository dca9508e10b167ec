use Rattle.std.proofs.Common.{◌++◌, [], get_or, sym, ◌∙◌, arith, length}
use Rattle.std.proofs.lemmas.Option.{get_or_from_slice_get, slice_get-get_or, unwrap_or-slice_get}
use Rattle.jc_program.proofs.Rising.{passed_more}
use Rattle.jc_program.proofs.bit_rows.pass.Goals as goal

pub loop-at-preserved : goal.loop-at-preserved
loop-at-preserved c =
    let made = c.args.made.now in
    let lists = c.args.above.now in
    let at = c.loop-at.at in
    let d = c.index-above-at.result in
    let there = slice_get-get_or lists at d (omega arith) in
    record {
      count = c.in_ok-changed.ensures.count ∙ c.loop-at.invariant.count;
      passed = passed_more (length made) at lists (made ++ c.args.rows.now) (made ++ c.loop-at.rows)
          (made ++ c.pass_row.new.rows) c.loop-at.changed _ c.loop-at.invariant.passed _
          c.in_ok-changed.ensures.passed
          (c.deref.ensures.value ∙ c.list.view_is ∙ c.index-above-at.is
          ∙ sym (unwrap_or-slice_get lists at [] ∙ get_or_from_slice_get lists at (get_or lists at d) [] there));
    }
