use Rattle.std.proofs.Common.{◌++◌, ◌+◌, [], List, ℕ, length, get_or, set, sym, subst, ◌∙◌}
use Rattle.std.proofs.lemmas.Option.{get_or_from_slice_get, slice_get-get_or}
use Rattle.jc_program.specs.PrivateBitRow.{AreUnited}
use Rattle.jc_program.specs.PrivateBitRows.{ArePassed, IsOneAbove, is_any_listed}
use Rattle.jc_program.proofs.Rising.{passed_row}
use Rattle.jc_program.proofs.bit_rows.pass_row.Goals as goal

pub returns-clause-passed : goal.returns-clause-passed
returns-clause-passed c =
    let made = c.args.made.now in
    let rows = c.args.rows.now in
    let at = c.args.at in
    let above = c.args.above.now in
    let new = c.unite_all.new.row in
    let d = c.index-rows-at.result in
    let had = c.replace-row.ensures.value
    ∙ sym (get_or_from_slice_get rows at (get_or rows at d) [] (slice_get-get_or rows at d c.requires.there)) in
    let empty = c.replace-row.ensures.after ∙ c.new.ensures in
    let united = subst (λ (hole : List ℕ). AreUnited (is_any_listed (made ++ set rows at hole) above)
    c.replace-row.result new c.in_ok-changed.changed) empty c.in_ok-changed.ensures in
    subst (λ (hole : List ℕ). ArePassed (IsOneAbove (length made + at) above) (made ++ rows)
    (made ++ set (set rows at hole) at new) c.in_ok-changed.changed) (sym empty)
    (passed_row made rows at above new c.in_ok-changed.changed c.requires.there
    (subst (λ (row : List ℕ). AreUnited (is_any_listed (made ++ set rows at []) above) row new c.in_ok-changed.changed)
    had united))
