use Rattle.std.proofs.Common.{inl, inr, map, arith}
use Rattle.std.proofs.lemmas.Result.{err_from_is_err_and}
use Rattle.jc_verify.proofs.Naming.{never_unnamed}
use Rattle.jc_verify.proofs.Reaching.{reached_named}
use Rattle.jc_verify.proofs.Settling.{under_first}
use Rattle.jc_cert.specs.Cert.{stated}
use Rattle.jc_verify.proofs.Tallying.{counted_in}
use Rattle.jc_verify.proofs.Visiting.{if_err, if_ok}
use Rattle.jc_check.specs.Package.{package_rules}
use Rattle.jc_verify.proofs.Ending.{denial_tells, never_told}
use Rattle.jc_verify.proofs.method.rows_in.Goals as goal

pub returns-in_err-fill-clause-refused : goal.returns-in_err-fill-clause-refused
returns-in_err-fill-clause-refused c =
    let p = err_from_is_err_and c.from_residual.result c.from_residual.ensures.1 in
    let blank = c.requires.blank in
    let first = under_first c.args.flow.now.linked.now blank.sound.laws c.args.flow.now.method.now c.args.flow.now.numbers.now c.args.places.now c.args.places.now blank.empty in
    rw (p.1, p.2) (λ pc reason is. inl (λ typing carrier. (c.in_err-fill.ensures.refused.each pc reason is).denied typing carrier (first typing) tt))

pub returns-clause-rows : goal.returns-clause-rows
returns-clause-rows c = if_ok c.stated_rows.result _ _ (rw c.table.ensures.table at c.stated_rows.ensures.rows) (λ rows are. (c.fill.new.places, c.in_ok-fill.ensures.filled, are))

pub returns-clause-counted : goal.returns-clause-counted
returns-clause-counted c =
    if_ok c.stated_rows.result _ _ (rw c.table.ensures.table at c.stated_rows.ensures.rows) (λ rows are.
    counted_in c.args.flow.now.linked.now _ c.args.places.now c.fill.new.places (map stated rows.items)
    c.args.followed.now c.fill.new.followed c.requires.blank.empty c.in_ok-fill.ensures.counted
    c.in_ok-fill.ensures.done are)

pub returns-clause-refused : goal.returns-clause-refused
returns-clause-refused c =
    let ground = c.requires.blank.sound.ground in
    if_err c.stated_rows.result _ _ (rw c.table.ensures.table at c.stated_rows.ensures.refused) (λ fault unnamed pc reason is.
    inr (λ keeps. never_unnamed c.args.flow.now.linked.now c.fill.new.places (reached_named c.args.flow.now.linked.now c.args.flow.now.method.now keeps ground.listing ground.whole c.fill.new.places c.in_ok-fill.ensures.filled.reached) (unnamed pc reason is)))

pub returns-in_err-fill-clause-told : goal.returns-in_err-fill-clause-told
returns-in_err-fill-clause-told c = grind (arith, err_from_is_err_and, denial_tells)

pub returns-clause-told : goal.returns-clause-told
returns-clause-told c =
    let l = c.args.flow.now.linked.now in
    let m = c.args.flow.now.method.now in
    let ground = c.requires.blank.sound.ground in
    if_err c.stated_rows.result _ _ (rw c.table.ensures.table at c.stated_rows.ensures.refused) (λ fault unnamed keeps.
    never_told (package_rules l) m fault (λ pc reason is.
    never_unnamed l c.fill.new.places (reached_named l m keeps ground.listing ground.whole c.fill.new.places c.in_ok-fill.ensures.filled.reached) (unnamed pc reason is)))
