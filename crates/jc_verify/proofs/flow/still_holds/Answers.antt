use Rattle.std.proofs.Common.{◌≡◌, Some, sym, ◌∙◌}
use Rattle.std.proofs.lemmas.Option.{slice_get-get_or}
use Rattle.jc_verify.specs.PrivateFlow.{number_at}
use Rattle.jc_verify.proofs.Seeing.{still_held}
use Rattle.jc_verify.proofs.flow.still_holds.Goals as goal

pub returns-in-Some-held : goal.returns-in-Some-held
returns-in-Some-held c is =
    let f = c.args.flow.now in
    let numbered : number_at f.numbers.now c.args.goes_on ≡ Some c.in-Some.number =
    rw c.from.ensures at (sym c.in-Some.ensures) in
    let within = c.requires.work.numbered.within c.args.goes_on c.in-Some.number numbered in
    let stands = slice_get-get_or c.args.places.now c.in-Some.number c.index-places-from.result within in
    let held = rw c.from-2.ensures at c.in-Some-held.is in
    let below = rw (c.table.ensures.table, c.locals.ensures) at c.are_below_within.ensures in
    still_held f c.requires.work c.args.goes_on c.in-Some.number _ c.in-Some-held.held c.args.range c.args.locals.now
    numbered stands held (λ old agree lower. sym (below old agree lower) ∙ is)
