use Rattle.std.proofs.Common.{◌==◌, ◌&&◌, cond, Some, sym, ap, ◌∙◌}
use Rattle.std.proofs.lemmas.Option.{slice_get-get_or}
use Rattle.std.specs.Option.{option_or}
use Rattle.jc_program.proofs.Numbering.{number_more}
use Rattle.jc_program.proofs.numbers.put_number.Goals as goal

pub returns-clause-done : goal.returns-clause-done
returns-clause-done c = λ p i.
    let tables = c.make_package.new.tables.items in
    let old = c.index_mut.result.now in
    let there = slice_get-get_or tables c.args.«package» old c.in_ok-make_package.ensures.long
    ∙ sym (ap Some c.index_mut.ensures.value) in
    number_more tables c.args.«package» old c.put.new.self c.args.offset c.args.number there
    c.in_ok-put.ensures.done p i
    ∙ ap (λ o. cond (c.args.«package» == p && c.args.offset == i) (option_or o (Some c.args.number)) o)
    (c.in_ok-make_package.ensures.same p i)
