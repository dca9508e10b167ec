use Rattle.std.proofs.Common.{◌++◌, [], length-append, slice_get, ap, ◌∙◌, arith}
use Rattle.std.proofs.lemmas.Result.{IfOk-equal}
use Rattle.std.specs.Option.{option_map_or}
use Rattle.jc_program.specs.Classes.{names_in}
use Rattle.jc_program.proofs.Naming.{few_names, grown_names}
use Rattle.jc_program.proofs.classes.Classes.grow.Goals as goal

pub put_all-requires : goal.put_all-requires
put_all-requires c =
    let world = c.args.table.now in
    let names = c.args.self.now in
    let more = c.deref.result.now in
    let home = c.new.result in
    let all = grown_names world names more home c.requires.before (omega (arith, c.new.ensures, c.len.ensures.count))
    (c.deref.ensures.value ∙ c.in_ok-put_package.ensures.names
    ∙ ap (λ ns. ns ++ option_map_or (names_in home) (slice_get world home) []) c.new-more.ensures.items) in
    let few = few_names world (names ++ more) all c.len.ensures.small in
    let n = length-append names more in
    record { few = omega (arith, few, n) }

pub returns-clause-names : goal.returns-clause-names
returns-clause-names c = grind (arith, grown_names, slice_get, IfOk-equal)
