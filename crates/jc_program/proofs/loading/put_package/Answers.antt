use Rattle.std.proofs.Common.{sym, ap, subst, ◌∙◌}
use Rattle.jc_link.specs.Kept.{Kept}
use Rattle.jc_program.specs.PrivateLaid.{HaveHeaders}
use Rattle.jc_program.proofs.Known.{have_headers}
use Rattle.jc_program.proofs.loading.put_package.Goals as goal

pub put_methods-requires-clause-headed : goal.put_methods-requires-clause-headed
put_methods-requires-clause-headed c =
    let same = c.deref.ensures.value ∙ ap (λ (k : Kept). k.methods) (c.kept.view_is ∙ c.kept-kept.ensures) in
    subst (HaveHeaders c.args.table.now c.args.«package») (sym same)
    (have_headers c.args.table.now c.args.«package» c.args.body.now c.requires.known c.requires.first)
