use Rattle.std.proofs.Common.{◌∙◌, arith, sym}
use Rattle.std.proofs.lemmas.Bool.{eqb-false, eqb-true}
use Rattle.jc_store.proofs.Rows.{not_own, own}
use Rattle.jc_store.proofs.store.Store.is_own.Goals as goal

pub returns-clause-own : goal.returns-clause-own
returns-clause-own c is =
    let bounds = c.well_formed in
    own c.self.invariant c.self.view_is c.args.number c.args.context c.deref.result.now c.head_at.result
    c.requires.there c.deref.ensures.value c.head_at.ensures
    (eqb-true c.head_at.result.fast c.from.result is ∙ c.from.ensures) (omega (arith, bounds))

pub returns-clause-other : goal.returns-clause-other
returns-clause-other c is =
    not_own c.self.invariant c.self.view_is c.args.number c.args.context c.deref.result.now c.head_at.result
    c.deref.ensures.value c.head_at.ensures
    (λ e. eqb-false c.head_at.result.fast c.from.result is (e ∙ sym c.from.ensures))
