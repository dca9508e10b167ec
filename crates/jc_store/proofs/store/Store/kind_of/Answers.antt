use Rattle.jc_store.proofs.Rows.{its_rest}
use Rattle.jc_store.proofs.store.Store.kind_of.Goals as goal

pub returns : goal.returns
returns c object at =
    (its_rest c.self.invariant c.self.view_is c.args.number object c.deref.result.now c.rest_at.result at
    c.deref.ensures.value c.rest_at.ensures).0
