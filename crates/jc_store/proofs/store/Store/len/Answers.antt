use Rattle.jc_store.proofs.Rows.{its_len}
use Rattle.jc_store.proofs.store.Store.len.Goals as goal

pub returns : goal.returns
returns c object at =
    its_len c.self.invariant c.self.view_is c.args.number object c.deref.result.now c.head_at.result at
    c.deref.ensures.value c.head_at.ensures
