use Rattle.jc_store.proofs.Rows.{its_start}
use Rattle.jc_store.proofs.store.Store.components_before.Goals as goal

pub returns : goal.returns
returns c =
    its_start c.self.invariant c.self.view_is c.args.number c.requires.there c.deref.result.now c.head_at.result
    c.deref.ensures.value c.head_at.ensures
