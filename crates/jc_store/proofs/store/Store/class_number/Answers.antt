use Rattle.jc_store.proofs.Rows.{its_class}
use Rattle.jc_store.proofs.store.Store.class_number.Goals as goal

pub returns : goal.returns
returns c = its_class c.self.invariant c.self.view_is c.args.number c.requires.there c.deref.result.now c.head_at.result
    c.deref.ensures.value c.head_at.ensures
