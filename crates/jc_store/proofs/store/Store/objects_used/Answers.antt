use Rattle.std.proofs.Common.{◌∙◌}
use Rattle.jc_store.proofs.Rows.{class_count}
use Rattle.jc_store.proofs.store.Store.objects_used.Goals as goal

pub returns-clause-classes : goal.returns-clause-classes
returns-clause-classes c = c.len.ensures ∙ class_count c.self.invariant c.self.view_is
