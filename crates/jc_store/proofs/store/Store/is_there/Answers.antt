use Rattle.std.proofs.Common.{arith}
use Rattle.std.proofs.lemmas.Bool.{leb-true, leb-false}
use Rattle.jc_store.proofs.There.{not_there, there}
use Rattle.jc_store.proofs.store.Store.is_there.Goals as goal

pub returns-then-number-ne0-clause-yes : goal.returns-then-number-ne0-clause-yes
returns-then-number-ne0-clause-yes c = λ e.
    let low = leb-true c.args.number c.objects_used.result e in
    let count = c.objects_used.ensures.objects in
    there c.args.self.now c.args.number c.if-number-ne0.true (omega (arith, low, count))

pub returns-then-number-ne0-clause-no : goal.returns-then-number-ne0-clause-no
returns-then-number-ne0-clause-no c = λ e.
    let high = leb-false c.args.number c.objects_used.result e in
    let count = c.objects_used.ensures.objects in
    not_there c.args.self.now.objects c.args.number (omega (arith, high, count))
