use Rattle.jc_interp.proofs.MadeArrays.{array_made}
use Rattle.jc_interp.proofs.making.make_array.Goals as goal

pub returns-in-Some-clause-made : goal.returns-in-Some-clause-made
returns-in-Some-clause-made c = λ yes.
    array_made c.args.store.now c.make.new.self c.fill.new.store c.args.number c.in-Some.made c.count_of.result
    c.args.body.now c.args.array.now _ _ c.kind_of-kind.ensures c.owner_of-owner.ensures c.count_of.ensures
    c.in-Some.ensures.made c.in-Some.ensures.number c.fill.ensures
