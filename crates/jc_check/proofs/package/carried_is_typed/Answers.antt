use Rattle.jc_check.proofs.package.carried_is_typed.Goals as goal

pub returns : goal.returns
returns c = λ of carries.
    let l = c.args.linked.now in
    let small = c.len-count.ensures.small in
    c.carried_packages_are_typed.ensures l c.table.ensures.built (rw c.table.ensures.table at small) of carries
