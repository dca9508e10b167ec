use Rattle.std.proofs.lemmas.Result.{err_from_is_err_and}
use Rattle.jc_verify.proofs.Denying.{denies_on}
use Rattle.jc_verify.proofs.Growing.{risen_through}
use Rattle.jc_verify.proofs.Settling.{settled_first, under_first}
use Rattle.jc_verify.proofs.Tallying.{counted_through}
use Rattle.jc_verify.proofs.Visiting.{if_err, if_ok}
use Rattle.jc_verify.proofs.settle.fill.Goals as goal

pub settle-requires-clause-settled : goal.settle-requires-clause-settled
settle-requires-clause-settled c =
    settled_first c.args.flow.now.linked.now c.requires.blank.sound.laws c.args.flow.now.method.now c.args.flow.now.numbers.now c.args.places.now c.enter.new.places c.requires.blank.empty c.in_ok-enter.ensures.taken.grown

pub returns-clause-filled : goal.returns-clause-filled
returns-clause-filled c =
    let l = c.args.flow.now.linked.now in
    let m = c.args.flow.now.method.now in
    let numbers = c.args.flow.now.numbers.now in
    let blank = c.requires.blank in
    let entered = c.in_ok-enter.ensures.taken in
    let through = risen_through l blank.sound.laws m numbers c.args.places.now c.enter.new.places c.settle.new.places entered.grown.risen in
    let first = under_first l blank.sound.laws m numbers c.args.places.now c.enter.new.places blank.empty in
    if_ok c.settle.result _ _ c.settle.ensures.settled (λ u settled. record {
      risen = through settled.risen;
      under = λ typing upper. settled.under typing upper (entered.least typing (first typing) upper);
      reached = settled.reached;
      numbered = settled.risen.numbered entered.work.numbered;
      shaped = settled.risen.shaped entered.work.shaped;
      entry = entered.met c.settle.new.places settled.risen;
      closed = settled.closed;
    })

pub returns-clause-counted : goal.returns-clause-counted
returns-clause-counted c =
    if_ok c.settle.result _ _ c.settle.ensures.counted (λ u counted.
    counted_through c.args.flow.now.linked.now 1 0 c.args.places.now c.enter.new.places c.settle.new.places
    c.args.followed.now c.enter.new.followed c.settle.new.followed c.in_ok-enter.ensures.counted counted)

pub returns-clause-refused : goal.returns-clause-refused
returns-clause-refused c =
    if_err c.settle.result _ _ c.settle.ensures.refused (λ fault refused. denies_on refused (λ typing carrier under any. (c.in_ok-enter.ensures.taken.least typing under carrier.upper, tt)))

pub returns-in_err-enter-clause-refused : goal.returns-in_err-enter-clause-refused
returns-in_err-enter-clause-refused c =
    let p = err_from_is_err_and c.from_residual-in_err-enter.result c.from_residual-in_err-enter.ensures.1 in
    rw (p.1, p.2) c.in_err-enter.ensures.refused
