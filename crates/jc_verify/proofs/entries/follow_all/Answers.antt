use Rattle.std.proofs.Common.{◌≡◌, [], refl, rules}
use Rattle.std.proofs.lemmas.Result.{err_from_is_err_and}
use Rattle.jc_verify.proofs.Following.{entries_found, goes_straight, live_found, taken}
use Rattle.jc_verify.proofs.Passing.{if_refusal}
use Rattle.jc_verify.proofs.Starting.{first_begins}
use Rattle.jc_verify.proofs.entries.follow_all.Goals as goal

pub loop-pc-init : goal.loop-pc-init
loop-pc-init c listing ground = c.in_ok-followed.ensures.followed c.args.method.now listing (first_begins c.args.method.now.code listing ground.decoded.whole c.requires.some)

pub loop-pc-preserved : goal.loop-pc-preserved
loop-pc-preserved c listing ground =
    let f = c.loop-pc.followed in
    c.in_ok-visit_at.ensures.followed listing ground
    (taken f (record { live = f.live; entered = f.entered; stack = c.pop.new.self }) c.in-Some.pc refl refl c.in-Some.ensures.items c.args.method.now listing (c.loop-pc.invariant listing ground))

pub returns-in_err-visit_at-clause-refused : goal.returns-in_err-visit_at-clause-refused
returns-in_err-visit_at-clause-refused c =
    let p = err_from_is_err_and c.from_residual-in_err-visit_at.result c.from_residual-in_err-visit_at.ensures.1 in
    let f = c.loop-pc.followed in
    rw (p.1, p.2) (if_refusal c.in_err-visit_at.field-0.0 _ _ c.in_err-visit_at.ensures.refused (λ pc reason off listing ground.
    off listing ground (taken f (record { live = f.live; entered = f.entered; stack = c.pop.new.self }) c.in-Some.pc refl refl c.in-Some.ensures.items c.args.method.now listing (c.loop-pc.invariant listing ground))))

pub returns-clause-found : goal.returns-clause-found
returns-clause-found c listing ground =
    let m = c.args.method.now in
    let f = c.loop-pc.followed in
    let followed = c.loop-pc.invariant listing ground in
    let over : f.stack.items ≡ [] = search rules in
    record { are = entries_found m listing f followed over; live = (f.live, live_found m listing f followed over); straight = goes_straight m listing f followed over c.args.starts.now ground }
