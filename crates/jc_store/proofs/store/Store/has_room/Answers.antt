use Rattle.std.proofs.Common.{inr, ◌-◌, arith}
use Rattle.std.proofs.lemmas.Bool.{ltb-false, ltb-true}
use Rattle.jc_store.proofs.Rows.{is_full, is_room}
use Rattle.jc_store.proofs.store.Store.has_room.Goals as goal

pub returns-then-objects-from-clause-room : goal.returns-then-objects-from-clause-room
returns-then-objects-from-clause-room c is =
    let n = c.len-objects.ensures in let h = c.self.invariant.laid.header_count in let f = c.from.ensures in
    let g = c.from-2.ensures in let m = c.from-3.ensures in
    let t = c.if-objects-from.true in
    let k = ltb-true c.args.len (c.from.result - c.from-2.result - c.len-objects.result) is in
    is_room c.self.invariant c.self.view_is c.args.len (omega (arith, n, h, m, t)) (omega (arith, n, h, f, g, k))

pub returns-then-objects-from-clause-full : goal.returns-then-objects-from-clause-full
returns-then-objects-from-clause-full c is =
    let n = c.len-objects.ensures in let h = c.self.invariant.laid.header_count in let f = c.from.ensures in
    let g = c.from-2.ensures in let m = c.from-3.ensures in
    let k = ltb-false c.args.len (c.from.result - c.from-2.result - c.len-objects.result) is in
    is_full c.self.invariant c.self.view_is c.args.len (inr (omega (arith, n, h, f, g, k)))
