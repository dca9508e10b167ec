use Rattle.std.proofs.Common.{inr, ◌+◌, ◌-◌, arith}
use Rattle.std.proofs.lemmas.Bool.{leb-false, leb-true}
use Rattle.jc_frames.proofs.Pushing.{is_room, no_room}
use Rattle.jc_frames.proofs.Inside.{sizes}
use Rattle.jc_frames.proofs.frames.Frames.has_room.Goals as goal

pub returns-then-len-from-clause-room : goal.returns-then-len-from-clause-room
returns-then-len-from-clause-room c is =
    let n = c.len.ensures in let h = c.self.invariant.place_count in let f = c.from.ensures in
    let g = c.from-2.ensures in let i = c.from-3.ensures in let j = c.from-4.ensures in
    let t = c.if-len-from.true in
    let k = leb-true (c.from-3.result + c.from-4.result) (c.from.result - c.from-2.result) is in
    is_room c.self.inside.places.items c.self.inside.words.items (sizes c.self.inside) c.self.invariant
    c.args.self.now c.args.size c.self.view_is (omega (arith, n, h, t)) (omega (arith, f, g, i, j, k))

pub returns-then-len-from-clause-full : goal.returns-then-len-from-clause-full
returns-then-len-from-clause-full c is =
    let f = c.from.ensures in let g = c.from-2.ensures in let i = c.from-3.ensures in let j = c.from-4.ensures in
    let k = leb-false (c.from-3.result + c.from-4.result) (c.from.result - c.from-2.result) is in
    no_room c.self.inside.places.items c.self.inside.words.items (sizes c.self.inside) c.self.invariant
    c.args.self.now c.args.size c.self.view_is (inr (omega (arith, f, g, i, j, k)))
