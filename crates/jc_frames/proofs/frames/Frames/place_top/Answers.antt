use Rattle.std.proofs.Common.{◌≡◌, ◌-◌, Some, length, slice_get, refl, vec_len}
use Rattle.jc_frames.specs.PrivateLaid.{IsChanged}
use Rattle.jc_frames.specs.Operands.{placed}
use Rattle.jc_frames.proofs.Tops.{changed_frames, changed_laid, last_is}
use Rattle.jc_frames.proofs.Inside.{sizes}
use Rattle.jc_frames.proofs.frames.Frames.place_top.Goals as goal

pub invariant_of-self-2 : goal.invariant_of-self-2
invariant_of-self-2 c =
    let p = c.in-Some.place.now in
    let at : slice_get c.self.inside.places.items (length c.self.inside.places.items - 1) ≡ Some p =
    last_is c.self.inside.places.items (vec_len c.self.inside.places) p c.self.invariant.place_count
    (c.in-Some.ensures.variant.0 refl) c.in-Some.ensures.value in
    let changed : IsChanged (placed c.args.pc c.args.depth) p c.self.inside.words.items
    (record p { header = record p.header { pc = c.args.pc; depth = c.args.depth } }) c.self.inside.words.items =
    record { frame = refl; before = refl; start = refl; locals = refl; operands = refl } in
    changed_laid c.self.inside.places.items c.self.inside.words.items (sizes c.self.inside) c.self.invariant p at
    (placed c.args.pc c.args.depth) (record p
    { header = record p.header { pc = c.args.pc; depth = c.args.depth } })
    c.self.inside.words.items changed (vec_len c.self.inside.places) refl refl

pub returns : goal.returns
returns c =
    let p = c.in-Some.place.now in
    let at : slice_get c.self.inside.places.items (length c.self.inside.places.items - 1) ≡ Some p =
    last_is c.self.inside.places.items (vec_len c.self.inside.places) p c.self.invariant.place_count
    (c.in-Some.ensures.variant.0 refl) c.in-Some.ensures.value in
    let changed : IsChanged (placed c.args.pc c.args.depth) p c.self.inside.words.items
    (record p { header = record p.header { pc = c.args.pc; depth = c.args.depth } }) c.self.inside.words.items =
    record { frame = refl; before = refl; start = refl; locals = refl; operands = refl } in
    changed_frames c.self.inside.places.items c.self.inside.words.items (sizes c.self.inside) c.self.invariant p at
    (placed c.args.pc c.args.depth) (record p
    { header = record p.header { pc = c.args.pc; depth = c.args.depth } })
    c.self.inside.words.items changed (vec_len c.self.inside.places) refl c.args.self.now c.self.view_is
