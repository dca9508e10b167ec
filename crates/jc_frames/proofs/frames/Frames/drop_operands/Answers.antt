use Rattle.std.proofs.Common.{◌≡◌, ◌+◌, ◌-◌, Some, length, slice_get, refl, vec_len}
use Rattle.jc_frames.specs.Operands.{dropped}
use Rattle.jc_frames.proofs.Operands.{drop_changed}
use Rattle.jc_frames.proofs.Tops.{changed_frames, changed_laid, last_is, top_within}
use Rattle.jc_frames.proofs.Inside.{sizes}
use Rattle.jc_frames.proofs.frames.Frames.drop_operands.Goals as goal

pub invariant_of-self-2 : goal.invariant_of-self-2
invariant_of-self-2 c =
    let p = c.in-Some.place.now in
    let at : slice_get c.self.inside.places.items (length c.self.inside.places.items - 1) ≡ Some p =
    last_is c.self.inside.places.items (vec_len c.self.inside.places) p c.self.invariant.place_count
    (c.in-Some.ensures.variant.0 refl) c.in-Some.ensures.value in
    let changed =
    drop_changed p c.self.inside.words.items (top_within c.self.inside.places.items c.self.inside.words.items
    (sizes c.self.inside) c.self.invariant p at) (p.start + p.locals) c.depth_at.result refl c.depth_at.ensures
    c.args.count c.saturating_sub-place.result c.saturating_sub-place.ensures in
    changed_laid c.self.inside.places.items c.self.inside.words.items (sizes c.self.inside) c.self.invariant p at
    (dropped c.args.count) (record p { header = record p.header { depth = c.saturating_sub-place.result } })
    c.self.inside.words.items changed (vec_len c.self.inside.places) refl refl

pub returns : goal.returns
returns c =
    let p = c.in-Some.place.now in
    let at : slice_get c.self.inside.places.items (length c.self.inside.places.items - 1) ≡ Some p =
    last_is c.self.inside.places.items (vec_len c.self.inside.places) p c.self.invariant.place_count
    (c.in-Some.ensures.variant.0 refl) c.in-Some.ensures.value in
    let changed =
    drop_changed p c.self.inside.words.items (top_within c.self.inside.places.items c.self.inside.words.items
    (sizes c.self.inside) c.self.invariant p at) (p.start + p.locals) c.depth_at.result refl c.depth_at.ensures
    c.args.count c.saturating_sub-place.result c.saturating_sub-place.ensures in
    changed_frames c.self.inside.places.items c.self.inside.words.items (sizes c.self.inside) c.self.invariant p at
    (dropped c.args.count) (record p { header = record p.header { depth = c.saturating_sub-place.result } })
    c.self.inside.words.items changed (vec_len c.self.inside.places) refl c.args.self.now c.self.view_is
