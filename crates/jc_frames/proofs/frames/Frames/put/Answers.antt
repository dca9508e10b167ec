use Rattle.std.proofs.Common.{◌≡◌, ◌-◌, Some, length, slice_get, refl, vec_len}
use Rattle.jc_frames.specs.Operands.{put}
use Rattle.jc_frames.proofs.Tops.{last_is, refilled_frames, refilled_laid}
use Rattle.jc_frames.proofs.Inside.{sizes}
use Rattle.jc_frames.proofs.frames.Frames.put.Goals as goal

pub invariant_of-self-2 : goal.invariant_of-self-2
invariant_of-self-2 c =
    let at : slice_get c.self.inside.places.items (length c.self.inside.places.items - 1) ≡ Some c.in-Some.place.now =
    last_is c.self.inside.places.items (vec_len c.self.inside.places) c.in-Some.place.now
    c.self.invariant.place_count (c.in-Some.ensures.variant.0 refl) c.in-Some.ensures.value in
    refilled_laid c.self.inside.places.items c.self.inside.words.items (sizes c.self.inside) c.self.invariant
    c.in-Some.place.now at (put c.args.word c.args.pc) c.put_at.new.place
    c.deref_mut.result.now c.put_at.new.words c.deref_mut.ensures.value c.put_at.ensures c.put_at.auto.words
    (vec_len c.self.inside.places) (vec_len c.self.inside.words) refl refl

pub returns : goal.returns
returns c =
    let at : slice_get c.self.inside.places.items (length c.self.inside.places.items - 1) ≡ Some c.in-Some.place.now =
    last_is c.self.inside.places.items (vec_len c.self.inside.places) c.in-Some.place.now
    c.self.invariant.place_count (c.in-Some.ensures.variant.0 refl) c.in-Some.ensures.value in
    refilled_frames c.self.inside.places.items c.self.inside.words.items (sizes c.self.inside) c.self.invariant
    c.in-Some.place.now at (put c.args.word c.args.pc) c.put_at.new.place
    c.deref_mut.result.now c.put_at.new.words c.deref_mut.ensures.value c.put_at.ensures c.put_at.auto.words
    (vec_len c.self.inside.places) (vec_len c.self.inside.words) refl refl
    c.args.self.now c.self.view_is
