use Rattle.std.proofs.Common.{◌-◌, take, ap, ◌∙◌, vec_capacity, vec_len}
use Rattle.jc_frames.specs.Frames.{Frames}
use Rattle.jc_frames.proofs.Places.{found_in}
use Rattle.jc_frames.proofs.Pushing.{one_less}
use Rattle.jc_frames.proofs.Inside.{sizes}
use Rattle.jc_frames.proofs.frames.Frames.pop_frame.Goals as goal

pub invariant_of-self : goal.invariant_of-self
invariant_of-self c =
    let n = c.self.invariant.place_count in
    one_less c.self.inside.places.items c.self.inside.words.items (sizes c.self.inside) c.self.invariant
    c.top_of.result (found_in c.self.inside.places.items c.self.inside.words.items c.args.self.now.frames
    (ap (λ (s : Frames). s.frames) c.self.view_is) c.deref.result.now c.deref.ensures.value c.top_of.result
    c.top_of.ensures) c.pop.new.self.items (vec_len c.pop.new.self) (vec_capacity c.pop.new.self)
    (c.pop.ensures.rest ∙ ap (λ k. take (k - 1) c.self.inside.places.items) n) c.pop.new.self.ok.0
    c.pop.ensures.capacity
