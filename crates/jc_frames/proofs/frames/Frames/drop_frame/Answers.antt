use Rattle.std.proofs.Common.{◌≡◌, ◌<◌, false, nat_eq, ℕ, sym, ap, ◌∙◌, arith, vec_len}
use Rattle.jc_frames.specs.Frames.{Frames}
use Rattle.jc_frames.proofs.Tops.{has_top}
use Rattle.jc_frames.proofs.frames.Frames.drop_frame.Goals as goal

pub pop_frame-requires : goal.pop_frame-requires
pop_frame-requires c =
    let n = c.self.invariant.place_count in
    let some : 0 < vec_len c.self.inside.places = not_none (vec_len c.self.inside.places)
    (sym c.is_empty.ensures ∙ c.if-not-is_empty.true) in
    record {
      there = has_top c.self.inside.places.items c.self.inside.words.items c.args.self.now
          (ap (λ (s : Frames). s.frames) c.self.view_is) (omega (arith, n, some));
    }
  where
    not_none : (k : ℕ) → nat_eq k 0 ≡ false → 0 < k
    not_none k h1 = grind arith
