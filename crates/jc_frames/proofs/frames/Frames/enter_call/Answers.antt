use Rattle.std.proofs.Common.{◌≡◌, ℕ, ◌+◌, ◌-◌, List, ◌∷◌, Some, length, take, reverse, slice_get, slice_range, refl}
use Rattle.std.proofs.Common.{sym, ap, subst, ◌∙◌, arith}
use Rattle.jc_frames.specs.Frames.{Frame, Frames, IsPushed, with_frames}
use Rattle.jc_frames.specs.Operands.{dropped, in_use, with_top}
use Rattle.jc_frames.specs.PrivateLaid.{frame_in, frames_in}
use Rattle.jc_frames.proofs.Calls.{arguments_are, dropped_operands, in_use_within}
use Rattle.jc_frames.proofs.Operands.{in_use_count}
use Rattle.jc_frames.proofs.Places.{found, found_in}
use Rattle.jc_frames.proofs.Tops.{top_held, top_within}
use Rattle.jc_frames.proofs.Inside.{sizes}
use Rattle.jc_frames.proofs.frames.Frames.enter_call.Goals as goal

pub put_call-requires-clause-there : goal.put_call-requires-clause-there
put_call-requires-clause-there c =
    let places = c.self.inside.places.items in
    let words : List ℕ = c.self.inside.words.items in
    let p = c.in-Some.caller.now in
    let at : slice_get places (length places - 1) ≡ Some p =
    found_in places words c.args.self.now.frames (ap (λ (s : Frames). s.frames) c.self.view_is) c.deref.result.now
    c.deref.ensures.value p (sym c.in-Some.ensures.value) in
    let top : Frame = frame_in words p in
    let rest : List Frame = frames_in words (take (length places - 1) places) in
    let held : c.args.self.now.frames ≡ top ∷ rest = top_held places words (sizes c.self.inside) c.self.invariant p
    at c.args.self.now c.self.view_is in
    let count : length (in_use top) ≡ c.depth_at-depth.result =
    in_use_count p words (top_within places words (sizes c.self.inside) c.self.invariant p at) (p.start + p.locals)
    c.depth_at-depth.result refl c.depth_at-depth.ensures in
    let few = c.if-depth-words.false in
    let kept : length (dropped c.args.words top).operands ≡ length top.operands = ap (λ (xs : List ℕ). length xs)
    (dropped_operands top c.args.words) in
    let within = in_use_within top in
    record {
      top = dropped c.args.words top;
      below = rest;
      is = ap (λ (s : Frames). s.frames) c.drop_operands.ensures ∙ ap (with_top (dropped c.args.words)) held;
      within = omega (arith, kept, within, count, few);
    }

pub returns-clause-there : goal.returns-clause-there
returns-clause-there c entered =
    let places = c.self.inside.places.items in
    let words : List ℕ = c.self.inside.words.items in
    let p = c.in-Some.caller.now in
    let at : slice_get places (length places - 1) ≡ Some p =
    found_in places words c.args.self.now.frames (ap (λ (s : Frames). s.frames) c.self.view_is) c.deref.result.now
    c.deref.ensures.value p (sym c.in-Some.ensures.value) in
    let top : Frame = frame_in words p in
    let rest : List Frame = frames_in words (take (length places - 1) places) in
    let held : c.args.self.now.frames ≡ top ∷ rest = top_held places words (sizes c.self.inside) c.self.invariant p
    at c.args.self.now c.self.view_is in
    let count : length (in_use top) ≡ c.depth_at-depth.result =
    in_use_count p words (top_within places words (sizes c.self.inside) c.self.invariant p at) (p.start + p.locals)
    c.depth_at-depth.result refl c.depth_at-depth.ensures in
    let few = c.if-depth-words.false in
    record { top = top; below = rest; is = held; within = omega (arith, count, few) }

pub returns-clause-pushed : goal.returns-clause-pushed
returns-clause-pushed c top below is some fit entered =
    let places = c.self.inside.places.items in
    let words : List ℕ = c.self.inside.words.items in
    let p = c.in-Some.caller.now in
    let at : slice_get places (length places - 1) ≡ Some p =
    found_in places words c.args.self.now.frames (ap (λ (s : Frames). s.frames) c.self.view_is) c.deref.result.now
    c.deref.ensures.value p (sym c.in-Some.ensures.value) in
    let own : Frame = frame_in words p in
    let rest : List Frame = frames_in words (take (length places - 1) places) in
    let held : c.args.self.now.frames ≡ own ∷ rest = top_held places words (sizes c.self.inside) c.self.invariant p
    at c.args.self.now c.self.view_is in
    let count : length (in_use own) ≡ c.depth_at-depth.result =
    in_use_count p words (top_within places words (sizes c.self.inside) c.self.invariant p at) (p.start + p.locals)
    c.depth_at-depth.result refl c.depth_at-depth.ensures in
    let same : own ≡ top = (found places words c.args.self.now.frames (ap (λ (s : Frames). s.frames) c.self.view_is)
    p top below at is).is in
    let size : length (in_use top) ≡ c.depth_at-depth.result = ap (λ (f : Frame). length (in_use f)) (sym same) ∙
    count in
    let first : ℕ = c.depth_at-depth.result - c.args.words in
    let after : c.drop_operands.new.self ≡ with_frames c.args.self.now (dropped c.args.words top ∷ below) =
    c.drop_operands.ensures ∙ ap (λ fs. with_frames c.args.self.now (with_top (dropped c.args.words) fs)) is in
    let arguments : slice_range (dropped c.args.words top).operands first (first + c.args.words) ≡ reverse
    (take c.args.words (in_use top)) =
    ap (λ xs. slice_range xs first (first + c.args.words)) (dropped_operands top c.args.words) ∙ arguments_are top
    first c.args.words some (ap (λ k. k - c.args.words) (sym size)) in
    subst (λ xs. IsPushed (with_frames c.args.self.now (dropped c.args.words top ∷ below)) c.args.header c.args.size
    xs c.put_call.new.self) arguments
    (subst (λ s. IsPushed s c.args.header c.args.size
    (slice_range (dropped c.args.words top).operands first (first + c.args.words)) c.put_call.new.self) after
    (c.put_call.ensures (dropped c.args.words top) below (ap (λ (s : Frames). s.frames) after)))
