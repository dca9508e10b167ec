use Rattle.std.proofs.Common.{◌≡◌, ◌+◌, ◌-◌, length, take, drop, slice_range, refl, sym, ap, subst, ◌∙◌, arith}
use Rattle.std.proofs.Common.{vec_capacity, vec_len}
use Rattle.jc_frames.specs.Frames.{Frame, Frames, IsPushed}
use Rattle.jc_frames.specs.PrivateLaid.{frames_in, part, put_at}
use Rattle.jc_frames.proofs.Places.{found, found_in, top_ends}
use Rattle.jc_frames.proofs.Pushing.{is_pushed, left_for, one_more}
use Rattle.jc_frames.proofs.Words.{part_length, sub_part}
use Rattle.jc_frames.proofs.Inside.{sizes}
use Rattle.jc_frames.proofs.frames.Frames.put_call.Goals as goal

pub overflow_add-self : goal.overflow_add-self
overflow_add-self c = let left = (left_for c.self.inside.places.items c.self.inside.words.items (sizes c.self.inside)
    c.self.invariant c.args.self.now c.args.size c.self.view_is c.requires.room).1 in let few =
    c.self.invariant.few_words in omega (arith, few, left)

pub overflow_add-self-2 : goal.overflow_add-self-2
overflow_add-self-2 c = let left = (left_for c.self.inside.places.items c.self.inside.words.items
    (sizes c.self.inside) c.self.invariant c.args.self.now c.args.size c.self.view_is c.requires.room).1 in let few =
    c.self.invariant.few_words in let f = c.from-4.ensures in omega (arith, few, left, f)

pub copy_arguments-requires-clause-before : goal.copy_arguments-requires-clause-before
copy_arguments-requires-clause-before c =
    let it = (found c.self.inside.places.items c.self.inside.words.items c.args.self.now.frames
    (ap (λ (s : Frames). s.frames) c.self.view_is) c.top_of-place.result c.requires.there.top
    c.requires.there.below (found_in c.self.inside.places.items c.self.inside.words.items c.args.self.now.frames
    (ap (λ (s : Frames). s.frames) c.self.view_is) c.deref.result.now c.deref.ensures.value c.top_of-place.result
    c.top_of-place.ensures) c.requires.there.is).is in
    let z = c.self.invariant.sized in let w = c.self.invariant.within in let ends =
    (top_ends c.self.inside.places.items c.self.inside.used c.top_of-place.result c.self.invariant.laid
    (found_in c.self.inside.places.items c.self.inside.words.items c.args.self.now.frames
    (ap (λ (s : Frames). s.frames) c.self.view_is) c.deref.result.now c.deref.ensures.value c.top_of-place.result
    c.top_of-place.ensures)).0 in
    let l : length (part c.self.inside.words.items (c.top_of-place.result.start + c.top_of-place.result.locals)
    c.top_of-place.result.operands) ≡ length c.requires.there.top.operands = ap
    (λ (x : Frame). length x.operands) it in
    let m = part_length c.self.inside.words.items (c.top_of-place.result.start + c.top_of-place.result.locals)
    c.top_of-place.result.operands (omega (arith, z, w, ends)) in
    let has = c.requires.there.within in
    let a = c.from.ensures in let b = c.from-2.ensures in let d = c.from-3.ensures in let h = c.from-5.ensures in let
    g = c.from-6.ensures in
    omega (arith, l, m, has, a, b, d, h, g, ends)

pub copy_arguments-requires-clause-within : goal.copy_arguments-requires-clause-within
copy_arguments-requires-clause-within c =
    let left = (left_for c.self.inside.places.items c.self.inside.words.items (sizes c.self.inside) c.self.invariant
    c.args.self.now c.args.size c.self.view_is c.requires.room).1 in let f = c.from-6.ensures in let h =
    c.from-5.ensures in let fit = c.requires.fit in
    let n = c.self.invariant.word_count in let z = c.self.invariant.sized in
    omega (arith, left, f, h, fit, n, z)

pub invariant_of-self : goal.invariant_of-self
invariant_of-self c =
    let f = c.from-4.ensures in
    let it = (found c.self.inside.places.items c.self.inside.words.items c.args.self.now.frames
    (ap (λ (s : Frames). s.frames) c.self.view_is) c.top_of-place.result c.requires.there.top
    c.requires.there.below (found_in c.self.inside.places.items c.self.inside.words.items c.args.self.now.frames
    (ap (λ (s : Frames). s.frames) c.self.view_is) c.deref.result.now c.deref.ensures.value c.top_of-place.result
    c.top_of-place.ensures) c.requires.there.is).is in
    let z = c.self.invariant.sized in let w = c.self.invariant.within in let ends =
    (top_ends c.self.inside.places.items c.self.inside.used c.top_of-place.result c.self.invariant.laid
    (found_in c.self.inside.places.items c.self.inside.words.items c.args.self.now.frames
    (ap (λ (s : Frames). s.frames) c.self.view_is) c.deref.result.now c.deref.ensures.value c.top_of-place.result
    c.top_of-place.ensures)).0 in
    let l : length (part c.self.inside.words.items (c.top_of-place.result.start + c.top_of-place.result.locals)
    c.top_of-place.result.operands) ≡ length c.requires.there.top.operands = ap
    (λ (x : Frame). length x.operands) it in
    let m = part_length c.self.inside.words.items (c.top_of-place.result.start + c.top_of-place.result.locals)
    c.top_of-place.result.operands (omega (arith, z, w, ends)) in
    let has = c.requires.there.within in
    let a = c.from.ensures in let b = c.from-2.ensures in let d = c.from-3.ensures in let h = c.from-5.ensures in let
    g = c.from-6.ensures in
    one_more c.self.inside.places.items c.self.inside.words.items (sizes c.self.inside) c.self.invariant
    (record {
      header = c.args.header;
      start = c.self.inside.used;
      locals = c.args.size.locals;
      operands =
          c.args.size.operands;
    }) c.push_reserved.new.self.items
    (part c.self.inside.words.items (c.from.result + c.from-2.result + c.from-3.result) c.from-5.result)
    c.copy_arguments.new.words.items refl (left_for c.self.inside.places.items c.self.inside.words.items
    (sizes c.self.inside) c.self.invariant c.args.self.now c.args.size c.self.view_is c.requires.room)
    c.push_reserved.ensures.items
    (let n : length (part c.self.inside.words.items (c.from.result + c.from-2.result + c.from-3.result)
    c.from-5.result) ≡ c.from-5.result = part_length c.self.inside.words.items
    (c.from.result + c.from-2.result + c.from-3.result) c.from-5.result
    (omega (arith, l, m, has, a, b, d, h, ends, z, w)) in
    let fit = c.requires.fit in omega (arith, n, h, fit))
    (c.copy_arguments.ensures.items ∙ ap (λ k. put_at c.self.inside.words.items k
    (part c.self.inside.words.items (c.from.result + c.from-2.result + c.from-3.result) c.from-5.result)) g)
    (vec_len c.push_reserved.new.self) (vec_capacity c.push_reserved.new.self) (vec_len c.copy_arguments.new.words)
    (c.self.inside.used + c.args.size.locals + c.from-4.result)
    c.push_reserved.ensures.len (let r = c.push_reserved.ensures.capacity in omega (arith, r))
    c.copy_arguments.ensures.len (omega (arith, f))

pub returns : goal.returns
returns c top below held =
    let it = (found c.self.inside.places.items c.self.inside.words.items c.args.self.now.frames
    (ap (λ (s : Frames). s.frames) c.self.view_is) c.top_of-place.result c.requires.there.top
    c.requires.there.below (found_in c.self.inside.places.items c.self.inside.words.items c.args.self.now.frames
    (ap (λ (s : Frames). s.frames) c.self.view_is) c.deref.result.now c.deref.ensures.value c.top_of-place.result
    c.top_of-place.ensures) c.requires.there.is).is in
    let z = c.self.invariant.sized in let w = c.self.invariant.within in let ends =
    (top_ends c.self.inside.places.items c.self.inside.used c.top_of-place.result c.self.invariant.laid
    (found_in c.self.inside.places.items c.self.inside.words.items c.args.self.now.frames
    (ap (λ (s : Frames). s.frames) c.self.view_is) c.deref.result.now c.deref.ensures.value c.top_of-place.result
    c.top_of-place.ensures)).0 in
    let l : length (part c.self.inside.words.items (c.top_of-place.result.start + c.top_of-place.result.locals)
    c.top_of-place.result.operands) ≡ length c.requires.there.top.operands = ap
    (λ (x : Frame). length x.operands) it in
    let m = part_length c.self.inside.words.items (c.top_of-place.result.start + c.top_of-place.result.locals)
    c.top_of-place.result.operands (omega (arith, z, w, ends)) in
    let has = c.requires.there.within in
    let a = c.from.ensures in let b = c.from-2.ensures in let d = c.from-3.ensures in let h = c.from-5.ensures in let
    g = c.from-6.ensures in
    let own = (found c.self.inside.places.items c.self.inside.words.items c.args.self.now.frames
    (ap (λ (s : Frames). s.frames) c.self.view_is) c.top_of-place.result top below
    (found_in c.self.inside.places.items c.self.inside.words.items c.args.self.now.frames
    (ap (λ (s : Frames). s.frames) c.self.view_is) c.deref.result.now c.deref.ensures.value c.top_of-place.result
    c.top_of-place.ensures) held).is in
    let count : c.args.first + c.args.count - c.args.first ≡ c.args.count = omega arith in
    let place : c.from.result + c.from-2.result + c.from-3.result ≡ c.top_of-place.result.start +
    c.top_of-place.result.locals + c.args.first = omega (arith, a, b, d) in
    let same : (part c.self.inside.words.items (c.from.result + c.from-2.result + c.from-3.result) c.from-5.result) ≡
    slice_range top.operands c.args.first (c.args.first + c.args.count) =
    ap (λ k. part c.self.inside.words.items k c.from-5.result) place ∙ ap
    (λ k. part c.self.inside.words.items (c.top_of-place.result.start + c.top_of-place.result.locals +
    c.args.first) k) h
    ∙ sub_part c.self.inside.words.items (c.top_of-place.result.start + c.top_of-place.result.locals)
    c.top_of-place.result.operands c.args.first c.args.count (omega (arith, l, m, has))
    ∙ ap (λ (x : Frame). take c.args.count (drop c.args.first x.operands)) own
    ∙ ap (λ k. take k (drop c.args.first top.operands)) (sym count) in
    subst (λ arguments. IsPushed c.args.self.now c.args.header c.args.size arguments
    (record {
      frames = frames_in c.copy_arguments.new.words.items c.push_reserved.new.self.items;
      most_frames =
          c.self.inside.most_frames;
      most_words = c.self.inside.most_words;
    })) same
    (is_pushed c.self.inside.places.items c.self.inside.words.items (sizes c.self.inside) c.self.invariant
    (record {
      header = c.args.header;
      start = c.self.inside.used;
      locals = c.args.size.locals;
      operands =
          c.args.size.operands;
    }) c.push_reserved.new.self.items
    (part c.self.inside.words.items (c.from.result + c.from-2.result + c.from-3.result) c.from-5.result)
    c.copy_arguments.new.words.items refl (left_for c.self.inside.places.items c.self.inside.words.items
    (sizes c.self.inside) c.self.invariant c.args.self.now c.args.size c.self.view_is c.requires.room)
    c.push_reserved.ensures.items
    (let n : length (part c.self.inside.words.items (c.from.result + c.from-2.result + c.from-3.result)
    c.from-5.result) ≡ c.from-5.result = part_length c.self.inside.words.items
    (c.from.result + c.from-2.result + c.from-3.result) c.from-5.result
    (omega (arith, l, m, has, a, b, d, h, ends, z, w)) in
    let fit = c.requires.fit in omega (arith, n, h, fit))
    (c.copy_arguments.ensures.items ∙ ap (λ k. put_at c.self.inside.words.items k
    (part c.self.inside.words.items (c.from.result + c.from-2.result + c.from-3.result) c.from-5.result)) g)
    c.args.self.now c.args.header c.args.size c.self.view_is refl refl refl)
