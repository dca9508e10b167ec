use Rattle.std.proofs.Common.{◌+◌, refl, ap, ◌∙◌, arith, vec_capacity, vec_len}
use Rattle.jc_frames.specs.PrivateLaid.{put_at}
use Rattle.jc_frames.proofs.Pushing.{is_pushed, left_for, one_more}
use Rattle.jc_frames.proofs.Inside.{sizes}
use Rattle.jc_frames.proofs.frames.Frames.push_frame.Goals as goal

pub overflow_add-self : goal.overflow_add-self
overflow_add-self c = let left = (left_for c.self.inside.places.items c.self.inside.words.items (sizes c.self.inside)
    c.self.invariant c.args.self.now c.args.size c.self.view_is (c.has_room.ensures.room c.if-not-has_room.false)).1
    in let few = c.self.invariant.few_words in omega (arith, few, left)

pub overflow_add-self-2 : goal.overflow_add-self-2
overflow_add-self-2 c = let left = (left_for c.self.inside.places.items c.self.inside.words.items
    (sizes c.self.inside) c.self.invariant c.args.self.now c.args.size c.self.view_is
    (c.has_room.ensures.room c.if-not-has_room.false)).1 in let few = c.self.invariant.few_words in
    let f = c.from.ensures in omega (arith, few, left, f)

pub put_arguments-requires : goal.put_arguments-requires
put_arguments-requires c =
    let left = (left_for c.self.inside.places.items c.self.inside.words.items (sizes c.self.inside) c.self.invariant
    c.args.self.now c.args.size c.self.view_is (c.has_room.ensures.room c.if-not-has_room.false)).1 in
    let f = c.from-2.ensures in let fit = c.requires in
    let n = c.self.invariant.word_count in let z = c.self.invariant.sized in
    record { within = omega (arith, left, f, fit.fit, n, z) }

pub invariant_of-self : goal.invariant_of-self
invariant_of-self c =
    let f = c.from.ensures in let g = c.from-2.ensures in
    one_more c.self.inside.places.items c.self.inside.words.items (sizes c.self.inside) c.self.invariant
    (record {
      header = c.args.header;
      start = c.self.inside.used;
      locals = c.args.size.locals;
      operands =
          c.args.size.operands;
    }) c.push_reserved.new.self.items c.args.arguments.now c.put_arguments.new.words.items
    refl (left_for c.self.inside.places.items c.self.inside.words.items (sizes c.self.inside) c.self.invariant
    c.args.self.now c.args.size c.self.view_is (c.has_room.ensures.room c.if-not-has_room.false))
    c.push_reserved.ensures.items c.requires.fit
    (c.put_arguments.ensures.items ∙ ap (λ k. put_at c.self.inside.words.items k c.args.arguments.now) g)
    (vec_len c.push_reserved.new.self) (vec_capacity c.push_reserved.new.self) (vec_len c.put_arguments.new.words)
    (c.self.inside.used + c.args.size.locals + c.from.result)
    c.push_reserved.ensures.len (let r = c.push_reserved.ensures.capacity in omega (arith, r))
    c.put_arguments.ensures.len (omega (arith, f))

pub returns-clause-pushed : goal.returns-clause-pushed
returns-clause-pushed c is =
    let g = c.from-2.ensures in
    is_pushed c.self.inside.places.items c.self.inside.words.items (sizes c.self.inside) c.self.invariant
    (record {
      header = c.args.header;
      start = c.self.inside.used;
      locals = c.args.size.locals;
      operands =
          c.args.size.operands;
    }) c.push_reserved.new.self.items c.args.arguments.now c.put_arguments.new.words.items
    refl (left_for c.self.inside.places.items c.self.inside.words.items (sizes c.self.inside) c.self.invariant
    c.args.self.now c.args.size c.self.view_is (c.has_room.ensures.room c.if-not-has_room.false))
    c.push_reserved.ensures.items c.requires.fit
    (c.put_arguments.ensures.items ∙ ap (λ k. put_at c.self.inside.words.items k c.args.arguments.now) g)
    c.args.self.now c.args.header c.args.size c.self.view_is refl refl refl
