use Rattle.std.proofs.Common.{ℕ, ◌+◌, List, length, refl, ap, ◌∙◌, arith}
use Rattle.jc_store.specs.Blocks.{put_over}
use Rattle.jc_store.proofs.Blocks.{block_within, kept_back, put_back, same_within}
use Rattle.jc_store.proofs.store.Store.put_bytes.Goals as goal

pub put_part-requires : goal.put_part-requires
put_part-requires c =
    let there = c.requires.there in let head = c.head_at-head.result in
    let within = block_within c.self.invariant c.self.view_is c.args.number c.args.index (length c.args.bytes.now)
    there.object c.deref.result.now head there.is there.within c.deref.ensures.value c.head_at-head.ensures in
    let n = ap (λ (xs : List ℕ). length xs) c.deref_mut.ensures.value in
    record { within = omega (arith, within, n) }

pub invariant_of-self : goal.invariant_of-self
invariant_of-self c =
    let there = c.requires.there in let head = c.head_at-head.result in
    kept_back c.self.invariant c.self.view_is c.args.number c.args.index (length c.args.bytes.now) there.object
    c.deref.result.now head there.is there.within c.deref.ensures.value c.head_at-head.ensures c.put_part.new.cells
    c.args.bytes.now refl
    (c.put_part.ensures
    ∙ ap (λ (xs : List ℕ). put_over xs (head.start + c.args.index) c.args.bytes.now) c.deref_mut.ensures.value)

pub returns : goal.returns
returns c object at =
    let there = c.requires.there in let head = c.head_at-head.result in
    put_back c.self.invariant c.self.view_is c.args.number c.args.index (length c.args.bytes.now) object
    c.deref.result.now head at
    (same_within c.args.self.now.objects c.args.number there.object object
    (c.args.index + length c.args.bytes.now) there.is at there.within)
    c.deref.ensures.value c.head_at-head.ensures c.put_part.new.cells c.args.bytes.now refl
    (c.put_part.ensures
    ∙ ap (λ (xs : List ℕ). put_over xs (head.start + c.args.index) c.args.bytes.now) c.deref_mut.ensures.value)
