use Rattle.std.proofs.Common.{ℕ, ◌+◌, List, length, slice_range, ap, ◌∙◌, arith}
use Rattle.jc_store.proofs.Blocks.{block_at, block_within, same_within}
use Rattle.jc_store.proofs.store.Store.part.Goals as goal

pub some_of-requires : goal.some_of-requires
some_of-requires c =
    let there = c.requires.there in
    let within = block_within c.self.invariant c.self.view_is c.args.number c.args.index c.args.count there.object
    c.deref.result.now c.head_at-head.result there.is there.within c.deref.ensures.value c.head_at-head.ensures in
    let n = ap (λ (xs : List ℕ). length xs) c.deref-2.ensures.value in
    record { within = omega (arith, within, n) }

pub returns : goal.returns
returns c object at =
    let there = c.requires.there in
    let head = c.head_at-head.result in
    let start = head.start + c.args.index in
    c.some_of.ensures
    ∙ ap (λ (xs : List ℕ). slice_range xs start (start + c.args.count)) c.deref-2.ensures.value
    ∙ block_at c.self.invariant c.self.view_is c.args.number c.args.index c.args.count object c.deref.result.now head at
    (same_within c.args.self.now.objects c.args.number there.object object (c.args.index + c.args.count) there.is at
    there.within) c.deref.ensures.value c.head_at-head.ensures
