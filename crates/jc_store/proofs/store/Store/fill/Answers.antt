use Rattle.std.proofs.Common.{ℕ, ◌+◌, List, length, replicate, ap, ◌∙◌, arith}
use Rattle.std.proofs.lemmas.List.{length-replicate}
use Rattle.jc_store.specs.Blocks.{put_over}
use Rattle.jc_store.proofs.Blocks.{block_within, kept_back, put_back, same_within}
use Rattle.jc_store.proofs.store.Store.fill.Goals as goal

pub fill_part-requires : goal.fill_part-requires
fill_part-requires c =
    let there = c.requires.there in let head = c.head_at-head.result in
    let within = block_within c.self.invariant c.self.view_is c.args.number c.args.index c.args.count there.object
    c.deref.result.now head there.is there.within c.deref.ensures.value c.head_at-head.ensures in
    let n = ap (λ (xs : List ℕ). length xs) c.deref_mut.ensures.value in
    record { within = omega (arith, within, n) }

pub invariant_of-self : goal.invariant_of-self
invariant_of-self c =
    let there = c.requires.there in let head = c.head_at-head.result in
    kept_back c.self.invariant c.self.view_is c.args.number c.args.index c.args.count there.object c.deref.result.now
    head there.is there.within c.deref.ensures.value c.head_at-head.ensures c.fill_part.new.cells
    (replicate c.args.count c.args.word) (length-replicate c.args.count c.args.word)
    (c.fill_part.ensures
    ∙ ap (λ (xs : List ℕ). put_over xs (head.start + c.args.index) (replicate c.args.count c.args.word))
    c.deref_mut.ensures.value)

pub returns : goal.returns
returns c object at =
    let there = c.requires.there in let head = c.head_at-head.result in
    put_back c.self.invariant c.self.view_is c.args.number c.args.index c.args.count object c.deref.result.now head at
    (same_within c.args.self.now.objects c.args.number there.object object
    (c.args.index + c.args.count) there.is at there.within) c.deref.ensures.value
    c.head_at-head.ensures c.fill_part.new.cells (replicate c.args.count c.args.word)
    (length-replicate c.args.count c.args.word)
    (c.fill_part.ensures
    ∙ ap (λ (xs : List ℕ). put_over xs (head.start + c.args.index) (replicate c.args.count c.args.word))
    c.deref_mut.ensures.value)
