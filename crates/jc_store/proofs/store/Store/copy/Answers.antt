use Rattle.std.proofs.Common.{ℕ, ◌+◌, List, length, slice_range, ap, ◌∙◌, arith}
use Rattle.jc_store.specs.Blocks.{part_in, put_over}
use Rattle.jc_store.proofs.Blocks.{block_at, block_within, kept_back, part_count, put_back, same_within}
use Rattle.jc_store.proofs.store.Store.copy.Goals as goal

pub copy_part-requires-clause-source_within : goal.copy_part-requires-clause-source_within
copy_part-requires-clause-source_within c =
    let source = c.requires.source in
    let within = block_within c.self.invariant c.self.view_is c.args.source c.args.source_index c.args.count
    source.object c.deref.result.now c.head_at-from.result source.is source.within c.deref.ensures.value
    c.head_at-from.ensures in
    let n = ap (λ (xs : List ℕ). length xs) c.deref_mut.ensures.value in
    omega (arith, within, n)

pub copy_part-requires-clause-target_within : goal.copy_part-requires-clause-target_within
copy_part-requires-clause-target_within c =
    let target = c.requires.target in
    let within = block_within c.self.invariant c.self.view_is c.args.target c.args.target_index c.args.count
    target.object c.deref-2.result.now c.head_at-to.result target.is target.within c.deref-2.ensures.value
    c.head_at-to.ensures in
    let n = ap (λ (xs : List ℕ). length xs) c.deref_mut.ensures.value in
    omega (arith, within, n)

pub invariant_of-self : goal.invariant_of-self
invariant_of-self c =
    let source = c.requires.source in let target = c.requires.target in
    let from = c.head_at-from.result in let to = c.head_at-to.result in
    kept_back c.self.invariant c.self.view_is c.args.target c.args.target_index c.args.count target.object
    c.deref-2.result.now to target.is target.within c.deref-2.ensures.value c.head_at-to.ensures c.copy_part.new.cells
    (part_in source.object c.args.source_index c.args.count)
    (part_count source.object c.args.source_index c.args.count source.within)
    (c.copy_part.ensures
    ∙ ap (λ (xs : List ℕ). put_over xs (to.start + c.args.target_index)
    (slice_range xs (from.start + c.args.source_index)
    (from.start + c.args.source_index + c.args.count)))
    c.deref_mut.ensures.value
    ∙ ap (λ (xs : List ℕ). put_over c.self.inside.cells.items (to.start + c.args.target_index) xs)
    (block_at c.self.invariant c.self.view_is c.args.source c.args.source_index c.args.count
    source.object c.deref.result.now from source.is source.within c.deref.ensures.value c.head_at-from.ensures))

pub returns : goal.returns
returns c source_object target_object source_at target_at =
    let source = c.requires.source in let target = c.requires.target in
    let from = c.head_at-from.result in let to = c.head_at-to.result in
    let source_fits = same_within c.args.self.now.objects c.args.source source.object source_object
    (c.args.source_index + c.args.count) source.is source_at source.within in
    let target_fits = same_within c.args.self.now.objects c.args.target target.object target_object
    (c.args.target_index + c.args.count) target.is target_at target.within in
    put_back c.self.invariant c.self.view_is c.args.target c.args.target_index c.args.count target_object
    c.deref-2.result.now to target_at target_fits c.deref-2.ensures.value c.head_at-to.ensures c.copy_part.new.cells
    (part_in source_object c.args.source_index c.args.count)
    (part_count source_object c.args.source_index c.args.count source_fits)
    (c.copy_part.ensures
    ∙ ap (λ (xs : List ℕ). put_over xs (to.start + c.args.target_index)
    (slice_range xs (from.start + c.args.source_index)
    (from.start + c.args.source_index + c.args.count)))
    c.deref_mut.ensures.value
    ∙ ap (λ (xs : List ℕ). put_over c.self.inside.cells.items (to.start + c.args.target_index) xs)
    (block_at c.self.invariant c.self.view_is c.args.source c.args.source_index c.args.count source_object
    c.deref.result.now from source_at source_fits c.deref.ensures.value c.head_at-from.ensures))
