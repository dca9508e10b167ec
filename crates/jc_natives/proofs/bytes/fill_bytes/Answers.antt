use Rattle.std.proofs.Common.{ℕ, replicate, ap, ◌∙◌, arith}
use Rattle.std.proofs.lemmas.List.{length-replicate}
use Rattle.jc_natives.proofs.Parts.{put_part}
use Rattle.jc_natives.proofs.bytes.fill_bytes.Goals as goal
use Rattle.jc_store.specs.Blocks.{with_cells}
use Rattle.jc_store.specs.Heap.{Heap, with_object}
use Rattle.jc_store.specs.Store.{with_objects}

pub returns : goal.returns
returns c =
    let there = c.requires.there in
    let s = c.args.store.now in
    let byte = c.args.byte in
    let n = length-replicate c.args.count byte in
    let within = there.within in
    c.fill.ensures there.object there.is
    ∙ ap (λ (objects : Heap ℕ). with_objects s objects)
    (ap (λ k. with_object s.objects c.args.number (with_cells there.object k (replicate c.from-2.result byte)))
    c.from.ensures
    ∙ ap (λ k. with_object s.objects c.args.number (with_cells there.object c.args.from (replicate k byte)))
    c.from-2.ensures
    ∙ put_part s.objects c.args.number c.args.from (replicate c.args.count byte) there.object there.is
    (omega (arith, n, within)))
