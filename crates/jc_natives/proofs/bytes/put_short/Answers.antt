use Rattle.std.proofs.Common.{ℕ, [], ◌∷◌, ap, ◌∙◌, arith}
use Rattle.jc_natives.specs.Cells.{high, low}
use Rattle.jc_natives.proofs.Parts.{put_part}
use Rattle.jc_natives.proofs.bytes.put_short.Goals as goal
use Rattle.jc_store.specs.Blocks.{with_cells}
use Rattle.jc_store.specs.Heap.{Heap, with_object}
use Rattle.jc_store.specs.Store.{with_objects}

pub returns : goal.returns
returns c =
    let there = c.requires.there in
    let s = c.args.store.now in
    let within = there.within in
    let object = there.object in
    c.put_bytes.ensures object there.is
    ∙ ap (λ (objects : Heap ℕ). with_objects s objects)
    (ap (λ k. with_object s.objects c.args.number (with_cells object k (c.high.result ∷ c.low.result ∷ [])))
    c.from.ensures
    ∙ ap (λ b. with_object s.objects c.args.number (with_cells object c.args.from (b ∷ c.low.result ∷ [])))
    c.high.ensures
    ∙ ap (λ b. with_object s.objects c.args.number (with_cells object c.args.from (high c.args.word ∷ b ∷ [])))
    c.low.ensures
    ∙ put_part s.objects c.args.number c.args.from (high c.args.word ∷ low c.args.word ∷ []) object there.is
    (omega (arith, within)))
