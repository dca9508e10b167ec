use Rattle.std.proofs.Common.{ℕ, List, ap, ◌∙◌, arith}
use Rattle.jc_natives.specs.PrivateCells.{cells_from}
use Rattle.jc_natives.proofs.Parts.{put_part, words_in}
use Rattle.jc_natives.proofs.Ranges.{length_of_words}
use Rattle.jc_natives.proofs.bytes.copy_words.Goals as goal
use Rattle.jc_store.specs.Blocks.{part_in, with_cells}
use Rattle.jc_store.specs.Heap.{Heap, with_object}
use Rattle.jc_store.specs.Store.{with_objects}

pub returns : goal.returns
returns c =
    let from = c.requires.source_there in
    let to = c.requires.target_there in
    let s = c.args.store.now in
    let words = cells_from s.objects c.args.source c.args.source_from c.args.count in
    let n = length_of_words s.objects c.args.source c.args.source_from c.args.count in
    let within = to.within in
    c.copy.ensures from.object to.object from.is to.is
    ∙ ap (λ (objects : Heap ℕ). with_objects s objects)
    (ap (λ k. with_object s.objects c.args.target
    (with_cells to.object k (part_in from.object c.from.result c.from-3.result))) c.from-2.ensures
    ∙ ap (λ (ws : List ℕ). with_object s.objects c.args.target (with_cells to.object c.args.target_from ws))
    (ap (λ k. part_in from.object k c.from-3.result) c.from.ensures
    ∙ ap (part_in from.object c.args.source_from) c.from-3.ensures
    ∙ words_in s.objects c.args.source c.args.source_from c.args.count from.object from.is from.within)
    ∙ put_part s.objects c.args.target c.args.target_from words to.object to.is (omega (arith, n, within)))
