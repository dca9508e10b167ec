use Rattle.std.proofs.Common.{List, ℕ, length, map, ap, sym, ◌∙◌}
use Rattle.jc_natives.specs.Cells.{low}
use Rattle.jc_natives.proofs.Parts.{words_in}
use Rattle.jc_natives.proofs.Ranges.{length_of_words}
use Rattle.jc_natives.proofs.cells.known_part.Goals as goal
use Rattle.jc_store.specs.Blocks.{part_in}

pub returns-clause-bytes : goal.returns-clause-bytes
returns-clause-bytes c =
    let there = c.requires.there in
    ap (map low) (sym (c.part.ensures there.object there.is
    ∙ ap (λ k. part_in there.object k c.from-2.result) c.from.ensures
    ∙ ap (part_in there.object c.args.from) c.from-2.ensures
    ∙ words_in c.args.store.now.objects c.args.number c.args.from c.args.count there.object there.is there.within))

pub returns-clause-len : goal.returns-clause-len
returns-clause-len c =
    let there = c.requires.there in
    let objects = c.args.store.now.objects in
    ap (λ (xs : List ℕ). length xs) (c.part.ensures there.object there.is
    ∙ ap (λ k. part_in there.object k c.from-2.result) c.from.ensures
    ∙ ap (part_in there.object c.args.from) c.from-2.ensures
    ∙ words_in objects c.args.number c.args.from c.args.count there.object there.is there.within)
    ∙ length_of_words objects c.args.number c.args.from c.args.count
