use Rattle.std.proofs.Common.{ℕ, ap, ◌∙◌}
use Rattle.jc_natives.proofs.Parts.{put_part}
use Rattle.jc_natives.proofs.bytes.put_bytes.Goals as goal
use Rattle.jc_store.specs.Heap.{Heap}
use Rattle.jc_store.specs.Store.{with_objects}

pub returns-then-has_part : goal.returns-then-has_part
returns-then-has_part c =
    let there = c.has_part.ensures.yes c.if-has_part.true in
    let s = c.args.store.now in
    c.put_bytes.ensures there.object there.is
    ∙ ap (λ (objects : Heap ℕ). with_objects s objects)
    (put_part s.objects c.args.number c.args.from c.args.bytes.now there.object there.is there.within)
