use Rattle.std.proofs.Common.{length-set, set, Option, ℕ, Some, ◌+◌, sym, ap, subst, ◌∙◌, arith}
use Rattle.std.proofs.lemmas.Option.{slice_get-get_or}
use Rattle.jc_program.specs.PrivateLaid.{AreForgotten, place_at}
use Rattle.jc_program.proofs.Numbering.{forgotten_all, no_place, place_forgotten}
use Rattle.jc_program.proofs.numbers.forget_places.Goals as goal

pub loop-at-preserved : goal.loop-at-preserved
loop-at-preserved c =
    let places = c.loop-at.places.items in
    let at = c.loop-at.at in
    let old = c.args.places.now.items in
    let so_far = c.loop-at.invariant in
    record {
      count = length-set places at c.forget.new.self ∙ so_far.count;
      done = subst (λ (o : Option ℕ). AreForgotten c.args.count (at + 1) (λ i none. place_at old i)
          (λ i none. place_at (set places at o) i)) (sym c.forget.ensures)
          (place_forgotten c.args.count at old places c.index_mut.result.now so_far.done
          (slice_get-get_or places at c.index_mut.result.now (omega arith) ∙ sym (ap Some c.index_mut.ensures.value)));
    }

pub returns : goal.returns
returns c = λ i.
    let old = c.args.places.now.items in
    forgotten_all c.args.count c.loop-at.at (λ i none. place_at old i) (λ i none. place_at c.loop-at.places.items i)
    c.loop-at.invariant.done (λ i none past. no_place old i (omega (arith, past))) i 0
