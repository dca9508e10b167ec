use Rattle.std.proofs.Common.{◌+◌, length, ◌∙◌, arith}
use Rattle.std.proofs.lemmas.List.{length-map}
use Rattle.std.proofs.lemmas.Option.{slice_get-get_or}
use Rattle.jc_store.specs.PrivateLaid.{headers_of, object_in, objects_in}
use Rattle.jc_store.proofs.Blanking.{all_cleared, none_cleared, within_still}
use Rattle.jc_store.proofs.Rows.{count_of, header_at, heads_count, lies_within}
use Rattle.jc_store.proofs.clearing.clear_objects.Goals as goal

pub loop-place-init : goal.loop-place-init
loop-place-init c = none_cleared
    (headers_of c.args.heads.now c.args.rests.now) c.args.event c.args.context c.args.cells.now

pub clear_if-requires : goal.clear_if-requires
clear_if-requires c =
    let low = c.loop-place-test.true in
    let k = count_of c.args.heads.now c.args.rests.now c.requires.rows in
    let m = heads_count c.args.heads.now c.args.rests.now c.requires.rows in
    record {
      within = lies_within c.args.heads.now c.args.rests.now (length c.loop-place.cells) c.loop-place.place _
          (within_still (headers_of c.args.heads.now c.args.rests.now) c.args.event c.args.context c.loop-place.place
          c.args.cells.now c.loop-place.cells c.requires.within c.loop-place.invariant)
          low (slice_get-get_or c.args.heads.now (c.loop-place.place + 1) _ (omega (arith, low, k, m)));
    }

pub loop-place-preserved : goal.loop-place-preserved
loop-place-preserved c =
    let low = c.loop-place-test.true in
    let k = count_of c.args.heads.now c.args.rests.now c.requires.rows in
    let m = heads_count c.args.heads.now c.args.rests.now c.requires.rows in
    c.clear_if.ensures (headers_of c.args.heads.now c.args.rests.now) c.loop-place.place c.args.cells.now
    (within_still (headers_of c.args.heads.now c.args.rests.now) c.args.event c.args.context c.loop-place.place
    c.args.cells.now c.loop-place.cells c.requires.within c.loop-place.invariant)
    (header_at c.args.heads.now c.args.rests.now c.loop-place.place _ _
    (slice_get-get_or c.args.heads.now (c.loop-place.place + 1) _ (omega (arith, low, k, m)))
    (slice_get-get_or c.args.rests.now c.loop-place.place _ low))
    c.loop-place.invariant

pub returns-clause-cleared : goal.returns-clause-cleared
returns-clause-cleared c =
    let n = length-map (headers_of c.args.heads.now c.args.rests.now) (object_in c.args.cells.now) in
    let k = count_of c.args.heads.now c.args.rests.now c.requires.rows in
    let past = c.loop-place-test.false in
    c.loop-place.invariant.objects
    ∙ all_cleared c.args.event c.args.context
    (objects_in c.args.cells.now (headers_of c.args.heads.now c.args.rests.now)) c.loop-place.place
    (omega (arith, n, k, past))

pub returns-clause-behind : goal.returns-clause-behind
returns-clause-behind c = c.loop-place.invariant.behind
