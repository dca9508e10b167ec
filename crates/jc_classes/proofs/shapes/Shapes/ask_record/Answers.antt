use Rattle.std.proofs.Common.{◌∙◌}
use Rattle.jc_classes.proofs.Asking.{asked_before, not_asked}
use Rattle.jc_classes.proofs.shapes.Shapes.ask_record.Goals as goal

pub loop-place-preserved : goal.loop-place-preserved
loop-place-preserved c =
    let put = c.put.ensures in
    let so_far = c.loop-place.invariant in record {
      full = put.full;
      most = put.most ∙ so_far.most;
      before = λ t less. asked_before c.args.walked.now c.loop-place.walked c.put.new.self c.loop-place.place
          so_far.others put.others _ so_far.before (rw c.record_visit-visit.ensures at put.here) t less;
      others = λ t least. not_asked c.args.walked.now c.loop-place.walked c.put.new.self c.loop-place.place
          so_far.others put.others t least;
    }
