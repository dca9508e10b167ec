use Rattle.jc_classes.proofs.Filling.{both_further, both_settled}
use Rattle.jc_classes.proofs.shapes.Shapes.fill_each.Goals as goal

pub loop-index-preserved : goal.loop-index-preserved
loop-index-preserved c = record {
  further = both_further c.args.self.now c.args.tables.now c.args.made.now c.loop-index.made c.fill.new.made c.loop-index.changed c.in_ok-filled.filled c.loop-index.invariant.further c.in_ok-filled.ensures.further;
  settled = both_settled c.args.self.now c.args.tables.now c.loop-index.made c.fill.new.made c.loop-index.changed c.in_ok-filled.filled c.loop-index.index c.loop-index.invariant.settled c.in_ok-filled.ensures.further c.in_ok-filled.ensures.settled;
}
