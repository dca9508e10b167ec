use Rattle.std.proofs.Common.{◌≡◌, length, ap, subst, ◌∙◌, arith}
use Rattle.jc_classes.proofs.Filling.{count_in, begun, all_made}
use Rattle.jc_classes.specs.PrivateTables.{AreSettled}
use Rattle.jc_classes.proofs.shapes.Shapes.tables_of_last.Goals as goal

pub fill_all-requires-clause-making : goal.fill_all-requires-clause-making
fill_all-requires-clause-making c =
    let last : c.new-last.result ≡ length c.args.tables.now = omega (arith, c.new-last.ensures, c.len.ensures.count, c.requires.count) in
    begun c.args.self.now c.args.tables.now c.in_ok-made.made c.class_count-count.result c.len.ensures.small c.requires
    (c.class_count-count.ensures.count ∙ ap (count_in c.args.self.now) last) c.in_ok-made.ensures.room c.in_ok-made.ensures.none

pub returns : goal.returns
returns c =
    let last : c.new-last.result ≡ length c.args.tables.now = omega (arith, c.new-last.ensures, c.len.ensures.count, c.requires.count) in
    all_made c.args.self.now c.args.tables.now c.fill_all.new.made c.in_ok-fill_all.ensures.making
    (subst (AreSettled c.args.self.now c.args.tables.now c.fill_all.new.made 0) (c.class_count-count.ensures.count ∙ ap (count_in c.args.self.now) last) c.in_ok-fill_all.ensures.settled)
