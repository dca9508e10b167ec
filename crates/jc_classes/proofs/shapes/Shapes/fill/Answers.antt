use Rattle.std.proofs.Common.{◌≡◌, ◌+◌, false, length, Some, None, subst, sym, arith}
use Rattle.jc_classes.proofs.Filling.{map_ok, last_home, one_settled, none_settled}
use Rattle.jc_classes.specs.PrivateTables.{IsSettled, AreSettled, name_placed}
use Rattle.jc_classes.proofs.shapes.Shapes.fill.Goals as goal

pub fill_class-requires-clause-last : goal.fill_class-requires-clause-last
fill_class-requires-clause-last c = grind (arith, last_home, length, Some)

pub returns-in-Some-clause-settled : goal.returns-in-Some-clause-settled
returns-in-Some-clause-settled c =
    map_ok (λ changed. changed ≡ false → IsSettled c.args.self.now c.args.tables.now c.fill_class.new.made c.in-Some.class)
    (λ changed. changed ≡ false → AreSettled c.args.self.now c.args.tables.now c.fill_class.new.made c.args.index (c.args.index + 1)) c.fill_class.result
    (λ changed s e. one_settled c.args.self.now c.args.tables.now c.fill_class.new.made c.args.index c.in-Some.class c.requires.making.small
    (subst (λ home. name_placed c.args.self.now home c.args.index ≡ Some c.in-Some.class) c.new.ensures (sym c.in-Some.ensures)) (s e)) c.fill_class.ensures.settled

pub returns-in-None-clause-settled : goal.returns-in-None-clause-settled
returns-in-None-clause-settled c e = grind (arith, none_settled, None)
