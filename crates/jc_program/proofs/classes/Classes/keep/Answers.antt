use Rattle.std.proofs.Common.{length-take, arith}
use Rattle.jc_program.specs.PrivateClasses.{is_placed}
use Rattle.jc_program.proofs.Numbering.{numbers_first}
use Rattle.jc_program.proofs.classes.Classes.keep.Goals as goal

pub invariant_of-self : goal.invariant_of-self
invariant_of-self c =
    let f = c.self.inside in
    let count = length-take c.args.count f.names.items in
    let few = c.self.invariant.few in
    rw (c.truncate.ensures.items)
    (record {
      numbers = numbers_first is_placed f.numbers.items c.forget_numbers.new.tables.items f.names.items c.args.count
          c.self.invariant.numbers c.forget_numbers.ensures;
      few = omega (arith, count, few);
    })
