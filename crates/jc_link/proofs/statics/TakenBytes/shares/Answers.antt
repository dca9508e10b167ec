use Rattle.std.proofs.Common.{ap, sym, ◌∙◌}
use Rattle.jc_base.specs.NumberSet.{has_number}
use Rattle.jc_link.proofs.SharedBytes.{first_shared, second_shared, none_shared}
use Rattle.jc_link.proofs.statics.TakenBytes.shares.Goals as goal

pub returns-then-is_twice : goal.returns-then-is_twice
returns-then-is_twice c all are among h =
    let has = c.is_twice.ensures ∙ ap (has_number c.args.self.now.twice) c.first_byte.ensures in
    c.if-is_twice.true
    ∙ first_shared c.args.self.now all c.args.field.now are among h (sym has ∙ c.if-is_twice.true)

pub returns-in-Some : goal.returns-in-Some
returns-in-Some c all are among h =
    let has = c.is_twice.ensures ∙ ap (has_number c.args.self.now.twice) c.first_byte.ensures in
    c.is_twice-in-Some.ensures
    ∙ second_shared c.args.self.now all c.args.field.now are among h c.in-Some.second (sym has ∙ c.if-is_twice.false)
    (sym c.in-Some.ensures)

pub returns-in-None : goal.returns-in-None
returns-in-None c all are among h =
    let has = c.is_twice.ensures ∙ ap (has_number c.args.self.now.twice) c.first_byte.ensures in
    none_shared c.args.self.now all c.args.field.now are among h (sym has ∙ c.if-is_twice.false) (sym c.in-None.ensures)
