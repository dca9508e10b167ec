use Rattle.std.proofs.Common.{◌==◌, subst, sym}
use Rattle.jc_link.proofs.SharedBytes.{one_taken, two_taken}
use Rattle.jc_link.specs.PrivateStatics.{WereTaken}
use Rattle.jc_link.proofs.statics.TakenBytes.take_field.Goals as goal

pub returns-in-Some : goal.returns-in-Some
returns-in-Some c =
    let first =
    subst (λ o. WereTaken (λ n. n == o) c.args.self.now c.take_byte.new.self) c.first_byte.ensures
    c.take_byte.ensures in
    two_taken c.args.field.now c.in-Some.second c.args.self.now c.take_byte.new.self c.take_byte-in-Some.new.self
    (sym c.in-Some.ensures) first c.take_byte-in-Some.ensures

pub returns-in_default : goal.returns-in_default
returns-in_default c =
    let first =
    subst (λ o. WereTaken (λ n. n == o) c.args.self.now c.take_byte.new.self) c.first_byte.ensures
    c.take_byte.ensures in
    one_taken c.args.field.now c.args.self.now c.take_byte.new.self (sym c.in_default.ensures) first
