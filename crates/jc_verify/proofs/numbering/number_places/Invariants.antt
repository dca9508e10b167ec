use Rattle.std.proofs.Common.{◌≡◌, vec_len, vec_capacity}
use Rattle.jc_verify.specs.PrivateSettled.{AreNumbered}
use Rattle.jc_verify.proofs.numbering.number_places.Given as goal

abbrev pub invariant-loop-pc : goal.invariant-loop-pc
invariant-loop-pc l =
    AreNumbered l.entries l.pc l.numbers.items l.places.items × (vec_len l.numbers ≡ l.pc) × (vec_capacity l.numbers ≡ l.count)
