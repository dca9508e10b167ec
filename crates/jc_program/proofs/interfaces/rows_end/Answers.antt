use Rattle.std.proofs.Common.{◌+◌, ◌≤◌, None, arith}
use Rattle.std.proofs.lemmas.Bool.Decides.{nat_tests}
use Rattle.std.proofs.lemmas.Option.{slice_get_within}
use Rattle.jc_program.proofs.Calling.{more_within}
use Rattle.jc_program.specs.declared.interfaces.ListingClass.{ListingClass}
use Rattle.jc_program.proofs.interfaces.rows_end.Goals as goal

pub loop-class-preserved : goal.loop-class-preserved
loop-class-preserved c =
    let end = c.max-end.result in
    more_within (λ (k : ListingClass). k.start + k.count ≤ end) c.args.classes.now c.loop-class.class-index
    (record { start = 0; count = 0; superclass = None })
    (omega (arith, c.loop-class-test.true))
    (λ n k low at. let b = c.loop-class.invariant n k low at in grind (arith, nat_tests, b, c.max-end.ensures))
    (grind (arith, nat_tests, c.max-end.ensures, c.row_end.ensures))

pub returns : goal.returns
returns c n k at = grind (arith, slice_get_within)
