use Rattle.std.proofs.Common.{◌++◌, append-nil, drop, slice_get, sym, ap, ◌∙◌, arith}
use Rattle.std.proofs.Math.ListN.{drop_of_length-le}
use Rattle.jc_cap_desc.specs.Shape.{Shape}
use Rattle.jc_program.specs.Classes.{StandAtWords, names_from}
use Rattle.jc_program.proofs.Naming.{package_more}
use Rattle.jc_program.proofs.Wording.{each_and_next, holds_of_all}
use Rattle.jc_program.proofs.classes.names_of.Goals as goal

pub loop-at-init : goal.loop-at-init
loop-at-init c = grind arith

pub loop-at-preserved : goal.loop-at-preserved
loop-at-preserved c = grind (arith, drop, slice_get, package_more, each_and_next)

pub returns : goal.returns
returns c =
    let world = c.args.table.now in
    let at = c.loop-at.at in
    let names = c.loop-at.names.items in
    let so_far = c.loop-at.invariant in record {
      names = sym (append-nil names)
          ∙ ap (λ shapes. names ++ names_from at shapes)
          (sym (drop_of_length-le world (omega (arith, c.loop-at-test.false, c.len-at-end.ensures.count))))
          ∙ so_far.names;
      offsets = λ home place shape k there.
          holds_of_all (λ (s : Shape). StandAtWords s.classes) world at so_far.offsets
          (omega (arith, c.loop-at-test.false, c.len-at-end.ensures.count)) home shape there place k;
      small = c.len-at-end.ensures.small;
    }
