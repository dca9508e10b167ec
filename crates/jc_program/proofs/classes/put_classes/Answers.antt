use Rattle.std.proofs.Common.{◌++◌, ◌+◌, ◌<◌, drop, refl, ap, ◌∙◌, arith}
use Rattle.std.specs.List.{filter_map}
use Rattle.jc_cap_desc.specs.Shape.{ClassShape}
use Rattle.jc_classes.specs.Members.{name_of}
use Rattle.jc_program.proofs.Naming.{all_named, one_more}
use Rattle.jc_program.proofs.Wording.{each_and_next, holds_of_all, holds_there}
use Rattle.jc_program.proofs.classes.put_classes.Goals as goal

pub loop-class-init : goal.loop-class-init
loop-class-init c = record { names = refl; offsets = λ place k less. absurd (omega (arith, less)) }

pub loop-class-preserved : goal.loop-class-preserved
loop-class-preserved c =
    let h = name_of c.args.home in
    let classes = c.args.classes.now in
    let i = c.loop-class.class-index in
    let so_far = c.loop-class.invariant in record {
      names = ap (λ names. names ++ filter_map h (drop (i + 1) classes)) c.in_ok-put_class.ensures.names
          ∙ one_more h classes c.loop-class.names.items _ i c.class-item.result so_far.names
          (omega (arith, c.loop-class-test.true)) c.class-item.is;
      offsets = each_and_next (λ (k : ClassShape). k.offset < 0x10000) classes i so_far.offsets
          (holds_there (λ (k : ClassShape). k.offset < 0x10000) classes i c.class-item.result
          (omega (arith, c.loop-class-test.true)) c.class-item.is c.put_class.ensures.offset);
    }

pub returns : goal.returns
returns c =
    let classes = c.args.classes.now in
    let i = c.loop-class.class-index in
    let so_far = c.loop-class.invariant in record {
      names = all_named (name_of c.args.home) classes c.loop-class.names.items _ i so_far.names
          (omega (arith, c.loop-class-test.false));
      offsets = holds_of_all (λ (k : ClassShape). k.offset < 0x10000) classes i so_far.offsets
          (omega (arith, c.loop-class-test.false));
    }
