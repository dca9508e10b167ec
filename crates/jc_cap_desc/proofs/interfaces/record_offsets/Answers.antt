use Rattle.std.proofs.Common.{refl}
use Rattle.jc_cap_desc.specs.PrivateInterfaceRows.{is_interface_record}
use Rattle.jc_cap_desc.specs.PrivateRecordRows.{is_any_record}
use Rattle.jc_cap_desc.proofs.Passing.{passed_more, put_marks}
use Rattle.jc_cap_desc.proofs.interfaces.record_offsets.Goals as goal

pub loop-placed-preserved : goal.loop-placed-preserved
loop-placed-preserved c =
    let far = c.loop-placed.invariant in
    let front = c.in-Some.ensures.some in
    record {
      all = passed_more is_any_record _ _ _ _ _ _ _ c.in-Some.placed _ far.all front refl
          (put_marks _ _ _ c.put.ensures) c.put.ensures;
      interfaces = passed_more is_interface_record _ _ _ _ _ _ _ c.in-Some.placed _ far.interfaces front
          c.is_interface.ensures c.mark.ensures c.put.ensures;
    }
