use Rattle.std.proofs.Common.{refl, ap, ◌∙◌}
use Rattle.std.specs.Option.{is_some}
use Rattle.jc_cap_desc.specs.Across.{is_install_signature}
use Rattle.jc_cap_desc.specs.PrivateTypes.{is_any, is_fields}
use Rattle.jc_cap_desc.proofs.Passing.{passed_more, put_marks}
use Rattle.jc_cap_desc.proofs.type_index.TypeIndex.add.Goals as goal

pub returns : goal.returns
returns c types left so_far =
    let placed = c.args.placed.now in
    record {
      any = passed_more is_any types _ left _ _ _ _ placed _ so_far.any refl refl (put_marks _ _ _ c.put.ensures) c.put.ensures;
      fields = passed_more is_fields types _ left _ _ _ _ placed _ so_far.fields refl (c.is_some-is_field.ensures ∙ ap is_some c.field_type.ensures) c.mark.ensures c.put.ensures;
      installs = passed_more is_install_signature types _ left _ _ _ _ placed _ so_far.installs refl c.is_install_signature-is_install.ensures c.mark-2.ensures c.put.ensures;
    }
