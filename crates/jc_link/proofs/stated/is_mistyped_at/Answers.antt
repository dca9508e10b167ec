use Rattle.std.proofs.Common.{ap, sym, slice_get, ◌∙◌}
use Rattle.jc_link.proofs.Names.{entry_name}
use Rattle.jc_link.proofs.stated.is_mistyped_at.Goals as goal

pub is_mistyped-requires : goal.is_mistyped-requires
is_mistyped-requires c = record {
  named = entry_name c.args.table.now c.args.home c.args.linked.now.body.pool c.args.names.now c.args.index _ _
      c.requires.named
      (ap (λ pool. slice_get pool c.args.index) (sym c.pool.ensures) ∙ sym c.at.ensures ∙ c.in-Some.is)
      (sym c.name_at.ensures ∙ c.in-Some-name_at.is);
}
