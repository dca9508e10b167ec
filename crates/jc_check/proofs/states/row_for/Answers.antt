use Rattle.std.proofs.Common.{Some, None, cond, ap, sym, ◌∙◌, nat_lt, rules}
use Rattle.std.proofs.lemmas.Bool.{eq-eqb, ne_eqb}
use Rattle.std.proofs.lemmas.List.Sorted.{IsPartitionPoint-from_clause}
use Rattle.std.specs.Option.{option_map}
use Rattle.jc_cert.specs.Cert.{row}
use Rattle.jc_check.proofs.Rows.{few_states, if_for, parted, row_at_cut}
use Rattle.jc_check.proofs.states.row_for.Goals as goal

pub returns-in_err-found-clause-found : goal.returns-in_err-found-clause-found
returns-in_err-found-clause-found c =
    let point = IsPartitionPoint-from_clause (λ m. nat_lt m.offset c.args.offset) _ _ c.partition_point-place.ensures.partitioned (parted c.args.of.now 0 c.args.offset c.requires.ascend) (λ a r q k. search rules) in
    let cut = row_at_cut c.args.of.now 0 c.partition_point-place.result c.args.offset c.requires.ascend point.0 point.1 in
    rw c.from_residual.ensures (ap (λ o. option_map row (if_for c.args.offset o)) c.in_err-found.ensures ∙ sym cut)

pub returns-then-found-offset-clause-found : goal.returns-then-found-offset-clause-found
returns-then-found-offset-clause-found c =
    let point = IsPartitionPoint-from_clause (λ m. nat_lt m.offset c.args.offset) _ _ c.partition_point-place.ensures.partitioned (parted c.args.of.now 0 c.args.offset c.requires.ascend) (λ a r q k. search rules) in
    let cut = row_at_cut c.args.of.now 0 c.partition_point-place.result c.args.offset c.requires.ascend point.0 point.1 in
    ap (λ b. option_map row (cond b (Some c.in_ok-found.found.now) None)) (sym (eq-eqb c.in_ok-found.found.now.offset c.args.offset c.if-found-offset.true)) ∙ ap (λ o. option_map row (if_for c.args.offset o)) c.in_ok-found.ensures ∙ sym cut

pub returns-then-found-offset-clause-count : goal.returns-then-found-offset-clause-count
returns-then-found-offset-clause-count c = few_states c.args.of.now c.partition_point-place.result c.in_ok-found.found.now c.requires.each (sym c.in_ok-found.ensures)

pub returns-else-found-offset-clause-found : goal.returns-else-found-offset-clause-found
returns-else-found-offset-clause-found c =
    let point = IsPartitionPoint-from_clause (λ m. nat_lt m.offset c.args.offset) _ _ c.partition_point-place.ensures.partitioned (parted c.args.of.now 0 c.args.offset c.requires.ascend) (λ a r q k. search rules) in
    let cut = row_at_cut c.args.of.now 0 c.partition_point-place.result c.args.offset c.requires.ascend point.0 point.1 in
    ap (λ b. option_map row (cond b (Some c.in_ok-found.found.now) None)) (sym (ne_eqb c.in_ok-found.found.now.offset c.args.offset c.if-found-offset.false)) ∙ ap (λ o. option_map row (if_for c.args.offset o)) c.in_ok-found.ensures ∙ sym cut
