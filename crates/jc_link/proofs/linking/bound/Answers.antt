use Rattle.std.proofs.Common.{ap, length, sym, ◌∙◌}
use Rattle.jc_link.proofs.Names.{names_lead, targets_are}
use Rattle.jc_link.proofs.Resolved.{is_last}
use Rattle.jc_link.specs.Kept.{Kept}
use Rattle.jc_link.specs.Target.{pool_targets}
use Rattle.jc_link.proofs.linking.bound.Goals as goal

pub linked_body-requires : goal.linked_body-requires
linked_body-requires c = record {
  lead = names_lead c.args.table (length c.args.world.now.shapes) c.args.linked.now.body.pool c.args.names.now
      c.requires.named c.leads.ensures.lead;
}

pub invariant_of-result : goal.invariant_of-result
invariant_of-result c =
    let linked = c.args.linked.now in
    let body = c.in_ok-body.body in
    let targets = c.in_ok-body.ensures.targets
    ∙ targets_are c.args.table (length c.args.world.now.shapes) linked.body.pool c.args.names.now c.requires.named in
    is_last c.args.world.now.shapes c.args.table linked body c.leads.ensures.built c.requires.table c.requires.fine
    c.in_ok-body.ensures.kept targets c.requires.apart c.leads.ensures.api c.requires.headers c.requires.bodies
    c.requires.installs

pub returns : goal.returns
returns c =
    let linked = c.args.linked.now in
    let home = length c.args.world.now.shapes in
    let targets = c.in_ok-body.ensures.targets
    ∙ targets_are c.args.table home linked.body.pool c.args.names.now c.requires.named in
    record {
      fine = c.requires.fine;
      world = c.requires.table;
      kept = c.in_ok-body.ensures.kept;
      targets = targets ∙ ap (λ (k : Kept). pool_targets c.args.table home k.pool) (sym c.in_ok-body.ensures.kept);
    }
