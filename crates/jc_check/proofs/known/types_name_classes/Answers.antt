use Rattle.std.proofs.Common.{subst}
use Rattle.jc_classes.specs.Subtype.{common_class, is_class_at}
use Rattle.jc_types.specs.Known.{AreKnown}
use Rattle.jc_check.proofs.Knowing.{all_small, entry_known, handler_known, names_known}
use Rattle.jc_check.specs.Package.{method_of, own_home}
use Rattle.jc_check.proofs.known.types_name_classes.Goals as goal

pub returns-clause-entry : goal.returns-clause-entry
returns-clause-entry c = λ n b at.
    let l = c.args.linked.now in
    entry_known l b c.world_laws.ensures.names (c.effects_name_classes.ensures.types (is_class_at l.world)) (c.known_laws.ensures.entries (is_class_at l.world))

pub returns-clause-caught : goal.returns-clause-caught
returns-clause-caught c = λ n b h k at has caught.
    let l = c.args.linked.now in
    handler_known l b h k c.world_laws.ensures.names (c.effects_name_classes.ensures.types (is_class_at l.world)) has caught

pub returns-clause-effects : goal.returns-clause-effects
returns-clause-effects c = λ n b at operation s t.
    let l = c.args.linked.now in
    c.effects_name_classes.ensures.effects (record { world = l.world; targets = l.body.targets; returned = (method_of l b).returned })
    (names_known l c.world_laws.ensures.names (own_home l.world) c.world_laws.ensures.resolved (method_of l b).returned) (method_of l b).max_stack operation s t

pub returns-clause-joins : goal.returns-clause-joins
returns-clause-joins c = λ s t u is one other.
    let l = c.args.linked.now in
    let names = c.world_laws.ensures.names in
    subst (AreKnown (is_class_at l.world)) is
    (c.known_laws.ensures.joins (is_class_at l.world) (common_class l.world) names.object names.common s t one other)

pub returns-clause-locals : goal.returns-clause-locals
returns-clause-locals c = λ n b at. (all_small c.args.linked.now c.frames_are_small.ensures n b at).locals

pub returns-clause-stack : goal.returns-clause-stack
returns-clause-stack c = λ n b at. (all_small c.args.linked.now c.frames_are_small.ensures n b at).stack
