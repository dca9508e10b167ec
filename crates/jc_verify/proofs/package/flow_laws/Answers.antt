use Rattle.std.proofs.Common.{subst, sym, ap}
use Rattle.jc_cap_desc.specs.Shape.{StandApart}
use Rattle.jc_check.specs.Package.{method_of}
use Rattle.jc_verify.proofs.Naming.{keeps_names}
use Rattle.jc_verify.proofs.Tallying.{not_true, to_depth}
use Rattle.jc_verify.proofs.package.flow_laws.Goals as goal

pub returns-clause-laws : goal.returns-clause-laws
returns-clause-laws c =
    let world = c.args.linked.now.world in
    let supers = (rw c.table.ensures.table at (c.built_worlds_are_sound.ensures c.table.result.now c.len-count.ensures.small (rw c.table.ensures.table c.table.ensures.built))).superclasses in
    let order = c.order_laws.ensures.tables world supers.orderly supers.top in
    let classes = c.order_laws.ensures.lattices world supers.orderly supers.top in
    record {
      itself = c.order_laws.ensures.reflexive _ order;
      through = c.order_laws.ensures.transitive _ order;
      listing = c.listing_laws.ensures.all;
      classes = classes;
      monotone = λ m operation. c.effects_are_monotone.ensures.effects (record { world = world; targets = c.args.linked.now.body.targets; returned = m.returned }) order m.max_stack operation;
      bound = c.order_laws.ensures.bound _ _ _ _ classes;
      falls = λ depth deep s t below other.
          c.order_laws.ensures.heights _ _ _ _ (to_depth world depth deep classes) s t below
          (not_true _ (λ back. other (c.order_laws.ensures.antisymmetric _ order s t below back)));
      within = λ depth deep. c.order_laws.ensures.bound _ _ _ _ (to_depth world depth deep classes);
    }

pub returns-clause-fit : goal.returns-clause-fit
returns-clause-fit c =
    let l = c.args.linked.now in
    let world = l.world in
    let supers = (rw c.table.ensures.table at (c.built_worlds_are_sound.ensures c.table.result.now c.len-count.ensures.small (rw c.table.ensures.table c.table.ensures.built))).superclasses in
    let order = c.order_laws.ensures.tables world supers.orderly supers.top in
    let classes = c.order_laws.ensures.lattices world supers.orderly supers.top in
    let known = c.types_name_classes.ensures in
    let loaded = c.body-body.ensures.known.loaded in
    record {
      apart = subst StandApart (sym (ap (λ k. k.methods) loaded.kept_is)) loaded.apart;
      named = λ n b at.
          keeps_names l (method_of l b) (known.entry n b at) (λ h class. known.caught n b h class at) (known.effects n b at) known.joins
          (c.order_laws.ensures.joins _ _ _ _ classes) (c.order_laws.ensures.antisymmetric _ order);
      locals = known.locals;
    }
