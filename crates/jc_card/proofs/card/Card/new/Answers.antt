use Rattle.std.proofs.Common.{◌∙◌, ap, refl, sym}
use Rattle.jc_firewall.specs.Verdict.{runtime}
use Rattle.jc_machine.specs.Accepted.{api_alone}
use Rattle.jc_machine.specs.Step.{no_frame}
use Rattle.jc_machine.specs.Runtime.{new_heap}
use Rattle.jc_store.specs.Store.{Store}
use Rattle.jc_card.specs.New.{new_card}
use Rattle.jc_card.proofs.NewCards.{api_numbers, holds_new, own_room}
use Rattle.jc_card.proofs.card.Card.new.Goals as goal

pub invariant_of-result : goal.invariant_of-result
invariant_of-result c =
    let bound = c.args.binding.now in
    let clash = c.has_no_clash.ensures in record {
      card = new_card c.args.limits bound;
      holds = holds_new c.args.limits c.is_word.ensures bound c.in_ok-store.store _ (record {
        world = c.in_ok-world.ensures;
        program = c.in_ok-program.ensures;
        own = c.make_own_objects.ensures.made;
        objects = ap (λ (s : Store). s.most_objects) c.in_ok-store.ensures;
        cells = ap (λ (s : Store). s.most_cells) c.in_ok-store.ensures;
        frames = c.in_ok-frames.ensures;
        statics = c.new-5.ensures;
        kept = c.new-6.ensures;
        selected = refl;
        most_objects = refl;
        most_cells = refl;
        steps = refl;
      }) (c.accepted_worlds_grow.ensures.api bound clash) (no_frame runtime)
          (c.new_machines_are_typed.ensures.beside bound clash (no_frame runtime))
          (c.calls_keep_fitting.ensures.new (api_alone bound) new_heap);
    }

pub returns-clause-new : goal.returns-clause-new
returns-clause-new c =
    let bound = c.args.binding.now in
    let clash = c.has_no_clash.ensures in
    holds_new c.args.limits c.is_word.ensures bound c.in_ok-store.store _ (record {
      world = c.in_ok-world.ensures;
      program = c.in_ok-program.ensures;
      own = c.make_own_objects.ensures.made;
      objects = ap (λ (s : Store). s.most_objects) c.in_ok-store.ensures;
      cells = ap (λ (s : Store). s.most_cells) c.in_ok-store.ensures;
      frames = c.in_ok-frames.ensures;
      statics = c.new-5.ensures;
      kept = c.new-6.ensures;
      selected = refl;
      most_objects = refl;
      most_cells = refl;
      steps = refl;
    }) (c.accepted_worlds_grow.ensures.api bound clash) (no_frame runtime)
    (c.new_machines_are_typed.ensures.beside bound clash (no_frame runtime))
    (c.calls_keep_fitting.ensures.new (api_alone bound) new_heap)

pub make_own_objects-requires-clause-numbers : goal.make_own_objects-requires-clause-numbers
make_own_objects-requires-clause-numbers c =
    let bound = c.args.binding.now in
    api_numbers bound c.in_ok-world.world c.in_ok-program.program c.in_ok-world.ensures
    (c.accepted_worlds_grow.ensures.api bound c.has_no_clash.ensures) c.in_ok-program.ensures c.program_laws.ensures
    c.built_worlds_have_the_api.ensures

pub make_own_objects-requires-clause-room : goal.make_own_objects-requires-clause-room
make_own_objects-requires-clause-room c =
    own_room c.args.limits c.in_ok-store.store (sym c.are_limits.ensures ∙ c.if-not-are_limits.false)
    (ap (λ (s : Store). s.most_objects) c.in_ok-store.ensures) (ap (λ (s : Store). s.most_cells) c.in_ok-store.ensures)
