use Rattle.std.proofs.Common.{◌≡◌, ◌+◌, length, subst, sym, ap, ◌∙◌, arith}
use Rattle.jc_link.specs.Linked.{IsBoundTo, World, with_linked}
use Rattle.jc_machine.specs.Accepted.{IsAccepted}
use Rattle.jc_safety.specs.Loading.{next_package}
use Rattle.jc_card.specs.Load.{with_package}
use Rattle.jc_card.specs.Reads.{CardWords, Holds}
use Rattle.jc_card.specs.contracts.card.Card.{the_view}
use Rattle.jc_card.proofs.Loading.{holds_behind}
use Rattle.jc_card.proofs.card.Card.put.Goals as goal

pub grow-requires-clause-tables : goal.grow-requires-clause-tables
grow-requires-clause-tables c = c.self.invariant.holds.program

pub invariant_of-self-2 : goal.invariant_of-self-2
invariant_of-self-2 c =
    let k : CardWords = the_view c.self.inside in
    let card = c.self.invariant.card in
    let h = c.self.invariant.holds in
    let room = c.requires.room card (subst (λ (x : CardWords). Holds x card) c.self.view_is h) in
    let bound = subst (λ (x : CardWords). IsBoundTo x.world c.args.linked) (sym c.self.view_is) c.requires.bound in
    let accepted = subst (λ (x : CardWords). IsAccepted (with_linked x.world c.args.linked)) (sym c.self.view_is)
    c.requires.accepted in
    let many = ap length c.bodies.ensures.bodies ∙ ap (λ (w : World). length w.bodies) h.world in
    let number : length c.bodies.result.now + 1 ≡ next_package card.world = omega (arith, many) in record {
      card = with_package card c.args.linked;
      holds = holds_behind c.loads_stay_typed.ensures c.loads_stay_in_agreement.ensures c.loads_keep_fitting.ensures k
          card h c.args.linked bound accepted room c.is_word.ensures
          (length c.bodies.result.now + 1) number c.grow.new.world c.in_ok-grow.ensures.world
          c.grow.new.program c.in_ok-grow.ensures.program c.grow.new.machine
          c.in_ok-grow.ensures.machine;
    }

pub returns-clause-done : goal.returns-clause-done
returns-clause-done c card holds =
    let k : CardWords = the_view c.self.inside in
    let h = subst (λ (x : CardWords). Holds x card) (sym c.self.view_is) holds in
    let room = c.requires.room card holds in
    let bound = subst (λ (x : CardWords). IsBoundTo x.world c.args.linked) (sym c.self.view_is) c.requires.bound in
    let accepted = subst (λ (x : CardWords). IsAccepted (with_linked x.world c.args.linked)) (sym c.self.view_is)
    c.requires.accepted in
    let many = ap length c.bodies.ensures.bodies ∙ ap (λ (w : World). length w.bodies) h.world in
    let number : length c.bodies.result.now + 1 ≡ next_package card.world = omega (arith, many) in (
      number,
      holds_behind c.loads_stay_typed.ensures c.loads_stay_in_agreement.ensures c.loads_keep_fitting.ensures k
          card h c.args.linked bound accepted room c.is_word.ensures
          (length c.bodies.result.now + 1) number c.grow.new.world c.in_ok-grow.ensures.world
          c.grow.new.program c.in_ok-grow.ensures.program c.grow.new.machine
          c.in_ok-grow.ensures.machine,
    )
