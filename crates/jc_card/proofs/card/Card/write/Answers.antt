use Rattle.std.proofs.Common.{sym, subst, arith}
use Rattle.jc_card.specs.Parts.{write}
use Rattle.jc_card.specs.contracts.card.Card.{the_view}
use Rattle.jc_card.specs.Reads.{CardWords, GivesNothing, Holds, IsCard, IsDone}
use Rattle.jc_card.proofs.Doing.{left_card}
use Rattle.jc_card.proofs.Written.{has_cells, its_words, write_done}
use Rattle.jc_store.specs.Store.{Store}
use Rattle.jc_card.proofs.card.Card.write.Goals as goal

pub put_bytes-requires : goal.put_bytes-requires
put_bytes-requires c = grind (arith, has_cells)

pub invariant_of-self : goal.invariant_of-self
invariant_of-self c =
    let k : CardWords = the_view c.self.inside in
    let card = c.self.invariant.card in
    let h = c.self.invariant.holds in
    let array = c.requires.array card (subst (λ (x : CardWords). Holds x card) c.self.view_is h) in
    let now : Store → CardWords =
    λ x. record k { machine = record { store = x; frames = k.machine.frames; statics = k.machine.statics } } in
    let across = its_words k card h c.args.number c.args.bytes.now array in
    subst (λ (x : Store). IsCard (now x)) (sym (c.put_bytes.ensures across.object across.there))
    (left_card _ GivesNothing (write c.args.number c.args.bytes.now card)
    (write_done k card h c.args.number c.args.bytes.now array c.law.ensures c.objects_stay_typed.ensures.byte (λ n.
    omega (arith, c.type_inv.bytes n))))

pub returns : goal.returns
returns c card holds =
    let k : CardWords = the_view c.self.inside in
    let h = subst (λ (x : CardWords). Holds x card) (sym c.self.view_is) holds in
    let array = c.requires.array card holds in
    let now : Store → CardWords =
    λ x. record k { machine = record { store = x; frames = k.machine.frames; statics = k.machine.statics } } in
    let across = its_words k card h c.args.number c.args.bytes.now array in
    subst (λ (x : Store). IsDone (now x) GivesNothing (write c.args.number c.args.bytes.now card))
    (sym (c.put_bytes.ensures across.object across.there))
    (write_done k card h c.args.number c.args.bytes.now array c.law.ensures c.objects_stay_typed.ensures.byte (λ n.
    omega (arith, c.type_inv.bytes n)))
