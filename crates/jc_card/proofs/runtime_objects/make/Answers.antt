use Rattle.std.proofs.Common.{◌∙◌, ap, sym, None, arith}
use Rattle.jc_firewall.specs.Verdict.{runtime}
use Rattle.jc_program.specs.Classes.{class_number}
use Rattle.jc_store.specs.Store.{fresh, with_made}
use Rattle.jc_card.proofs.Making.{as_made, is_made, made_more, own_number, there_is}
use Rattle.jc_card.specs.PrivateNew.{made_of}
use Rattle.jc_card.proofs.runtime_objects.make.Goals as goal

pub unwrap-class-requires : goal.unwrap-class-requires
unwrap-class-requires c = grind (arith, there_is, own_number)

pub unwrap-requires : goal.unwrap-requires
unwrap-requires c = grind (arith, is_made)

pub returns : goal.returns
returns c =
    let own = c.own_object-own.result in
    let store = c.args.store.now in record {
      made =
          made_more c.args.classes.now store c.make.new.self own c.args.place c.unwrap-class.result
          c.own_object-own.ensures
          (sym c.unwrap-class.ensures ∙ c.number_of.ensures
          ∙ ap (class_number c.args.classes.now) c.class_of.ensures)
          (c.classes_have_numbers.ensures.named c.args.classes.now)
          (as_made c.make.result c.unwrap.result c.unwrap.ensures c.make.ensures.made
          ∙ ap (λ size. with_made store
          (fresh (record { object_type = own.object; mark = own.mark; clears = None }) runtime size)
          c.index.result) c.from.ensures
          ∙ ap (with_made store (made_of 0 own)) c.index.ensures);
    }
