use Rattle.std.proofs.Common.{◌≡◌, [], ◌∷◌, length, length-append, ap, arith}
use Rattle.jc_program.specs.PrivateClasses.{is_placed}
use Rattle.jc_program.proofs.Numbering.{number_last}
use Rattle.jc_program.proofs.classes.Classes.push.Goals as goal

pub invariant_of-self-2 : goal.invariant_of-self-2
invariant_of-self-2 c =
    let f = c.self.inside in
    let one : c.len.result ≡ length f.names.items =
    let a = c.len.ensures in let b = c.in_ok-reserve.ensures.len in let k = f.names.ok.0 in omega (arith, a, b, k) in
    let n = length-append f.names.items (c.args.name ∷ []) in
    let same = ap (λ ns. length ns) c.self.view_is in
    let few = c.requires.few in
    rw (c.push_reserved.ensures.items, c.in_ok-reserve.ensures.items)
    (record {
      numbers = number_last is_placed f.numbers.items c.put_name.new.tables.items f.names.items c.args.name
          c.self.invariant.numbers (λ p i. rw (← one) (c.in_ok-put_name.ensures.done p i));
      few = omega (arith, n, same, few);
    })
