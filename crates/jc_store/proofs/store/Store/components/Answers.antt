use Rattle.std.proofs.Common.{ℕ, ◌+◌, List, length, slice_range, ap, ◌∙◌, arith}
use Rattle.jc_store.proofs.Blocks.{components_are, components_within}
use Rattle.jc_store.proofs.store.Store.components.Goals as goal

pub part_of-requires : goal.part_of-requires
part_of-requires c =
    let within = components_within c.self.invariant c.self.view_is c.args.number c.deref.result.now
    c.head_or_null-head.result c.deref.ensures.value c.head_or_null-head.ensures in
    let n = ap (λ (xs : List ℕ). length xs) c.deref-2.ensures.value in
    record { within = omega (arith, within, n) }

pub returns : goal.returns
returns c =
    let head = c.head_or_null-head.result in
    c.part_of.ensures
    ∙ ap (λ (xs : List ℕ). slice_range xs head.start (head.start + head.len)) c.deref-2.ensures.value
    ∙ components_are c.self.invariant c.self.view_is c.args.number c.deref.result.now head c.deref.ensures.value
    c.head_or_null-head.ensures
