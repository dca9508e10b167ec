use Rattle.std.proofs.Common.{ℕ, ◌+◌, List, length, slice_get, sym, ap, ◌∙◌, arith}
use Rattle.jc_store.proofs.Rows.{cell_within, its_cell}
use Rattle.jc_store.proofs.store.Store.get.Goals as goal

pub cell_at-requires : goal.cell_at-requires
cell_at-requires c =
    let there = c.requires.there in let head = c.head_at-head.result in
    let within = cell_within c.self.invariant c.self.view_is c.args.number c.args.index there.object c.deref.result.now
    head there.is there.within c.deref.ensures.value c.head_at-head.ensures in
    let lent = ap (λ (xs : List ℕ). length xs) c.deref-2.ensures.value in
    record { within = omega (arith, within, lent) }

pub returns : goal.returns
returns c object at =
    let there = c.requires.there in let head = c.head_at-head.result in
    its_cell c.self.invariant c.self.view_is c.args.number c.args.index c.cell_at.result there.object object
    c.deref.result.now head there.is at there.within c.deref.ensures.value c.head_at-head.ensures
    (ap (λ (xs : List ℕ). slice_get xs (head.start + c.args.index)) (sym c.deref-2.ensures.value) ∙ c.cell_at.ensures)
