use Rattle.std.proofs.Common.{◌≡◌, ℕ, ◌+◌, set, sym, ap, subst, ◌∙◌, arith, vec_capacity, vec_len}
use Rattle.jc_store.specs.Heap.{Heap, with_cell, with_object}
use Rattle.jc_store.specs.Store.{Store, with_objects}
use Rattle.jc_store.specs.PrivateLaid.{IsStored, Sizes, classes_in, headers_of, objects_in}
use Rattle.jc_store.proofs.Rows.{cell_within, kept, put}
use Rattle.jc_store.proofs.store.Store.set.Goals as goal

pub index_mut-requires : goal.index_mut-requires
index_mut-requires c =
    let f = c.from.ensures in let g = c.from-2.ensures in
    let there = c.requires.there in let head = c.head_at-head.result in
    let within = cell_within c.self.invariant c.self.view_is c.args.number c.args.index there.object c.deref.result.now
    head there.is there.within c.deref.ensures.value c.head_at-head.ensures in
    let n = c.self.invariant.laid.cell_count in
    omega (arith, f, g, within, n)

pub invariant_of-self : goal.invariant_of-self
invariant_of-self c =
    let f = c.from.ensures in let g = c.from-2.ensures in
    let there = c.requires.there in let head = c.head_at-head.result in
    let place : head.start + c.args.index ≡ c.from.result + c.from-2.result = omega (arith, f, g) in
    let sizes : Sizes = record {
      heads = vec_len c.self.inside.heads;
      head_room = vec_capacity c.self.inside.heads;
      headers = vec_len c.self.inside.rests;
      room = vec_capacity c.self.inside.rests;
      cells = vec_len c.self.inside.cells;
      used = c.self.inside.used;
      most_objects = c.self.inside.most_objects;
      most_cells = c.self.inside.most_cells;
    } in
    subst
    (λ n. IsStored c.self.inside.heads.items c.self.inside.rests.items
    (set c.self.inside.cells.items n c.args.word) sizes)
    place
    (kept c.self.invariant c.self.view_is c.args.number c.args.index c.args.word there.object c.deref.result.now head
    there.is there.within c.deref.ensures.value c.head_at-head.ensures)

pub returns : goal.returns
returns c object at =
    let f = c.from.ensures in let g = c.from-2.ensures in
    let there = c.requires.there in let head = c.head_at-head.result in
    let place : head.start + c.args.index ≡ c.from.result + c.from-2.result = omega (arith, f, g) in
    let headers = headers_of c.self.inside.heads.items c.self.inside.rests.items in
    let in_room : Heap ℕ → Store = λ (heap : Heap ℕ). record {
      objects = heap;
      classes = classes_in headers;
      most_objects = c.self.inside.most_objects;
      most_cells = c.self.inside.most_cells;
    } in
    let object_with = with_cell object c.args.index c.args.word in
    ap in_room
    (ap (λ n. objects_in (set c.self.inside.cells.items n c.args.word) headers) (sym place)
    ∙ put c.self.invariant c.self.view_is c.args.number c.args.index c.args.word there.object object c.deref.result.now
    head there.is at there.within c.deref.ensures.value c.head_at-head.ensures)
    ∙ ap (λ (x : Store). with_objects x (with_object c.args.self.now.objects c.args.number object_with)) c.self.view_is
