use Rattle.std.proofs.Common.{ℕ, List, [], ◌∷◌, ◌++◌, refl, ap, ◌∙◌, arith, vec_capacity, vec_len}
use Rattle.jc_store.specs.PrivateLaid.{Header}
use Rattle.jc_store.specs.declared.header.Head.{Head}
use Rattle.jc_store.proofs.Rows.{made, numbered, room_left, stored_more}
use Rattle.jc_store.proofs.store.Store.make.Goals as goal

pub overflow_add-self : goal.overflow_add-self
overflow_add-self c =
    let room = c.has_room.ensures.room c.if-not-has_room.false in
    let left = room_left c.self.invariant c.self.view_is c.args.len room in
    let few = c.self.invariant.laid.few_cells in let fits = left.1 in
    omega (arith, few, fits)

pub invariant_of-self : goal.invariant_of-self
invariant_of-self c =
    let header : Header = record {
      kind = c.args.kind;
      owner = c.args.owner;
      class = c.args.class;
      start = c.self.inside.used;
      len = c.args.len;
    } in
    let with_fast : ℕ → List Head = λ (fast : ℕ). c.self.inside.heads.items ++ record {
      start = c.self.inside.used;
      len = c.args.len;
      class = c.args.class;
      fast = fast;
    } ∷ [] in
    let heads = c.push_reserved.ensures in let rests = c.push_reserved-2.ensures in
    let head_room = heads.capacity in let rest_room = rests.capacity in
    stored_more c.self.invariant c.self.view_is header c.push_reserved.new.self.items c.push_reserved-2.new.self.items
    (vec_len c.push_reserved.new.self) (vec_capacity c.push_reserved.new.self)
    (vec_len c.push_reserved-2.new.self) (vec_capacity c.push_reserved-2.new.self)
    refl (c.has_room.ensures.room c.if-not-has_room.false) (heads.items ∙ ap with_fast c.fast_of.ensures) rests.items
    heads.len (omega (arith, head_room)) rests.len (omega (arith, rest_room))

pub returns-clause-made : goal.returns-clause-made
returns-clause-made c =
    let header : Header = record {
      kind = c.args.kind;
      owner = c.args.owner;
      class = c.args.class;
      start = c.self.inside.used;
      len = c.args.len;
    } in
    let with_fast : ℕ → List Head = λ (fast : ℕ). c.self.inside.heads.items ++ record {
      start = c.self.inside.used;
      len = c.args.len;
      class = c.args.class;
      fast = fast;
    } ∷ [] in
    let heads = c.push_reserved.ensures in let rests = c.push_reserved-2.ensures in
    made c.self.invariant c.self.view_is header c.push_reserved.new.self.items c.push_reserved-2.new.self.items
    c.self.inside.most_objects c.self.inside.most_cells refl (c.has_room.ensures.room c.if-not-has_room.false)
    (heads.items ∙ ap with_fast c.fast_of.ensures) rests.items refl refl

pub returns-clause-numbered : goal.returns-clause-numbered
returns-clause-numbered c =
    let header : Header = record {
      kind = c.args.kind;
      owner = c.args.owner;
      class = c.args.class;
      start = c.self.inside.used;
      len = c.args.len;
    } in
    let with_fast : ℕ → List Head = λ (fast : ℕ). c.self.inside.heads.items ++ record {
      start = c.self.inside.used;
      len = c.args.len;
      class = c.args.class;
      fast = fast;
    } ∷ [] in
    let heads = c.push_reserved.ensures in let rests = c.push_reserved-2.ensures in
    let l = c.len.ensures in let n = rests.len in
    numbered c.self.invariant c.self.view_is header c.push_reserved.new.self.items c.push_reserved-2.new.self.items
    c.len.result (heads.items ∙ ap with_fast c.fast_of.ensures) rests.items (omega (arith, l, n))
