use Rattle.std.proofs.Common.{◌+◌, ◌++◌, ◌∷◌, [], List, length, take, sym, ap, subst, ◌∙◌, arith}
use Rattle.std.proofs.lemmas.List.{take_all}
use Rattle.jc_program.specs.Called.{KeyedTable}
use Rattle.jc_program.specs.PrivateCalled.{AreListed, HasVisible}
use Rattle.jc_program.specs.PrivateChained.{lists_in, tables_at}
use Rattle.jc_program.proofs.Beginning.{begins_more}
use Rattle.jc_program.proofs.Calling.{list_more}
use Rattle.jc_program.proofs.Sharing.{head_there, heads_more, kept_lists, lists_more}
use Rattle.jc_program.proofs.Showing.{all_there, others_there}
use Rattle.jc_program.proofs.visible.VisibleMethods.put.Goals as goal

pub head_made-requires-clause-above : goal.head_made-requires-clause-above
head_made-requires-clause-above c = grind (arith, head_there)

pub head_made-requires-clause-others : goal.head_made-requires-clause-others
head_made-requires-clause-others c =
    let world = c.args.table.now in let methods = c.args.methods.now in let names = c.args.classes.now in
    rw (c.head_of-above.ensures, c.deref.ensures.value) (others_there world methods names c.self.inside.tables
    c.self.inside.heads.items c.len.result c.args.class c.in_ok-nearest.nearest c.in_ok-nearest.ensures
    (c.len.ensures ∙ ap length (sym c.self.view_is))
    (subst (λ (ls : List (List KeyedTable)). AreListed (HasVisible world methods) names (length ls) ls)
    (sym c.self.view_is) c.requires.first))

pub head_made-requires-clause-all : goal.head_made-requires-clause-all
head_made-requires-clause-all c =
    let world = c.args.table.now in let methods = c.args.methods.now in let names = c.args.classes.now in
    rw (c.head_of-above.ensures, c.deref.ensures.value) (all_there world methods names c.self.inside.tables
    c.self.inside.heads.items c.len.result c.args.class c.in_ok-nearest.nearest c.in_ok-nearest.ensures
    (c.len.ensures ∙ ap length (sym c.self.view_is))
    (subst (λ (ls : List (List KeyedTable)). AreListed (HasVisible world methods) names (length ls) ls)
    (sym c.self.view_is) c.requires.first))

pub returns-in_err-head-clause-begins : goal.returns-in_err-head-clause-begins
returns-in_err-head-clause-begins c = grind (arith, kept_lists, take_all)

pub returns-in_err-push-clause-begins : goal.returns-in_err-push-clause-begins
returns-in_err-push-clause-begins c = grind (arith, kept_lists, take_all)

pub invariant_of-self-2 : goal.invariant_of-self-2
invariant_of-self-2 c = grind (arith, heads_more)

pub returns-clause-listed : goal.returns-clause-listed
returns-clause-listed c =
    let world = c.args.table.now in let methods = c.args.methods.now in let names = c.args.classes.now in
    let now = c.args.self.now in let u = c.head_made.new.tables in
    let last = tables_at u c.in_ok-head.head in
    subst (AreListed (HasVisible world methods) names (length now + 1))
    (sym (ap (lists_in u) c.in_ok-push.ensures.items
    ∙ lists_more c.self.inside.tables u c.self.inside.heads.items c.in_ok-head.head c.in_ok-head.ensures.kept
    c.self.invariant ∙ ap (λ (ls : List (List KeyedTable)). ls ++ last ∷ []) c.self.view_is))
    (list_more (HasVisible world methods) names now last (length now) c.args.class c.requires.here c.requires.first
    c.in_ok-head.ensures.has)

pub returns-clause-begins : goal.returns-clause-begins
returns-clause-begins c =
    let now = c.args.self.now in let u = c.head_made.new.tables in
    let last = tables_at u c.in_ok-head.head in
    ap (take (length now)) (ap (lists_in u) c.in_ok-push.ensures.items
    ∙ lists_more c.self.inside.tables u c.self.inside.heads.items c.in_ok-head.head c.in_ok-head.ensures.kept
    c.self.invariant ∙ ap (λ (ls : List (List KeyedTable)). ls ++ last ∷ []) c.self.view_is)
    ∙ begins_more now now (last ∷ []) (take_all (length now) now (omega arith))
