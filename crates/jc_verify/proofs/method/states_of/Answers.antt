use Rattle.std.proofs.Common.{List, ◌≡◌, inl, true, map, refl, rules, subst, sym, arith}
use Rattle.jc_code.specs.Listing.{PlacedInstr, begins}
use Rattle.jc_verify.specs.Live.{IsEntered}
use Rattle.jc_cert.specs.Cert.{Stated, stated}
use Rattle.jc_check.specs.Package.{package_rules}
use Rattle.std.proofs.lemmas.Result.{err_from_is_err_and}
use Rattle.jc_verify.proofs.Bearing.{denied}
use Rattle.jc_verify.proofs.Carrying.{carried, found_fine, held_kept, rows_each, rows_least, upper_of}
use Rattle.jc_verify.proofs.Ordering.{in_order}
use Rattle.jc_verify.proofs.Visiting.{if_err, if_ok}
use Rattle.jc_verify.proofs.Starting.{none_past}
use Rattle.jc_verify.proofs.method.states_of.Goals as goal

pub returns-clause-inferred : goal.returns-clause-inferred
returns-clause-inferred c =
    let l = c.args.linked.now in
    let m = c.args.method.now in
    let laws = c.requires.laws in
    let of = c.in_ok-entries.ensures.found in
    let are = of.found.are in
    let numbered = c.in_ok-numbered.ensures in
    let sized = rw c.code.ensures at numbered.sized in
    let numbers = c.in_ok-numbered.numbered.numbers.items in
    let rows = rw c.deref.ensures.value at c.rows_in.ensures.rows in
    if_ok c.rows_in.result _ _ rows (λ found (final, filled, spelled). record {
      carried =
          carried l laws m of.listing (map stated found.items) of.whole of.some
          (found_fine l laws m numbers final of.listing (map stated found.items) filled.numbered sized of.whole
          (held_kept (λ pc. begins of.listing pc ≡ true) numbers _ final numbered.numbered filled.numbered (λ n p e. (are.entered p.pc (numbered.entered n p e)).begin)) filled.shaped filled.closed filled.entry of.handlers spelled)
          (c.first_fault_laws.ensures.either (package_rules l) laws.listing m (map stated found.items));
      entered = λ listing whole.
          rows_each _ (λ (r : Stated). IsEntered m listing r.pc) final (map stated found.items) spelled (λ n p s r at held row.
          subst (IsEntered m listing) (sym row.at)
          (subst (λ (xs : List PlacedInstr). IsEntered m xs p.pc) (laws.listing.one_listing m.code of.listing listing of.whole whole)
          (held_kept (IsEntered m of.listing) numbers _ final numbered.numbered filled.numbered (λ n p e. (are.entered p.pc (numbered.entered n p e)).entered) n p at)));
      least = λ typing typed. rows_least l laws m numbers final (map stated found.items) filled.numbered spelled typing (filled.under typing (upper_of l laws m typing typed));
      order = in_order l m numbers final (map stated found.items) filled.numbered numbered.ascend sized c.requires.short (search rules) filled.shaped spelled;
    })

pub returns-in_err-entries-clause-refused : goal.returns-in_err-entries-clause-refused
returns-in_err-entries-clause-refused c =
    let p = err_from_is_err_and c.from_residual.result c.from_residual.ensures.1 in
    rw (p.1, p.2) (λ pc reason is. inl (λ can. c.in_err-entries.ensures.refused pc reason is (package_rules c.args.linked.now) refl can.states can.carried))

pub returns-clause-refused : goal.returns-clause-refused
returns-clause-refused c =
    let numbered = c.in_ok-numbered.ensures in
    if_err c.rows_in.result _ _ (rw c.deref.ensures.value at c.rows_in.ensures.refused) (λ fault refused pc reason is.
    denied c.args.linked.now c.requires.laws c.args.method.now c.in_ok-numbered.numbered.numbers.items c.in_ok-numbered.numbered.places.items c.in_ok-entries.entries numbered.numbered c.in_ok-entries.ensures.found numbered.entered
    (rw c.code.ensures at numbered.all) (refused pc reason is))

pub rows_in-requires : goal.rows_in-requires
rows_in-requires c = grind (arith, none_past)

pub returns-in_err-entries-clause-told : goal.returns-in_err-entries-clause-told
returns-in_err-entries-clause-told c =
    let p = err_from_is_err_and c.from_residual.result c.from_residual.ensures.1 in
    rw (p.1, p.2) (λ keeps. c.in_err-entries.ensures.told c.args.linked.now)
