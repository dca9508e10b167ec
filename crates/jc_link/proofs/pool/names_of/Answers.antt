use Rattle.std.proofs.Common.{◌<◌, length, inr, map, Some, sym, ap, ◌∙◌, arith}
use Rattle.std.specs.Option.{option_map}
use Rattle.jc_base.specs.declared.fault.LoadFault.TheVariants.{Unresolved}
use Rattle.jc_link.proofs.Firsts.{here, passed, none, first_place}
use Rattle.jc_link.proofs.Names.{nothing_at, something_at, one_more}
use Rattle.jc_link.specs.Named.{named_by}
use Rattle.jc_link.specs.Pool.{is_unresolved}
use Rattle.jc_link.proofs.pool.names_of.Goals as goal

pub returns-in_default-clause-refused : goal.returns-in_default-clause-refused
returns-in_default-clause-refused c =
    let pool = c.args.linked.now.body.pool in
    let less : c.loop-index.index < length pool = omega (arith, c.loop-index-test.true, c.requires.count) in
    let nothing = nothing_at (named_by c.args.table.now c.args.home) pool c.loop-index.index less
    (sym c.in_default.ensures) in
    inr (ap (option_map Unresolved) (sym (
    here _ _ c.args.count c.loop-index.index c.loop-index.invariant.first c.loop-index-test.true nothing
    ∙ first_place (is_unresolved c.args.table.now c.args.home) pool c.args.count c.requires.count
    )))

pub loop-index-preserved : goal.loop-index-preserved
loop-index-preserved c =
    let pool = c.args.linked.now.body.pool in
    let by = named_by c.args.table.now c.args.home in
    record {
      named = ap (map Some) c.in-Ok.ensures.items
          ∙ one_more by pool c.loop-index.names.items c.loop-index.index c.in-Some.named c.loop-index.invariant.named
          (sym c.in-Some.ensures);
      first = passed _ _ c.args.count c.loop-index.index c.loop-index.invariant.first c.loop-index-test.true
          (something_at by pool c.loop-index.index c.in-Some.named (sym c.in-Some.ensures));
    }

pub returns-clause-all : goal.returns-clause-all
returns-clause-all c = sym (
    none _ _ c.args.count c.loop-index.index c.loop-index.invariant.first c.loop-index-test.false
    ∙ first_place (is_unresolved c.args.table.now c.args.home) c.args.linked.now.body.pool c.args.count c.requires.count
    )
