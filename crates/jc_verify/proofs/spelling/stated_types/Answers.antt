use Rattle.std.proofs.Common.{Some, length, take, ap, subst, sym, ◌∙◌, arith}
use Rattle.std.proofs.lemmas.Option.{slice_get-get_or}
use Rattle.std.specs.List.{AllByRecursion}
use Rattle.jc_cert.specs.Cert.{IsStatedType}
use Rattle.jc_check.specs.Claim.{types_claimed}
use Rattle.jc_check.specs.Package.{class_of_name}
use Rattle.jc_verify.proofs.Lists.{all_more, length_more, take_more}
use Rattle.jc_verify.proofs.Stating.{claimed_more}
use Rattle.jc_verify.proofs.spelling.stated_types.Goals as goal

pub loop-index-preserved : goal.loop-index-preserved
loop-index-preserved c =
    let at = slice_get-get_or c.args.types.now c.loop-index.index _ c.loop-index-test.true in
    let items = c.in_ok-extend_from_slice.ensures.items in
    record {
      claimed =
          ap (types_claimed (class_of_name c.args.table.now)) items
          ∙ claimed_more (class_of_name c.args.table.now) c.loop-index.stated.items (take c.loop-index.index c.args.types.now) c.in-Some.ty _ c.loop-index.invariant.claimed c.in-Some.ensures.stated
          ∙ ap Some (sym (take_more c.args.types.now c.loop-index.index _ at));
      fit = subst (AllByRecursion IsStatedType) (sym items) (all_more IsStatedType c.loop-index.stated.items c.in-Some.ty c.loop-index.invariant.fit c.in-Some.ensures.fits);
      len = let k = length_more c.loop-index.stated.items c.in-Some.ty in let more = ap length items in omega (arith, more, k, c.loop-index.invariant.len);
      room = let kept = c.in_ok-extend_from_slice.ensures.capacity in omega (arith, kept, c.loop-index.invariant.room);
    }
