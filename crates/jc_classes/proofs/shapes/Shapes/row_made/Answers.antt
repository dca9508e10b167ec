use Rattle.std.proofs.Common.{◌≡◌, ℕ, ◌+◌, ◌<◌, List, [], ◌∷◌, length, Option, ap, sym, subst, ◌∙◌, arith, length-append}
use Rattle.jc_classes.proofs.Tabling.{each_pushed, row_whole}
use Rattle.jc_classes.specs.PrivatePlaces.{place_at}
use Rattle.jc_classes.specs.PrivateTables.{row_entry}
use Rattle.jc_names.specs.declared.name.MethodName.{MethodName}
use Rattle.jc_classes.proofs.shapes.Shapes.row_made.Goals as goal

pub loop-token-preserved : goal.loop-token-preserved
loop-token-preserved c =
    let pushed = c.in_ok-push.ensures.items in
    let entry = row_entry c.args.self.now c.args.home c.args.table.now c.args.above.now in
    let before = c.loop-token.methods.items in
    record {
      count = ap length pushed ∙ length-append before (c.row_entry.result ∷ []) ∙ ap (λ n. n + 1) c.loop-token.invariant.count;
      so_far = subst (λ (xs : List (Option MethodName)). (i : ℕ) → i < c.loop-token.token + 1 → place_at xs i ≡ entry i)
          (sym pushed)
          (each_pushed before c.row_entry.result entry c.loop-token.token c.loop-token.invariant.count
          c.loop-token.invariant.so_far c.row_entry.ensures);
    }

pub returns : goal.returns
returns c = grind (arith, row_whole)
