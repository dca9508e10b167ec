use Rattle.std.proofs.Common.{Bor, List, Option, ℕ, ◌∙◌, ap, arith, option_map, sym}
use Rattle.jc_script.proofs.Joining.{all_joined, none_joined, one_joined, part_left}
use Rattle.jc_script.proofs.command.joined.Goals as goal

pub returns-in_err-more : goal.returns-in_err-more
returns-in_err-more c =
    let left = part_left c.loop-word.room c.loop-word.count 512 (omega arith) (omega arith) in
    ap (λ (o : Option (Bor (List ℕ))). option_map (λ bytes. bytes.now) o) c.from_residual.ensures
    ∙ none_joined c.loop-word.room c.loop-word.count c.loop-word.words _ _ c.in-Some.ensures.some (omega arith) _
    (omega (arith, left)) c.in_err-more.ensures.none
    ∙ sym c.loop-word.invariant.1

pub loop-word-preserved : goal.loop-word-preserved
loop-word-preserved c =
    let left = part_left c.loop-word.room c.loop-word.count 512 (omega arith) (omega arith) in
    let fits = c.in_ok-more.ensures.within in (
      omega (arith, left, fits),
      c.loop-word.invariant.1
          ∙ one_joined c.loop-word.room c.loop-word.count c.loop-word.words _ _ c.in-Some.ensures.some (omega arith) _
          _ _ c.in_ok-more.ensures.put (omega (arith, left, fits)) (omega (arith, left, fits)),
    )

pub returns : goal.returns
returns c = sym (c.loop-word.invariant.1 ∙ all_joined _ _ c.in_default.ensures.none.0)
