use Rattle.std.proofs.Common.{[], ◌∷◌, ◌++◌, ap, ◌∙◌}
use Rattle.jc_verify.proofs.Following.{followed_first}
use Rattle.jc_verify.proofs.entries.at_first.Goals as goal

pub returns-clause-followed : goal.returns-clause-followed
returns-clause-followed c m listing begin =
    followed_first m listing c.empty.result
    (record { live = c.insert.new.self; entered = c.empty-2.result; stack = c.push.new.self }) c.empty.ensures
    c.in_ok-insert.ensures c.empty-2.ensures
    (c.in_ok-push.ensures.items ∙ ap (λ xs. xs ++ 0 ∷ []) c.new.ensures.items) begin
