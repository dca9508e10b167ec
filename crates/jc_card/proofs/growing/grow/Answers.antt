use Rattle.std.proofs.Common.{◌≡◌, ◌-◌, ℕ, List, [], ◌∷◌, ◌++◌, length, get_or, ap, ◌∙◌, arith}
use Rattle.std.proofs.Math.Seq.{get_or-append_seam}
use Rattle.std.proofs.lemmas.List.{length-append}
use Rattle.jc_link.specs.Linked.{LinkedBody}
use Rattle.jc_card.proofs.growing.grow.Goals as goal

-- the last of bodies with one more
last_of : (bodies all : List LinkedBody) (body : LinkedBody) (n : ℕ) (d : LinkedBody) → all ≡ bodies ++ body ∷ []
    → n ≡ length all - 1 → get_or all n d ≡ body
last_of bodies all body n d is at =
    let size = ap length is ∙ length-append bodies (body ∷ []) in
    let place : n ≡ length bodies = omega (arith, at, size) in
    rw (is, place) (get_or-append_seam bodies body [] d)

pub grow-requires : goal.grow-requires
grow-requires c = grind arith

pub returns-in-Ok-load-clause-machine : goal.returns-in-Ok-load-clause-machine
returns-in-Ok-load-clause-machine c = grind (arith, last_of)
