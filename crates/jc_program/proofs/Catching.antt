-- What handlers catch, by what the entries of a pool were found to lead to.
use Rattle.std.proofs.Common.{◌≡◌, ℕ, List, map, Option, Some, None, slice_get, sym, ap, ◌∙◌, arith}
use Rattle.std.proofs.lemmas.Option.{slice_get-map}
use Rattle.std.specs.Option.{option_and_then, option_map}
use Rattle.jc_cap_desc.specs.Shape.{Shape}
use Rattle.jc_link.specs.Linked.{IsResolved, LinkedBody}
use Rattle.jc_names.specs.Names.{home_at}
use Rattle.jc_program.specs.Methods.{caught_by}
use Rattle.jc_program.specs.PrivateLaid.{caught_in}

flat_some : {A : Type 0} (t : Option A) → option_and_then (λ x. x) (option_map Some t) ≡ t
flat_some t = grind (arith, None, Some)

flat_map : {A B : Type 0} (f : A → Option B) (e : Option A) → option_and_then (λ x. x) (option_map f e)
    ≡ option_and_then f e
flat_map f e = grind (arith, None, Some)

pub target_there : {A B : Type 0} (f : A → Option B) (targets : List B) (pool : List A) (index : ℕ)
    → map Some targets ≡ map f pool
    → slice_get targets index ≡ option_and_then f (slice_get pool index)
target_there f targets pool index same =
    sym (flat_some (slice_get targets index))
    ∙ ap (option_and_then (λ x. x)) (sym (slice_get-map Some targets index) ∙ ap (λ xs. slice_get xs index) same
    ∙ slice_get-map f pool index)
    ∙ flat_map f (slice_get pool index)

pub caught_there : (world : List Shape) (number : ℕ) (body : LinkedBody) (index : ℕ)
    → IsResolved world (home_at number) body
    → caught_in body.targets index ≡ caught_by world number body index
caught_there world number body index resolved = grind (arith, target_there)
