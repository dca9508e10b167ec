use Rattle.std.proofs.Common.{◌≡◌, ℕ, zero, suc, List, map, option_map, refl, ap, sym, ◌∙◌}
use Rattle.std.proofs.lemmas.Option.{slice_get-map}
use Rattle.jc_api.specs.Numbered.{numbered}
use Rattle.jc_api.specs.Member.{shown}
use Rattle.jc_api.proofs.member.member_in.Goals as goal

numbered-map : {A B : Type 0} (f : A → B) (rows : List A) (number : ℕ) → option_map f (numbered rows number) ≡ numbered (map f rows) number
numbered-map f rows zero = refl
numbered-map f rows (suc n) = sym (slice_get-map f rows n)

pub returns : goal.returns
returns c = ap (option_map shown) c.numbered.ensures ∙ numbered-map shown c.args.rows.now c.args.number
