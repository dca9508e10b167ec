-- Lines, as they are taken up.
use Rattle.std.proofs.Common.{◌≡◌, ℕ, suc, ◌+◌, ◌^◌, ◌<◌, ◌≤◌, List, [], ◌∷◌, length, Ok, Err, ap, ◌∙◌, sym, refl, arith, add-one, ◌==◌}
use Rattle.std.proofs.lemmas.List.Splits.{length-slice_split}
use Rattle.std.proofs.lemmas.List.Sums.{count_by-le-length}
use Rattle.jc_base.specs.Results.{◌>>=◌}
use Rattle.jc_api.specs.Text.{lines_of}
use Rattle.jc_api.specs.Binding.{with_line, with_lines}
use Rattle.jc_api.specs.declared.draft.Draft.{Draft}
use Rattle.jc_api.specs.declared.fault.BindingFault.{BindingFault}

-- there are few enough lines that they can be counted
pub lines_few : (text : List ℕ) → length text < 2 ^ 63 → length (lines_of text) ≤ 2 ^ 63
lines_few text h =
    let count = length-slice_split (λ b. b == 10) text in
    let few = count_by-le-length (λ b. b == 10) text in
    omega arith

lines_step : (n : ℕ) (draft : Draft) (line : List ℕ) (lines : List (List ℕ)) → with_lines n draft (line ∷ lines) ≡ (with_line n draft line >>= λ more. with_lines (suc n) more lines)
unfolding with_lines
lines_step n draft line lines = refl

pub lines_on : (n : ℕ) (draft more : Draft) (line : List ℕ) (all lines : List (List ℕ)) → all ≡ line ∷ lines → with_line n draft line ≡ Ok more → with_lines n draft all ≡ with_lines (n + 1) more lines
lines_on n draft more line all lines here taken =
    ap (with_lines n draft) here ∙ lines_step n draft line lines ∙ ap (λ r. r >>= λ d. with_lines (suc n) d lines) taken ∙ ap (λ k. with_lines k more lines) (sym (add-one n))

pub lines_refused : (n : ℕ) (draft : Draft) (fault : BindingFault) (line : List ℕ) (all lines : List (List ℕ)) → all ≡ line ∷ lines → with_line n draft line ≡ Err fault → with_lines n draft all ≡ Err fault
lines_refused n draft fault line all lines here refused =
    ap (with_lines n draft) here ∙ lines_step n draft line lines ∙ ap (λ r. r >>= λ d. with_lines (suc n) d lines) refused

pub lines_done : (n : ℕ) (draft : Draft) (all : List (List ℕ)) → all ≡ [] → with_lines n draft all ≡ Ok draft
unfolding with_lines
lines_done n draft all none = ap (with_lines n draft) none
