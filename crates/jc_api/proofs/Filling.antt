-- What all options have, as it is copied one after the other.
use Rattle.std.proofs.Common.{◌≡◌, ℕ, ◌+◌, ◌<◌, ◌≤◌, List, [], ◌∷◌, ◌++◌, length, take, drop, set, get_or, Option, Some, None, refl, ap, ◌∙◌, sym, append_assoc, append-nil}
use Rattle.std.proofs.lemmas.List.{drop_more, drop_all, take_all, take_more_set}
use Rattle.jc_api.specs.Options.{◌>>=◌, all_of}

-- what is left decides: these are copied, and what is left comes behind them
abbrev pub IsFilled : {A : Type 0} → List (Option A) → List A → List (Option A) → Type 0
IsFilled total done left = all_of total ≡ (all_of left >>= λ more. Some (done ++ more))

pub filled_first : {A : Type 0} (total : List (Option A)) → IsFilled total [] total
filled_first {A} total = part (all_of total)
  where
    part : (o : Option (List A)) → o ≡ (o >>= λ more. Some ([] ++ more))
    part None = refl
    part (Some more) = refl

pub filled_on : {A : Type 0} (total : List (Option A)) (done : List A) (x : A) (left : List (Option A)) → IsFilled total done (Some x ∷ left) → IsFilled total (done ++ x ∷ []) left
filled_on {A} total done x left h = h ∙ part (all_of left)
  where
    part : (o : Option (List A)) → ((o >>= λ more. Some (x ∷ more)) >>= λ more. Some (done ++ more)) ≡ (o >>= λ more. Some ((done ++ x ∷ []) ++ more))
    part None = refl
    part (Some more) = ap Some (sym (append_assoc done (x ∷ []) more))

-- the same at an index
pub filled_at : {A : Type 0} (total : List (Option A)) (done : List A) (i : ℕ) (x : A) → i < length total → i < length done → get_or total i None ≡ Some x → IsFilled total (take i done) (drop i total) → IsFilled total (take (i + 1) (set done i x)) (drop (i + 1) total)
filled_at total done i x inside within here h =
    let left : drop i total ≡ Some x ∷ drop (i + 1) total = drop_more total i None inside ∙ ap (λ o. o ∷ drop (i + 1) total) here in
    let on = filled_on total (take i done) x (drop (i + 1) total) (h ∙ ap (λ rest. all_of rest >>= λ more. Some (take i done ++ more)) left) in
    on ∙ ap (λ front. all_of (drop (i + 1) total) >>= λ more. Some (front ++ more)) (sym (take_more_set done i x within))

pub filled_all : {A : Type 0} (total : List (Option A)) (done : List A) (i : ℕ) → length total ≤ i → length done ≤ i → IsFilled total (take i done) (drop i total) → Some done ≡ all_of total
filled_all total done i past full h =
    sym (h ∙ ap (λ rest. all_of rest >>= λ more. Some (take i done ++ more)) (drop_all i total past) ∙ ap Some (append-nil (take i done) ∙ take_all i done full))
