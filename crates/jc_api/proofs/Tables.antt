-- Tokens in a table: what a row more changes, and what it means that none is taken.
use Rattle.std.proofs.Common.{◌≡◌, ℕ, zero, suc, ◌&&◌, ◌||◌, Bool, true, false, List, [], ◌∷◌, length, replicate, zip, Option, Some, None, slice_get, slice_set, refl, ap, ◌∙◌, sym, subst, inl, inr, eq-eqb}
use Rattle.std.specs.List.{list_any}
use Rattle.std.proofs.Math.ListN.{length-set}
use Rattle.std.proofs.lemmas.Bool.{cases_eq}
use Rattle.jc_base.proofs.Binding.{the_some}
use Rattle.jc_api.specs.Numbered.{numbered, put}
use Rattle.jc_api.specs.Options.{◌>>=◌, all_of}
use Rattle.jc_api.specs.Draft.{is_taken, is_token}
use Rattle.jc_api.specs.PrivateDraft.{NamedDiffer}

get_set_same : {A : Type 0} (xs : List A) (k : ℕ) (v w : A) → slice_get (slice_set xs k v) k ≡ Some w → w ≡ v
get_set_same [] k v w h = absurd cc
get_set_same (x ∷ xs) zero v w h = cc
get_set_same (x ∷ xs) (suc k) v w h = get_set_same xs k v w h

get_set_other : {A : Type 0} (xs : List A) (k m : ℕ) (v : A) → (k ≡ m → ⊥) → slice_get (slice_set xs k v) m ≡ slice_get xs m
get_set_other [] k m v h = refl
get_set_other (x ∷ xs) zero zero v h = absurd (h refl)
get_set_other (x ∷ xs) zero (suc m) v h = refl
get_set_other (x ∷ xs) (suc k) zero v h = refl
get_set_other (x ∷ xs) (suc k) (suc m) v h = get_set_other xs k m v (λ e. h (ap suc e))

pub put_same : {A : Type 0} (xs : List A) (n : ℕ) (v w : A) → numbered (put xs n v) n ≡ Some w → w ≡ v
put_same xs zero v w h = absurd cc
put_same xs (suc k) v w h = get_set_same xs k v w h

pub put_other : {A : Type 0} (xs : List A) (n m : ℕ) (v : A) → (n ≡ m → ⊥) → numbered (put xs n v) m ≡ numbered xs m
put_other xs zero m v h = refl
put_other xs (suc k) zero v h = refl
put_other xs (suc k) (suc m) v h = get_set_other xs k m v (λ e. h (ap suc e))

free : {A : Type 0} (meets : A → A → Bool) (x : A) (t : ℕ) (rows : List A) (named : List (Option ℕ)) (k : ℕ) (y : A) → list_any (λ r. meets x r.0 && is_token t r.1) (zip rows named) ≡ false → slice_get rows k ≡ Some y → meets x y ≡ true → slice_get named k ≡ Some (Some t) → ⊥
free meets x t [] named k y none row meet name = absurd cc
free meets x t (r ∷ rows) [] k y none row meet name = absurd cc
free meets x t (r ∷ rows) (n ∷ named) zero y none row meet name =
    let same : r ≡ y = cc in
    let given : n ≡ Some t = cc in
    let met : meets x r ≡ true = ap (meets x) same ∙ meet in
    let token : is_token t n ≡ true = ap (is_token t) given ∙ eq-eqb t t refl in
    first met token none
  where
    first : meets x r ≡ true → is_token t n ≡ true → ((meets x r && is_token t n) || list_any (λ r. meets x r.0 && is_token t r.1) (zip rows named)) ≡ false → ⊥
    first met token h = let e : ((true && true) || list_any (λ r. meets x r.0 && is_token t r.1) (zip rows named)) ≡ false = ap (λ b. (b && true) || list_any (λ r. meets x r.0 && is_token t r.1) (zip rows named)) (sym met) ∙ ap (λ b. (meets x r && b) || list_any (λ r. meets x r.0 && is_token t r.1) (zip rows named)) (sym token) ∙ h in cc
free meets x t (r ∷ rows) (n ∷ named) (suc k) y none row meet name = free meets x t rows named k y (rest (meets x r && is_token t n) none) row meet name
  where
    rest : (b : Bool) → (b || list_any (λ r. meets x r.0 && is_token t r.1) (zip rows named)) ≡ false → list_any (λ r. meets x r.0 && is_token t r.1) (zip rows named) ≡ false
    rest true h = absurd cc
    rest false h = h

pub not_taken : {A : Type 0} (meets : A → A → Bool) (x : A) (t : ℕ) (rows : List A) (named : List (Option ℕ)) (j : ℕ) (y : A) → is_taken meets x t rows named ≡ false → numbered rows j ≡ Some y → meets x y ≡ true → numbered named j ≡ Some (Some t) → ⊥
unfolding is_taken
not_taken meets x t rows named zero y none row meet name = absurd cc
not_taken meets x t rows named (suc k) y none row meet name = free meets x t rows named k y none row meet name

-- tokens still differ where one more is given that isn't taken
pub differ_on : {A : Type 0} (meets : A → A → Bool) → ((x y : A) → meets x y ≡ meets y x) → (rows : List A) (named : List (Option ℕ)) (n t : ℕ) (x : A) → numbered rows n ≡ Some x → is_taken meets x t rows named ≡ false → NamedDiffer meets rows named → NamedDiffer meets rows (put named n (Some t))
differ_on {A} meets turned rows named n t x here none differ i j u y z row_i row_j meet name_i name_j =
    elim (cases_eq n i) [
      | inl first ↦ elim (cases_eq n j) [
        | inl second ↦ sym first ∙ second
        | inr second ↦ absurd (one i y j z first second row_i row_j meet name_i name_j)
      ]
      | inr first ↦ elim (cases_eq n j) [
        | inl second ↦ absurd (one j z i y second first row_j row_i (turned z y ∙ meet) name_j name_i)
        | inr second ↦ differ i j u y z row_i row_j meet (sym (put_other named n i (Some t) first) ∙ name_i) (sym (put_other named n j (Some t) second) ∙ name_j)
      ]
    ]
  where
    one : (a : ℕ) (p : A) (b : ℕ) (q : A) → n ≡ a → (n ≡ b → ⊥) → numbered rows a ≡ Some p → numbered rows b ≡ Some q → meets p q ≡ true → numbered (put named n (Some t)) a ≡ Some (Some u) → numbered (put named n (Some t)) b ≡ Some (Some u) → ⊥
    one a p b q at other row_a row_b met name_a name_b =
        let given : Some u ≡ Some t = put_same named n (Some t) (Some u) (ap (numbered (put named n (Some t))) at ∙ name_a) in
        let same : x ≡ p = the_some x p (sym here ∙ ap (numbered rows) at ∙ row_a) in
        not_taken meets x t rows named b q none row_b (ap (λ r. meets r q) same ∙ met) (sym (put_other named n b (Some t) other) ∙ name_b ∙ ap Some given)

-- what all have is had one by one
all_at : {A : Type 0} (xs : List (Option A)) (ys : List A) → all_of xs ≡ Some ys → (k : ℕ) (y : A) → slice_get ys k ≡ Some y → slice_get xs k ≡ Some (Some y)
all_at [] ys h k y e = let n = the_some [] ys h in absurd (none k (ap (λ l. slice_get l k) n ∙ e))
  where
    none : (k : ℕ) → slice_get [] k ≡ Some y → ⊥
    none k e = cc
all_at (None ∷ xs) ys h k y e = absurd cc
all_at {A} (Some x ∷ xs) ys h k y e = part (all_of xs) (λ more f. all_at xs more f) refl h
  where
    at : (more : List A) → ((k : ℕ) (y : A) → slice_get more k ≡ Some y → slice_get xs k ≡ Some (Some y)) → (k : ℕ) → slice_get (x ∷ more) k ≡ Some y → slice_get (Some x ∷ xs) k ≡ Some (Some y)
    at more on zero e = ap Some e
    at more on (suc k) e = on k y e

    part : (o : Option (List A)) → ((more : List A) → all_of xs ≡ Some more → (k : ℕ) (y : A) → slice_get more k ≡ Some y → slice_get xs k ≡ Some (Some y)) → all_of xs ≡ o → (o >>= λ more. Some (x ∷ more)) ≡ Some ys → slice_get (Some x ∷ xs) k ≡ Some (Some y)
    part None on f h = absurd cc
    part (Some more) on f h = at more (on more f) k (ap (λ l. slice_get l k) (the_some (x ∷ more) ys h) ∙ e)

pub all_numbered : {A : Type 0} (xs : List (Option A)) (ys : List A) (n : ℕ) (y : A) → all_of xs ≡ Some ys → numbered ys n ≡ Some y → numbered xs n ≡ Some (Some y)
all_numbered xs ys zero y h e = absurd cc
all_numbered xs ys (suc k) y h e = all_at xs ys h k y e

pub all_length : {A : Type 0} (xs : List (Option A)) (ys : List A) → all_of xs ≡ Some ys → length ys ≡ length xs
all_length [] ys h = ap length (sym (the_some [] ys h))
all_length (None ∷ xs) ys h = absurd cc
all_length {A} (Some x ∷ xs) ys h = part (all_of xs) (λ more f. all_length xs more f) refl h
  where
    part : (o : Option (List A)) → ((more : List A) → all_of xs ≡ Some more → length more ≡ length xs) → all_of xs ≡ o → (o >>= λ more. Some (x ∷ more)) ≡ Some ys → length ys ≡ suc (length xs)
    part None on f h = absurd cc
    part (Some more) on f h = ap length (sym (the_some (x ∷ more) ys h)) ∙ ap suc (on more f)

pub put_length : {A : Type 0} (xs : List A) (n : ℕ) (v : A) → length (put xs n v) ≡ length xs
put_length xs zero v = refl
put_length xs (suc k) v = length-set xs k v

-- what holds of each token still does where it holds of one more
pub kept_on : (P : ℕ → ℕ → Type 0) (named : List (Option ℕ)) (n t : ℕ) → P n t → ((m u : ℕ) → numbered named m ≡ Some (Some u) → P m u) → (m u : ℕ) → numbered (put named n (Some t)) m ≡ Some (Some u) → P m u
kept_on P named n t here each m u h =
    elim (cases_eq n m) [
      | inl same ↦
          let given : Some u ≡ Some t = put_same named n (Some t) (Some u) (ap (numbered (put named n (Some t))) same ∙ h) in
          subst (λ k. P k u) same (subst (P n) (sym (the_some u t given)) here)
      | inr other ↦ each m u (sym (put_other named n m (Some t) other) ∙ h)
    ]

-- rows that are none, none of which has anything
pub none_named : (k n t : ℕ) → numbered (replicate {A = Option ℕ} k None) n ≡ Some (Some t) → ⊥
none_named k zero t h = cc
none_named zero (suc n) t h = cc
none_named (suc k) (suc zero) t h = cc
none_named (suc k) (suc (suc n)) t h = none_named k (suc n) t h
