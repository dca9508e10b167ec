-- Reading so many one after the other, as a loop does.
use Rattle.std.proofs.Common.{◌≡◌, ℕ, suc, ◌+◌, ◌-◌, ◌<◌, ◌≤◌, List, ◌∷◌, [], ◌++◌, Result, Ok, Err, refl, sym, ap, ◌∙◌, append_assoc, arith}
use Rattle.std.proofs.lemmas.List.{append-nil}
use Rattle.jc_base.specs.Cursor.{Read}
use Rattle.jc_base.specs.Results.{◌>>=◌}
use Rattle.jc_cert.specs.declared.refusal.Refusal.{Refusal}
use Rattle.jc_cert.specs.declared.refusal.Refusal.TheVariants.{Unspelled, Memory}
use Rattle.jc_cert.specs.declared.refusal.NoSpelling.{NoSpelling}
use Rattle.jc_cert.specs.PrivateReading.{repeat_at, Fails, no_spelling}

-- what was read, with the bytes behind it
abbrev pub read_as : {A : Type 0} → A → List ℕ → Read A
read_as x bytes = record { value = x; rest = bytes }

-- what was read before, and what is still read
abbrev pub with_front : {A : Type 0} → List A → Result (Read (List A)) NoSpelling → Result (Read (List A)) NoSpelling
with_front front read = read >>= λ x. Ok (read_as (front ++ x.value) x.rest)

regroup : {A : Type 0} (front : List A) (one : A) (read : Result (Read (List A)) NoSpelling)
    → with_front front (read >>= λ x. Ok (read_as (one ∷ x.value) x.rest)) ≡ with_front (front ++ one ∷ []) read
regroup front one (Err none) = refl
regroup front one (Ok x) = ap (λ ys. Ok (read_as ys x.rest)) (simp append_assoc)

module _ {S A : Type 0} (read : S → List ℕ → Result (Read A) NoSpelling) (next : A → S) where
  -- the loop's invariant
  abbrev pub IsSoFar : Result (Read (List A)) NoSpelling → List A → ℕ → S → List ℕ → Type 0
  IsSoFar total front left s bytes = with_front front (repeat_at read next left s bytes) ≡ total

  pub goes_on : (total : Result (Read (List A)) NoSpelling) (front : List A) (count i : ℕ) (s : S) (bytes : List ℕ) (one : A) (after : List ℕ)
      → i < count → read s bytes ≡ Ok (read_as one after) → IsSoFar total front (count - i) s bytes → IsSoFar total (front ++ one ∷ []) (count - (i + 1)) (next one) after
  unfolding repeat_at
  goes_on total front count i s bytes one after lt h so_far =
      let k : count - i ≡ suc (count - (i + 1)) = omega arith in
      let step : with_front front (repeat_at read next (count - i) s bytes) ≡ with_front (front ++ one ∷ []) (repeat_at read next (count - (i + 1)) (next one) after)
      = rw (k, h) (regroup front one (repeat_at read next (count - (i + 1)) (next one) after)) in
      sym step ∙ so_far

  stops : (total : Result (Read (List A)) NoSpelling) (front : List A) (count i : ℕ) (s : S) (bytes : List ℕ) → i < count → read s bytes ≡ (Err no_spelling) → IsSoFar total front (count - i) s bytes → total ≡ (Err no_spelling)
  unfolding repeat_at
  stops total front count i s bytes lt h so_far =
      let k : count - i ≡ suc (count - (i + 1)) = omega arith in
      let step : with_front front (repeat_at read next (count - i) s bytes) ≡ (Err no_spelling) = rw (k, h) refl in
      sym so_far ∙ step

  pub is_done : (total : Result (Read (List A)) NoSpelling) (front : List A) (count i : ℕ) (s : S) (bytes : List ℕ) → count ≤ i → IsSoFar total front (count - i) s bytes → total ≡ Ok (read_as front bytes)
  unfolding repeat_at
  is_done total front count i s bytes le so_far =
      let k : count - i ≡ 0 = omega arith in
      let step : with_front front (repeat_at read next (count - i) s bytes) ≡ Ok (read_as front bytes) = rw k (ap (λ ys. Ok (read_as ys bytes)) (append-nil front)) in
      sym so_far ∙ step

  pub refuses : (refusal : Refusal) (total : Result (Read (List A)) NoSpelling) (front : List A) (count i : ℕ) (s : S) (bytes : List ℕ) → i < count → Fails refusal (read s bytes) → IsSoFar total front (count - i) s bytes → Fails refusal total
  refuses Unspelled total front count i s bytes lt h so_far = stops total front count i s bytes lt h so_far
  refuses Memory total front count i s bytes lt h so_far = tt
