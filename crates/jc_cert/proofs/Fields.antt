-- One field after the other: what is read was spelled in front, and what is spelled in front is read.
use Rattle.std.proofs.Common.{◌≡◌, ℕ, zero, suc, ◌+◌, ◌*◌, ◌/◌, ◌%◌, ◌^◌, ◌<◌, ◌≤◌, Bool, true, false, cond, ltb, List, [], ◌∷◌, ◌++◌, length, Result, Ok, Err, refl, sym, ap, subst, ◌∙◌, append_assoc, arith}
use Rattle.std.specs.List.{flat_map, AllByRecursion}
use Rattle.std.specs.Int.{w16, to_be_bytes}
use Rattle.std.proofs.lemmas.Bool.{ltb-false, le-ltb}
use Rattle.jc_base.specs.Cursor.{Read, next_u1, next_u2}
use Rattle.jc_base.specs.Results.{◌>>=◌}
use Rattle.jc_cert.specs.PrivateReading.{no_spelling, spelled, repeat_at, next_number}
use Rattle.jc_cert.specs.declared.refusal.NoSpelling.{NoSpelling}
use Rattle.jc_cert.proofs.Repeats.{read_as}

abbrev pub IsBytes : List ℕ → Type 0
IsBytes bytes = AllByRecursion (λ b. b < 256) bytes

-- what was read, and fits, was spelled in front
abbrev pub Took : {A : Type 0} → (A → List ℕ) → (A → Type 0) → List ℕ → Result (Read A) NoSpelling → Type 0
Took spell Fits bytes (Err none) = Unit {0}
Took spell Fits bytes (Ok x) = (bytes ≡ spell x.value ++ x.rest) × IsBytes x.rest × Fits x.value

pub took_bind : {A B : Type 0} (spell : A → List ℕ) (Fits : A → Type 0) (whole : B → List ℕ) (All : B → Type 0) (bytes big : List ℕ) (o : Result (Read A) NoSpelling) (f : Read A → Result (Read B) NoSpelling)
    → Took spell Fits bytes o → ((x : A) (rest : List ℕ) → bytes ≡ spell x ++ rest → IsBytes rest → Fits x → Took whole All big (f (read_as x rest))) → Took whole All big (o >>= f)
took_bind spell Fits whole All bytes big (Err none) f h k = tt
took_bind spell Fits whole All bytes big (Ok x) f h k = k x.value x.rest h.0 h.1 h.2

pub took_some : {A : Type 0} (spell : A → List ℕ) (Fits : A → Type 0) (bytes : List ℕ) (o : Result (Read A) NoSpelling) (x : A) (rest : List ℕ) → Took spell Fits bytes o → o ≡ Ok (read_as x rest) → (bytes ≡ spell x ++ rest) × Fits x
took_some {A = A} spell Fits bytes (Err none) x rest h e = absurd cc
took_some {A = A} spell Fits bytes (Ok y) x rest h e =
    let s : y ≡ read_as x rest = cc in
    subst (λ (z : Read A). (bytes ≡ spell z.value ++ z.rest) × Fits z.value) s (h.0, h.2)

-- ---- numbers

pub u1_took : (bytes : List ℕ) → IsBytes bytes → Took (λ b. b ∷ []) (λ b. b < 2 ^ 8) bytes (spelled (next_u1 bytes))
u1_took [] fits = tt
u1_took (b ∷ bytes) fits = (refl, fits.1, fits.0)

two_bytes : (b c : ℕ) (rest : List ℕ) → b < 256 → c < 256 → b ∷ c ∷ rest ≡ to_be_bytes w16 (256 * b + c) ++ rest
two_bytes b c rest lb lc =
    let high : b ≡ (256 * b + c) / 256 % 256 = omega arith in
    let low : c ≡ (256 * b + c) % 256 = omega arith in
    ap (λ (x : ℕ). x ∷ c ∷ rest) high ∙ ap (λ (x : ℕ). (256 * b + c) / 256 % 256 ∷ x ∷ rest) low

pub u2_took : (bytes : List ℕ) → IsBytes bytes → Took (to_be_bytes w16) (λ n. n < 2 ^ 16) bytes (spelled (next_u2 bytes))
u2_took [] fits = tt
u2_took (b ∷ []) fits = tt
u2_took (b ∷ c ∷ rest) fits = (two_bytes b c rest fits.0 fits.1.0, fits.1.1, omega arith)

abbrev read_ok : ℕ → List ℕ → Result (Read ℕ) NoSpelling
read_ok k rest = Ok (read_as k rest)

pub u2_again : (n : ℕ) (rest : List ℕ) → n < 2 ^ 16 → spelled (next_u2 (to_be_bytes w16 n ++ rest)) ≡ Ok (read_as n rest)
u2_again n rest lt = let e : 256 * (n / 256 % 256) + n % 256 ≡ n = omega arith in ap (λ (k : ℕ). read_ok k rest) e

-- a number of two bytes, from the least one on
abbrev pub NumberFits : ℕ → ℕ → Type 0
NumberFits least n = (n < 2 ^ 16) × (least ≤ n)

pub number_took : (least : ℕ) (bytes : List ℕ) → IsBytes bytes → Took (to_be_bytes w16) (NumberFits least) bytes (next_number least bytes)
unfolding next_number
number_took least bytes fits =
    took_bind (to_be_bytes w16) (λ n. n < 2 ^ 16) (to_be_bytes w16) (NumberFits least) bytes bytes (spelled (next_u2 bytes)) _ (u2_took bytes fits) (λ n rest e more lt. tested n rest e more lt (ltb n least) refl)
  where
    tested : (n : ℕ) (rest : List ℕ) → bytes ≡ to_be_bytes w16 n ++ rest → IsBytes rest → n < 2 ^ 16 → (b : Bool) → ltb n least ≡ b → Took (to_be_bytes w16) (NumberFits least) bytes (cond b (Err no_spelling) (Ok (read_as n rest)))
    tested n rest e more lt true test = tt
    tested n rest e more lt false test = (e, more, (lt, ltb-false _ _ test))

pub number_again : (least n : ℕ) (rest : List ℕ) → NumberFits least n → next_number least (to_be_bytes w16 n ++ rest) ≡ Ok (read_as n rest)
unfolding next_number
number_again least n rest fits =
    let above : ltb n least ≡ false = le-ltb _ _ fits.1 in
    let whole : 256 * (n / 256 % 256) + n % 256 ≡ n = let lt = fits.0 in omega arith in
    rw (whole, above) refl

-- ---- so many, one after the other

module _ {S A : Type 0} (read : S → List ℕ → Result (Read A) NoSpelling) (next : A → S) (spell : A → List ℕ) (Fits : S → A → Type 0) where
  -- each fits in the state that the one before leaves
  abbrev pub Chain : S → List A → Type 0
  Chain s [] = Unit {0}
  Chain s (x ∷ xs) = Fits s x × Chain (next x) xs

  pub repeat_took : ((s : S) (bytes : List ℕ) → IsBytes bytes → Took spell (Fits s) bytes (read s bytes)) → (n : ℕ) (s : S) (bytes : List ℕ) → IsBytes bytes
      → Took (flat_map spell) (λ xs. (length xs ≡ n) × Chain s xs) bytes (repeat_at read next n s bytes)
  unfolding repeat_at
  repeat_took reads zero s bytes fits = (refl, fits, (refl, tt))
  repeat_took reads (suc n) s bytes fits =
      took_bind spell (Fits s) (flat_map spell) (λ xs. (length xs ≡ suc n) × Chain s xs) bytes bytes (read s bytes) _ (reads s bytes fits) (λ x rest e more fx. further x rest e more fx (repeat_took reads n (next x) rest more))
    where
      further : (x : A) (rest : List ℕ) → bytes ≡ spell x ++ rest → IsBytes rest → Fits s x → Took (flat_map spell) (λ xs. (length xs ≡ n) × Chain (next x) xs) rest (repeat_at read next n (next x) rest)
          → Took (flat_map spell) (λ xs. (length xs ≡ suc n) × Chain s xs) bytes (repeat_at read next n (next x) rest >>= λ others. Ok (read_as (x ∷ others.value) others.rest))
      further x rest e more fx h = took_bind (flat_map spell) (λ xs. (length xs ≡ n) × Chain (next x) xs) (flat_map spell) (λ xs. (length xs ≡ suc n) × Chain s xs) rest bytes (repeat_at read next n (next x) rest) _ h
          (λ xs last f lasts fits. (e ∙ ap (λ (w : List ℕ). spell x ++ w) f ∙ sym (append_assoc (spell x) (flat_map spell xs) last), lasts, (ap suc fits.0, (fx, fits.1))))

  pub repeat_again : ((s : S) (x : A) (rest : List ℕ) → Fits s x → read s (spell x ++ rest) ≡ Ok (read_as x rest)) → (s : S) (xs : List A) (rest : List ℕ) → Chain s xs
      → repeat_at read next (length xs) s (flat_map spell xs ++ rest) ≡ Ok (read_as xs rest)
  unfolding repeat_at
  repeat_again again s [] rest fits = refl
  repeat_again again s (x ∷ xs) rest fits =
      rw (append_assoc (spell x) (flat_map spell xs) rest, again s x (flat_map spell xs ++ rest) fits.0, repeat_again again (next x) xs rest fits.1) refl
