-- Results and options whose refusals are of one kind.
use Rattle.std.proofs.Common.{◌≡◌, ℕ, zero, suc, ◌==◌, Bool, true, false, cond, List}
use Rattle.std.proofs.Common.{[], ◌∷◌, length, refl, subst}
use Rattle.std.proofs.Common.{Option, Some, None, Result, Ok, Err}
use Rattle.jc_base.specs.Cursor.{Read, field, whole}
use Rattle.jc_base.specs.PlacedRows.{placed_in, placed_rows}
use Rattle.jc_base.specs.Results.{◌>>=◌}
use Rattle.jc_base.specs.Rows.{repeat}
use Rattle.jc_base.specs.declared.fault.LoadFault.{LoadFault}
use Rattle.jc_base.specs.declared.fault.LoadFault.TheVariants.{BadAid, Malformed}
use Rattle.jc_cap_desc.specs.Package.{fault_of}

-- the refusals that readers of single components have, apart from the Header's
pub data OfPart : LoadFault → Type 0 where
  bad_aid : OfPart BadAid
  bad_layout : (tag : ℕ) → OfPart (Malformed tag)

-- each refusal of a result is of a kind
pub record Refuses (P : LoadFault → Type 0) {A : Type 0} (result : Result A LoadFault) : Type 0 where
  pub each : (fault : LoadFault) → result ≡ Err fault → P fault

-- and so is a refusal that is told or not
pub record Tells (P : LoadFault → Type 0) (found : Option LoadFault) : Type 0 where
  pub each : (fault : LoadFault) → found ≡ Some fault → P fault

the_fault : {A : Type 0} (a b : LoadFault) → ◌≡◌ {A = Result A LoadFault} (Err a) (Err b) → a ≡ b
the_fault a b e = cc

the_told : (a b : LoadFault) → Some a ≡ Some b → a ≡ b
the_told a b e = cc

-- ---- results

pub gives : (P : LoadFault → Type 0) {A : Type 0} (x : A) → Refuses P {A = A} (Ok x)
gives P x = record { each = λ fault e. absurd cc }

pub refuses : (P : LoadFault → Type 0) {A : Type 0} (a : LoadFault) → P a
    → Refuses P {A = A} (Err a)
refuses P a h = record { each = λ b e. subst P (the_fault a b e) h }

pub behind : (P : LoadFault → Type 0) {A B : Type 0} (r : Result A LoadFault) (next : A → Result B LoadFault)
    → Refuses P r → ((x : A) → Refuses P (next x)) → Refuses P (r >>= next)
behind P (Ok x) next h k = k x
behind P (Err a) next h k = refuses P a (h.each a refl)

pub either : (P : LoadFault → Type 0) {A : Type 0} (b : Bool) (r s : Result A LoadFault) → Refuses P r
    → Refuses P s → Refuses P (cond b r s)
either P true r s h k = h
either P false r s h k = k

pub malformed : (tag : ℕ) → OfPart (Malformed tag)
malformed tag = bad_layout tag

pub in_field : {A : Type 0} (tag : ℕ) (found : Option A) → Refuses OfPart (field tag found)
in_field tag (Some x) = gives OfPart x
in_field tag None = refuses OfPart (Malformed tag) (malformed tag)

pub in_whole : {A : Type 0} (tag : ℕ) (r : Result (Read A) LoadFault) → Refuses OfPart r
    → Refuses OfPart (whole (Malformed tag) r)
in_whole tag (Ok x) h =
    either OfPart (length x.rest == 0) (Ok x.value) (Err (Malformed tag)) (gives OfPart x.value)
    (refuses OfPart (Malformed tag) (malformed tag))
in_whole tag (Err a) h = refuses OfPart a (h.each a refl)

pub guarded : {A : Type 0} (tag : ℕ) (b : Bool) (x : A) → Refuses OfPart (cond b (Ok x) (Err (Malformed tag)))
guarded tag b x =
    either OfPart b (Ok x) (Err (Malformed tag)) (gives OfPart x) (refuses OfPart (Malformed tag) (malformed tag))

pub in_rows : {A : Type 0} (next_row : List ℕ → Result (Read A) LoadFault)
    → ((bytes : List ℕ) → Refuses OfPart (next_row bytes)) → (n : ℕ) (bytes : List ℕ)
    → Refuses OfPart (repeat next_row n bytes)
unfolding repeat
in_rows next_row h zero bytes = gives OfPart _
in_rows next_row h (suc n) bytes =
    behind OfPart _ _ (h bytes) (λ first. behind OfPart _ _ (in_rows next_row h n first.rest) (λ more. gives OfPart _))

in_placed : {A : Type 0} (next_row : List ℕ → Result (Read A) LoadFault)
    → ((bytes : List ℕ) → Refuses OfPart (next_row bytes)) → (total steps : ℕ) (bytes : List ℕ)
    → Refuses OfPart (placed_in next_row total steps bytes)
in_placed next_row h total zero [] = gives OfPart _
in_placed next_row h total (suc steps) [] = gives OfPart _
in_placed next_row h total zero (b ∷ bytes) = gives OfPart _
in_placed next_row h total (suc steps) (b ∷ bytes) =
    behind OfPart _ _ (h (b ∷ bytes)) (λ first.
    behind OfPart _ _ (in_placed next_row h total steps first.rest) (λ more.
    gives OfPart _))

pub in_placed_rows : {A : Type 0} (next_row : List ℕ → Result (Read A) LoadFault)
    → ((bytes : List ℕ) → Refuses OfPart (next_row bytes)) → (first : ℕ) (bytes : List ℕ)
    → Refuses OfPart (placed_rows next_row first bytes)
unfolding placed_rows
in_placed_rows next_row h first bytes = in_placed next_row h _ _ _

-- ---- options

pub silent : (P : LoadFault → Type 0) → Tells P None
silent P = record { each = λ fault e. absurd cc }

pub tells : (P : LoadFault → Type 0) (a : LoadFault) → P a → Tells P (Some a)
tells P a h = record { each = λ b e. subst P (the_told a b e) h }

pub told_of : (P : LoadFault → Type 0) {A : Type 0} (r : Result A LoadFault) → Refuses P r
    → Tells P (fault_of r)
told_of P (Ok x) h = silent P
told_of P (Err a) h = tells P a (h.each a refl)
