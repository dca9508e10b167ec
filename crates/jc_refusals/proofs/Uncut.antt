-- Why an image isn't cut into its components.
use Rattle.std.proofs.Common.{◌≡◌, ◌≤◌, ℕ, not, cond, List, [], ◌∷◌, length, Option, Some, None}
use Rattle.std.proofs.Common.{Result, Ok, Err, arith, refl, ap, subst}
use Rattle.std.specs.Prelude.{is_some}
use Rattle.jc_base.specs.Cutting.{Piece, answer, info_of, infos_by, needed, single, twice}
use Rattle.jc_base.specs.Parts.{Infos}
use Rattle.jc_base.specs.Results.{◌>>=◌}
use Rattle.jc_base.specs.Tag.{applet_tag, class_tag, constant_pool_tag, descriptor_tag, export_tag, header_tag}
use Rattle.jc_base.specs.Tag.{import_tag, method_tag, static_field_tag}
use Rattle.jc_base.specs.declared.fault.LoadFault.{LoadFault}
use Rattle.jc_base.specs.declared.fault.LoadFault.TheVariants.{ExtraBytes, MissingComponent, RepeatedComponent}
use Rattle.jc_base.specs.declared.fault.LoadFault.TheVariants.{ShortComponent}
use Rattle.jc_refusals.proofs.Before.{Before, before_less, before_same}
use Rattle.jc_refusals.specs.Reading.{first_missing}
use Rattle.jc_refusals.specs.Order.{IsBetween}

-- a refusal of cutting that applies to pieces and a rest
pub data OfCutting (pieces : List Piece) (rest : List ℕ) : LoadFault → Type 0 where
  short : 3 ≤ length rest → OfCutting pieces rest ShortComponent
  extra : 1 ≤ length rest → length rest ≤ 2 → OfCutting pieces rest ExtraBytes
  missing : (tag : ℕ) → first_missing pieces ≡ Some tag → OfCutting pieces rest (MissingComponent tag)
  repeated : (tag : ℕ) → twice pieces ≡ Some tag → OfCutting pieces rest (RepeatedComponent tag)

pub cut_number : (pieces : List Piece) (rest : List ℕ) (g : LoadFault) → OfCutting pieces rest g → IsBetween 1 4 g
cut_number pieces rest _ (short h) = record { from = omega arith; to = omega arith }
cut_number pieces rest _ (extra h k) = record { from = omega arith; to = omega arith }
cut_number pieces rest _ (missing tag e) = record { from = omega arith; to = omega arith }
cut_number pieces rest _ (repeated tag e) = record { from = omega arith; to = omega arith }

-- ---- missing and repeated components

-- which of a missing and a repeated tag is told
data IsTold (lacking again : Option ℕ) : LoadFault → Type 0 where
  lacks : (tag : ℕ) → lacking ≡ Some tag → IsTold lacking again (MissingComponent tag)
  repeats : (tag : ℕ) → again ≡ Some tag → IsTold lacking again (RepeatedComponent tag)

record IsAnswer (lacking again : Option ℕ) (found : Result Infos LoadFault) : Type 0 where
  told : (fault : LoadFault) → found ≡ Err fault → IsTold lacking again fault
  first : (fault g : LoadFault) → found ≡ Err fault → IsTold lacking again g → Before fault g
  none : (parts : Infos) (g : LoadFault) → found ≡ Ok parts → IsTold lacking again g → ⊥

missing_before : (again : Option ℕ) (tag : ℕ) (g : LoadFault) → IsTold (Some tag) again g
    → Before (MissingComponent tag) g
missing_before again tag _ (lacks other e) =
    before_same (MissingComponent tag) (MissingComponent other)
    (let same : tag ≡ other = cc in ap MissingComponent same)
missing_before again tag _ (repeats other e) =
    before_less (MissingComponent tag) (RepeatedComponent other) (omega arith)

answer_missing : (again : Option ℕ) (tag : ℕ) → IsAnswer (Some tag) again (Err (MissingComponent tag))
answer_missing again tag = record {
  told = λ fault e. (
      let same : MissingComponent tag ≡ fault = cc in subst (IsTold (Some tag) again) same (lacks tag refl));
  first = λ fault g e h. (
      let same : MissingComponent tag ≡ fault = cc in
      subst (λ (f : LoadFault). Before f g) same (missing_before again tag g h));
  none = λ parts g e h. absurd cc;
}

answer_needed : (again more : Option ℕ) (tag : ℕ) (info : Option (List ℕ)) (next : List ℕ → Result Infos LoadFault)
    → ((x : List ℕ) → IsAnswer more again (next x))
    → IsAnswer (cond (not (is_some info)) (Some tag) more) again (needed tag info >>= next)
answer_needed again more tag None next h = answer_missing again tag
answer_needed again more tag (Some x) next h = h x

repeated_before : (tag : ℕ) (g : LoadFault) → IsTold None (Some tag) g → Before (RepeatedComponent tag) g
repeated_before tag _ (lacks other e) = absurd cc
repeated_before tag _ (repeats other e) =
    before_same (RepeatedComponent tag) (RepeatedComponent other)
    (let same : tag ≡ other = cc in ap RepeatedComponent same)

never_told : (g : LoadFault) → IsTold None None g → ⊥
never_told _ (lacks other e) = absurd cc
never_told _ (repeats other e) = absurd cc

answer_single : (again : Option ℕ) (parts : Infos) → IsAnswer None again (single again parts)
answer_single None parts = record {
  told = λ fault e. absurd cc;
  first = λ fault g e h. absurd cc;
  none = λ others g e h. never_told g h;
}
answer_single (Some tag) parts = record {
  told = λ fault e. (
      let same : RepeatedComponent tag ≡ fault = cc in subst (IsTold None (Some tag)) same (repeats tag refl));
  first = λ fault g e h. (
      let same : RepeatedComponent tag ≡ fault = cc in
      subst (λ (f : LoadFault). Before f g) same (repeated_before tag g h));
  none = λ others g e h. absurd cc;
}

-- the infos that are needed, with those that may be missing
abbrev infos_with : (ℕ → Option (List ℕ)) → List ℕ → List ℕ → List ℕ → List ℕ → List ℕ → List ℕ → Infos
infos_with info header constant_pool class methods static_field descriptor =
    record {
      header = header;
      applet = info applet_tag;
      imports = info import_tag;
      constant_pool = constant_pool;
      class = class;
      method = methods;
      static_field = static_field;
      export = info export_tag;
      descriptor = descriptor;
    }

given : (pieces : List Piece)
    → IsAnswer (first_missing pieces) (twice pieces) (infos_by (λ tag. info_of tag pieces) (twice pieces))
unfolding infos_by
given pieces =
    answer_needed (twice pieces) _ header_tag (info_of header_tag pieces) _ (λ header.
    answer_needed (twice pieces) _ constant_pool_tag (info_of constant_pool_tag pieces) _ (λ constant_pool.
    answer_needed (twice pieces) _ class_tag (info_of class_tag pieces) _ (λ class.
    answer_needed (twice pieces) _ method_tag (info_of method_tag pieces) _ (λ methods.
    answer_needed (twice pieces) _ static_field_tag (info_of static_field_tag pieces) _ (λ static_field.
    answer_needed (twice pieces) None descriptor_tag (info_of descriptor_tag pieces) _ (λ descriptor.
    answer_single (twice pieces)
    (infos_with (λ tag. info_of tag pieces) header constant_pool class methods static_field descriptor)))))))

-- ---- a whole image

of_told : (pieces : List Piece) (rest : List ℕ) (f : LoadFault) → IsTold (first_missing pieces) (twice pieces) f
    → OfCutting pieces rest f
of_told pieces rest _ (lacks tag e) = missing tag e
of_told pieces rest _ (repeats tag e) = repeated tag e

told_of : (pieces : List Piece) (g : LoadFault) → OfCutting pieces [] g
    → IsTold (first_missing pieces) (twice pieces) g
told_of pieces _ (short h) = absurd (omega (arith, h))
told_of pieces _ (extra h k) = absurd (omega (arith, h))
told_of pieces _ (missing tag e) = lacks tag e
told_of pieces _ (repeated tag e) = repeats tag e

pub cut_told : (pieces : List Piece) (rest : List ℕ) (f : LoadFault) → answer pieces rest ≡ Err f
    → OfCutting pieces rest f
cut_told pieces [] f e = let is = given pieces in of_told pieces [] f (is.told f e)
cut_told pieces (a ∷ []) f e =
    let same : ExtraBytes ≡ f = cc in
    subst (OfCutting pieces (a ∷ [])) same (extra (omega arith) (omega arith))
cut_told pieces (a ∷ b ∷ []) f e =
    let same : ExtraBytes ≡ f = cc in
    subst (OfCutting pieces (a ∷ b ∷ [])) same (extra (omega arith) (omega arith))
cut_told pieces (a ∷ b ∷ c ∷ rest) f e =
    let same : ShortComponent ≡ f = cc in
    subst (OfCutting pieces (a ∷ b ∷ c ∷ rest)) same (short (omega arith))

extra_before : (pieces : List Piece) (rest : List ℕ) (g : LoadFault) → length rest ≤ 2 → OfCutting pieces rest g
    → Before ExtraBytes g
extra_before pieces rest _ few (short h) = absurd (omega (arith, few, h))
extra_before pieces rest _ few (extra h k) = before_same ExtraBytes ExtraBytes refl
extra_before pieces rest _ few (missing tag e) = before_less ExtraBytes (MissingComponent tag) (omega arith)
extra_before pieces rest _ few (repeated tag e) = before_less ExtraBytes (RepeatedComponent tag) (omega arith)

short_before : (pieces : List Piece) (rest : List ℕ) (g : LoadFault) → OfCutting pieces rest g
    → Before ShortComponent g
short_before pieces rest _ (short h) = before_same ShortComponent ShortComponent refl
short_before pieces rest _ (extra h k) = before_less ShortComponent ExtraBytes (omega arith)
short_before pieces rest _ (missing tag e) = before_less ShortComponent (MissingComponent tag) (omega arith)
short_before pieces rest _ (repeated tag e) = before_less ShortComponent (RepeatedComponent tag) (omega arith)

pub cut_before : (pieces : List Piece) (rest : List ℕ) (f g : LoadFault) → answer pieces rest ≡ Err f
    → OfCutting pieces rest g → Before f g
cut_before pieces [] f g e h = let is = given pieces in is.first f g e (told_of pieces g h)
cut_before pieces (a ∷ []) f g e h =
    let same : ExtraBytes ≡ f = cc in
    subst (λ (x : LoadFault). Before x g) same (extra_before pieces (a ∷ []) g (omega arith) h)
cut_before pieces (a ∷ b ∷ []) f g e h =
    let same : ExtraBytes ≡ f = cc in
    subst (λ (x : LoadFault). Before x g) same (extra_before pieces (a ∷ b ∷ []) g (omega arith) h)
cut_before pieces (a ∷ b ∷ c ∷ rest) f g e h =
    let same : ShortComponent ≡ f = cc in
    subst (λ (x : LoadFault). Before x g) same (short_before pieces (a ∷ b ∷ c ∷ rest) g h)

pub never_cut : (pieces : List Piece) (rest : List ℕ) (parts : Infos) (g : LoadFault)
    → answer pieces rest ≡ Ok parts → OfCutting pieces rest g → ⊥
never_cut pieces [] parts g e h = let is = given pieces in is.none parts g e (told_of pieces g h)
never_cut pieces (a ∷ []) parts g e h = absurd cc
never_cut pieces (a ∷ b ∷ []) parts g e h = absurd cc
never_cut pieces (a ∷ b ∷ c ∷ rest) parts g e h = absurd cc
