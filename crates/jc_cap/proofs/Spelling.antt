-- Signatures and their spelling.
use Rattle.std.proofs.Common.{◌≡◌, ◌↔◌, ℕ, zero, suc, ◌<◌, ◌≤◌, ◌==◌, Bool, cond, eqb, inl, inr, List, [], ◌∷◌, length, Result, Ok, refl, sym, ap, ◌∙◌, le_refl, arith}
use Rattle.std.proofs.lemmas.Bool.{eqb-true}
use Rattle.std.proofs.lemmas.List.{nil_from_length}
use Rattle.jc_base.specs.Cursor.{Read}
use Rattle.jc_base.specs.Results.{◌>>=◌}
use Rattle.jc_base.specs.declared.class_ref.ClassRef.{ClassRef}
use Rattle.jc_base.specs.declared.fault.LoadFault.{LoadFault}
use Rattle.jc_base.proofs.Binding.{the_ok, ok_err, bind_ok, choice}
use Rattle.jc_base.proofs.Repeats.{reading}
use Rattle.jc_base.specs.declared.declared_type.DeclaredType.{DeclaredType}
use Rattle.jc_base.specs.declared.declared_type.ReturnType.{ReturnType}
use Rattle.jc_base.specs.declared.declared_type.ReturnType.TheVariants.{Void, Value}
use Rattle.jc_cap.specs.DeclaredType.{next_coded_type, next_type, next_coded_return, next_return}
use Rattle.jc_base.specs.Signature.{Signature}
use Rattle.jc_cap.specs.Descriptor.{IsSpelled, with_parameter, signature_in, signature_of}
use Rattle.jc_cap.proofs.Signatures.{type-less, result-type, some_left, step_last, step_on}

-- Void's code begins no type, so a type is also what a method gives.

void_no_type : (nibbles : List ℕ) (x : Read (DeclaredType ClassRef)) → next_coded_type 1 nibbles ≡ Ok x → ⊥
unfolding next_coded_type
void_no_type nibbles x e = ok_err x _ (sym e)

type-result : (nibbles : List ℕ) (type : DeclaredType ClassRef) (rest : List ℕ) → next_type nibbles ≡ Ok (reading type rest) → next_return nibbles ≡ Ok (reading (Value type) rest)
unfolding next_return next_coded_return next_type
type-result [] type rest e = absurd cc
type-result (code ∷ nibbles) type rest e = part (code == 1) refl
  where
    part : (b : Bool) → eqb code 1 ≡ b → cond b (Ok (reading Void nibbles)) (next_coded_type code nibbles >>= λ found. Ok (reading (Value found.value) found.rest)) ≡ Ok (reading (Value type) rest)
    part b h1 = grind (arith, void_no_type, reading, eqb-true)

-- a signature as its two parts
abbrev signed : List (DeclaredType ClassRef) → ReturnType ClassRef → Signature ClassRef
signed types r = record { parameters = types; result = r }

spelled_left : (types : List (DeclaredType ClassRef)) (r : ReturnType ClassRef) (nibbles : List ℕ) → IsSpelled types r nibbles → 0 < length nibbles
spelled_left [] r nibbles is = some_left nibbles _ is
spelled_left (type ∷ types) r nibbles is = let h = type-less nibbles (reading type is.0) is.1 in omega arith

-- what is spelled is read
read_back : (types : List (DeclaredType ClassRef)) (r : ReturnType ClassRef) (steps : ℕ) (nibbles : List ℕ) → length nibbles ≤ steps → IsSpelled types r nibbles → signature_in steps nibbles ≡ Ok (signed types r)
read_back [] r steps nibbles le is = step_last steps nibbles [] r le is refl
read_back (type ∷ types) r steps nibbles le is =
    let left = spelled_left types r is.0 is.2 in
    let step = step_on steps nibbles is.0 (Value type) le (type-result nibbles type is.0 is.1) (λ e. omega arith) in
    let less = type-less nibbles (reading type is.0) is.1 in
    let more = read_back types r step.0 is.0 (let k = step.1 in omega arith) is.2 in
    step.2 ∙ ap (with_parameter (Value type)) more

-- what is read in one step

last_spelled : (s : Signature ClassRef) (nibbles : List ℕ) (next : Read (ReturnType ClassRef)) → next_return nibbles ≡ Ok next → length next.rest ≡ 0 → ◌≡◌ {A = Result (Signature ClassRef) LoadFault} (Ok (signed [] next.value)) (Ok s) → IsSpelled s.parameters s.result nibbles
last_spelled s nibbles next e end h = grind (arith, the_ok, reading, nil_from_length)

more_spelled : (s : Signature ClassRef) (nibbles : List ℕ) (v : ReturnType ClassRef) (rest : List ℕ) (others : Result (Signature ClassRef) LoadFault) → ((t : Signature ClassRef) → others ≡ Ok t → IsSpelled t.parameters t.result rest)
    → next_return nibbles ≡ Ok (reading v rest) → with_parameter v others ≡ Ok s → IsSpelled s.parameters s.result nibbles
more_spelled s nibbles v rest others h1 h2 h3 = grind (arith, the_ok, result-type)

-- what is read is spelled
spelled : (steps : ℕ) (nibbles : List ℕ) (s : Signature ClassRef) → signature_in steps nibbles ≡ Ok s → IsSpelled s.parameters s.result nibbles
spelled zero nibbles s e = absurd cc
spelled (suc steps) nibbles s e =
    let a = bind_ok (next_return nibbles) _ s e in
    elim (choice (eqb (length a.0.rest) 0) _ _ _ a.2) [
      | inl h ↦ last_spelled s nibbles a.0 a.1 (eqb-true _ _ h.0) h.1
      | inr h ↦ more_spelled s nibbles a.0.value a.0.rest (signature_in steps a.0.rest) (λ t f. spelled steps a.0.rest t f) a.1 h.1
    ]

-- a signature is read exactly from its spelling
pub read-spelled : (nibbles : List ℕ) (s : Signature ClassRef) → (signature_of nibbles ≡ Ok s) ↔ IsSpelled s.parameters s.result nibbles
unfolding signature_of
read-spelled nibbles s = (spelled (length nibbles) nibbles s, read_back s.parameters s.result (length nibbles) nibbles (le_refl (length nibbles)))
