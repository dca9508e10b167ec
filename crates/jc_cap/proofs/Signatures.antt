-- Signatures in nibbles.
use Rattle.std.proofs.Common.{◌≡◌, ℕ, zero, suc, ◌+◌, ◌<◌, ◌≤◌, ◌==◌, IsTrue, Bool, true, false, cond, eqb, List, [], ◌∷◌, ◌++◌, length, append-nil, None, Result, Ok, Err, refl, sym, ap, ◌∙◌, le_refl, append_assoc, arith}
use Rattle.std.proofs.lemmas.Bool.{eq-eqb, ne_eqb}
use Rattle.std.proofs.lemmas.List.{nil_from_length, length-take}
use Rattle.jc_base.specs.Cursor.{Read}
use Rattle.jc_base.specs.Results.{◌>>=◌}
use Rattle.jc_base.specs.Rows.{repeat}
use Rattle.jc_base.specs.declared.class_ref.ClassRef.{ClassRef}
use Rattle.jc_base.specs.declared.fault.LoadFault.{LoadFault}
use Rattle.jc_base.specs.declared.fault.LoadFault.TheVariants.{Malformed}
use Rattle.jc_base.proofs.Binding.{the_ok, ok_err, bind_ok}
use Rattle.jc_base.proofs.Repeats.{reading, nothing_read, one_behind}
use Rattle.jc_base.specs.declared.declared_type.DeclaredType.{DeclaredType}
use Rattle.jc_base.specs.declared.declared_type.ReturnType.{ReturnType}
use Rattle.jc_base.specs.declared.declared_type.ReturnType.TheVariants.{Void, Value}
use Rattle.jc_cap.specs.Nibbles.{next_nibbles}
use Rattle.jc_cap.specs.DeclaredType.{next_class, of_class, no_more, next_coded_type, next_type, next_coded_return, next_return}
use Rattle.jc_base.specs.Signature.{Signature}
use Rattle.jc_cap.specs.Descriptor.{with_parameter, signature_in, signature_of, field_type_of}

pub no_field : (s : Signature ClassRef) → (length s.parameters ≡ 0 → ⊥) → None ≡ field_type_of s
no_field s ne = let t : eqb (length s.parameters) 0 ≡ false = ne_eqb _ _ ne in rw t refl

-- what is left behind a type is no more than there was
abbrev Keeps : {A : Type 0} → (List ℕ → Result (Read A) LoadFault) → Type 0
Keeps {A = A} f = (nibbles : List ℕ) (x : Read A) → f nibbles ≡ Ok x → length x.rest ≤ length nibbles

keeps_if : {A : Type 0} (b : Bool) (f g : List ℕ → Result (Read A) LoadFault) → Keeps f → Keeps g → Keeps (λ nibbles. cond b (f nibbles) (g nibbles))
keeps_if b f g h1 h2 = grind arith

keeps_none : {A : Type 0} (fault : LoadFault) → Keeps {A = A} (λ nibbles. Err fault)
keeps_none fault nibbles x e = absurd cc

keeps_no_more : (type : DeclaredType ClassRef) → Keeps (no_more type)
keeps_no_more type nibbles x e = let h : length nibbles ≡ length x.rest = ap (λ (r : Read (DeclaredType ClassRef)). length r.rest) (the_ok _ x e) in omega arith

keeps_class : Keeps next_class
unfolding next_class
keeps_class = grind (arith, the_ok)

keeps_of_class : (type : ClassRef → DeclaredType ClassRef) → Keeps (of_class type)
keeps_of_class type nibbles x e = grind (arith, bind_ok, the_ok, keeps_class)

keeps_type : (code : ℕ) → Keeps (next_coded_type code)
unfolding next_coded_type
keeps_type code = grind (arith, keeps_if, keeps_no_more, keeps_of_class, keeps_none)

-- a type takes a nibble at least
pub type-less : (nibbles : List ℕ) (x : Read (DeclaredType ClassRef)) → next_type nibbles ≡ Ok x → length x.rest < length nibbles
unfolding next_type
type-less nibbles x h1 = grind (arith, keeps_type)

void_value : (type : DeclaredType ClassRef) → Void ≡ Value type → ⊥
void_value type h = cc

the_value : (s t : DeclaredType ClassRef) → Value s ≡ Value t → s ≡ t
the_value s t h = cc

-- a result that isn't void is a type
pub result-type : (nibbles : List ℕ) (type : DeclaredType ClassRef) (rest : List ℕ) → next_return nibbles ≡ Ok (reading (Value type) rest) → next_type nibbles ≡ Ok (reading type rest)
unfolding next_return next_coded_return next_type
result-type [] type rest e = absurd cc
result-type (code ∷ nibbles) type rest e = part (code == 1) e
  where
    part : (b : Bool) → cond b (Ok (reading Void nibbles)) (next_coded_type code nibbles >>= λ found. Ok (reading (Value found.value) found.rest)) ≡ Ok (reading (Value type) rest) → next_coded_type code nibbles ≡ Ok (reading type rest)
    part b h1 = grind (arith, void_value, the_ok, bind_ok, reading, the_value)

none_left : next_return [] ≡ Err (Malformed 11)
unfolding next_return
none_left = refl

-- a signature with parameters in front
abbrev pub before : List (DeclaredType ClassRef) → Result (Signature ClassRef) LoadFault → Result (Signature ClassRef) LoadFault
before front found = found >>= λ s. Ok (record { parameters = front ++ s.parameters; result = s.result })

pub some_left : (left : List ℕ) (x : Read (ReturnType ClassRef)) → next_return left ≡ Ok x → 0 < length left
some_left [] x e = absurd (ok_err x _ (sym e ∙ none_left))
some_left (code ∷ left) x e = omega arith

-- One step, with enough of them left.

the_err : (a b : LoadFault) → ◌≡◌ {A = Result (Read (ReturnType ClassRef)) LoadFault} (Err a) (Err b) → a ≡ b
the_err a b h = cc

step_none : (steps : ℕ) (left : List ℕ) (fault : LoadFault) → length left ≤ steps → next_return left ≡ Err fault → signature_in steps left ≡ Err fault
step_none zero [] fault le e = ap (λ (f : LoadFault). Err f) (the_err _ _ (sym none_left ∙ e))
step_none zero (code ∷ left) fault le e = absurd (omega arith)
step_none (suc steps) left fault le e = rw e refl

pub step_last : (steps : ℕ) (left rest : List ℕ) (r : ReturnType ClassRef) → length left ≤ steps → next_return left ≡ Ok (reading r rest) → length rest ≡ 0
    → signature_in steps left ≡ Ok (record { parameters = []; result = r })
step_last steps left rest r h1 h2 h3 = grind (arith, some_left, eq-eqb)

pub step_on : (steps : ℕ) (left rest : List ℕ) (r : ReturnType ClassRef) → length left ≤ steps → next_return left ≡ Ok (reading r rest) → (length rest ≡ 0 → ⊥)
    → (fewer : ℕ) × (steps ≡ suc fewer) × (signature_in steps left ≡ with_parameter r (signature_in fewer rest))
step_on zero left rest r le e more = let some = some_left left _ e in absurd (omega arith)
step_on (suc steps) left rest r le e more = let t : eqb (length rest) 0 ≡ false = ne_eqb _ _ more in (steps, refl, rw (e, t) refl)

-- n parameters were taken, and what is left decides
pub record IsSoFar (nibbles : List ℕ) (n : ℕ) (left : List ℕ) : Type 0 where
  pub front : List (DeclaredType ClassRef)
  pub taken : repeat next_type n nibbles ≡ Ok (reading front left)
  pub steps : ℕ
  pub enough : length left ≤ steps
  pub same : before front (signature_in steps left) ≡ signature_of nibbles
  pub within : n + length left ≤ length nibbles

pub so_far_first : (nibbles left : List ℕ) → left ≡ nibbles → IsSoFar nibbles 0 left
unfolding signature_of
so_far_first nibbles left is =
    rw is (record { front = []; taken = nothing_read next_type nibbles; steps = length nibbles; enough = le_refl (length nibbles); same = part (signature_in (length nibbles) nibbles); within = omega arith })
  where
    part : (found : Result (Signature ClassRef) LoadFault) → before [] found ≡ found
    part found = grind arith

pub so_far_none : (nibbles : List ℕ) (n : ℕ) (left : List ℕ) (fault : LoadFault) → IsSoFar nibbles n left → next_return left ≡ Err fault → Err fault ≡ signature_of nibbles
so_far_none nibbles n left fault s e = ap (before s.front) (sym (step_none s.steps left fault s.enough e)) ∙ s.same

-- the parameters that were taken are what is read again
pub so_far_last : (nibbles again : List ℕ) (n : ℕ) (left rest new : List ℕ) (r : ReturnType ClassRef) (rows : List (DeclaredType ClassRef)) → IsSoFar nibbles n left → again ≡ nibbles → repeat next_type n again ≡ Ok (reading rows new)
    → next_return left ≡ Ok (reading r rest) → length rest ≡ 0 → Ok (record { parameters = rows; result = r }) ≡ signature_of nibbles
so_far_last nibbles again n left rest new r rows s is read e end =
    let same = the_ok _ _ (sym read ∙ ap (λ (w : List ℕ). repeat next_type n w) is ∙ s.taken) in
    ap (λ (xs : List (DeclaredType ClassRef)). Ok (signed xs)) (ap (λ (w : Read (List (DeclaredType ClassRef))). w.value) same ∙ sym (append-nil s.front))
    ∙ ap (before s.front) (sym (step_last s.steps left rest r s.enough e end)) ∙ s.same
  where
    signed : List (DeclaredType ClassRef) → Signature ClassRef
    signed xs = record { parameters = xs; result = r }

pub so_far_there : (nibbles again : List ℕ) (n : ℕ) (left : List ℕ) (fault : LoadFault) → IsSoFar nibbles n left → again ≡ nibbles → repeat next_type n again ≡ Err fault → ⊥
so_far_there nibbles again n left fault s is e = ok_err _ _ (sym s.taken ∙ ap (λ (w : List ℕ). repeat next_type n w) (sym is) ∙ e)

pub so_far_void : (nibbles : List ℕ) (n : ℕ) (left rest : List ℕ) → IsSoFar nibbles n left → next_return left ≡ Ok (reading Void rest) → (length rest ≡ 0 → ⊥) → Err (Malformed 11) ≡ signature_of nibbles
so_far_void nibbles n left rest s e more = grind (arith, step_on)

pub so_far_less : (left rest : List ℕ) (type : DeclaredType ClassRef) → next_return left ≡ Ok (reading (Value type) rest) → length rest < length left
so_far_less left rest type e = type-less left (reading type rest) (result-type left type rest e)

pub so_far_more : (nibbles : List ℕ) (n : ℕ) (left rest : List ℕ) (type : DeclaredType ClassRef) → IsSoFar nibbles n left → next_return left ≡ Ok (reading (Value type) rest) → (length rest ≡ 0 → ⊥)
    → IsSoFar nibbles (n + 1) rest
so_far_more nibbles n left rest type s e more =
    let step = step_on s.steps left rest (Value type) s.enough e more in
    let less = so_far_less left rest type e in
    let one : n + 1 ≡ suc n = omega arith in
    record {
      front = s.front ++ type ∷ [];
      taken = rw one (one_behind next_type n nibbles _ (reading type rest) s.taken (result-type left type rest e));
      steps = step.0;
      enough = let a = s.enough in let b = step.1 in omega arith;
      same = part (signature_in step.0 rest) ∙ ap (before s.front) (sym step.2) ∙ s.same;
      within = let a = s.within in omega arith;
    }
  where
    part : (found : Result (Signature ClassRef) LoadFault) → before (s.front ++ type ∷ []) found ≡ before s.front (with_parameter (Value type) found)
    part found = grind (arith, append_assoc)

-- what a test for no nibbles says
pub is_end : (b : Bool) (left : List ℕ) → (IsTrue b → left ≡ []) × (left ≡ [] → IsTrue b) → b ≡ true → length left ≡ 0
is_end b left t e = ap length (t.0 e)

pub is_no_end : (b : Bool) (left : List ℕ) → (IsTrue b → left ≡ []) × (left ≡ [] → IsTrue b) → b ≡ false → length left ≡ 0 → ⊥
is_no_end b left h1 h2 h3 = grind (arith, nil_from_length)

-- nibbles that a byte counts are fewer than 256
pub few_nibbles : (n : ℕ) (bytes : List ℕ) (r : Read (List ℕ)) → n < 256 → next_nibbles n bytes ≡ Ok r → length r.value < 256
unfolding next_nibbles
few_nibbles n bytes r small e = grind (arith, bind_ok, the_ok, length-take)
