-- What is read is spelled so, and what is spelled so is read.
use Rattle.std.proofs.Common.{◌≡◌, ℕ, ◌+◌, ◌*◌, ◌/◌, ◌%◌, ◌^◌, ◌<◌, ◌≤◌, Bool, true, false, cond, List, [], ◌∷◌, ◌++◌, length, get_or, suc, ◌==◌, Result, Ok, Err, refl, sym, ap, ◌∙◌, append_assoc, arith}
use Rattle.std.specs.List.{flat_map, AllByRecursion}
use Rattle.std.specs.Int.{w16, to_be_bytes}
use Rattle.std.proofs.lemmas.Bool.{eqb-true}
use Rattle.std.proofs.lemmas.List.{append-nil, nil_from_length}
use Rattle.jc_base.specs.Cursor.{Read, next_u1, next_u2}
use Rattle.jc_base.specs.declared.fault.LoadFault.{LoadFault}
use Rattle.jc_base.specs.declared.fault.LoadFault.TheVariants as fault
use Rattle.jc_cert.specs.declared.stated_type.StatedType.{StatedType}
use Rattle.jc_cert.specs.declared.refusal.Refusal.{Refusal}
use Rattle.jc_cert.specs.declared.refusal.Refusal.TheVariants.{Unspelled, Memory}
use Rattle.jc_cert.specs.declared.refusal.NoSpelling.{NoSpelling}
use Rattle.jc_cert.specs.Cert.{Stated, Row, PcsAscend, OffsetsAscend, IsStatedType, IsStated, IsRow, IsCert}
use Rattle.jc_cert.specs.Writing.{type_bytes, stated_bytes, row_bytes, spelling}
use Rattle.jc_cert.specs.PrivateReading.{next_number, next_type, next_types, next_stated, next_states, next_row, next_rows, next_cert, Fails, fault_of, no_spelling, spelled}
use Rattle.jc_cert.proofs.Repeats.{read_as}
use Rattle.jc_cert.proofs.Types.{type_took, type_again}
use Rattle.jc_cert.proofs.Fields.{IsBytes, Took, took_bind, took_some, u1_took, u2_took, NumberFits, number_took, number_again, Chain, repeat_took, repeat_again}

-- ---- so many types

abbrev pub type_in : ℕ → List ℕ → Result (Read StatedType) NoSpelling
type_in s bytes = next_type bytes

abbrev pub Types : ℕ → List StatedType → Type 0
Types n ts = (length ts ≡ n) × Chain type_in (λ t. 0) type_bytes (λ s. IsStatedType) 0 ts

types_took : (n : ℕ) (bytes : List ℕ) → IsBytes bytes → Took (flat_map type_bytes) (Types n) bytes (next_types n bytes)
types_took n bytes fits = repeat_took type_in (λ t. 0) type_bytes (λ s. IsStatedType) (λ s bs f. type_took bs f) n 0 bytes fits

types_each : (ts : List StatedType) → Chain type_in (λ t. 0) type_bytes (λ s. IsStatedType) 0 ts → AllByRecursion IsStatedType ts
types_each [] h = tt
types_each (t ∷ ts) h = (h.0, types_each ts h.1)

types_from : (ts : List StatedType) → AllByRecursion IsStatedType ts → Chain type_in (λ t. 0) type_bytes (λ s. IsStatedType) 0 ts
types_from [] h = tt
types_from (t ∷ ts) h = (h.0, types_from ts h.1)

types_again : (ts : List StatedType) (rest : List ℕ) → AllByRecursion IsStatedType ts → next_types (length ts) (flat_map type_bytes ts ++ rest) ≡ Ok (read_as ts rest)
types_again ts rest each = repeat_again type_in (λ t. 0) type_bytes (λ s. IsStatedType) (λ s t r f. type_again t r f) 0 ts rest (types_from ts each)

-- ---- a state

abbrev pub StatedIn : ℕ → Stated → Type 0
StatedIn least s = IsStated s × (least ≤ s.pc)

stated_took : (least : ℕ) (bytes : List ℕ) → IsBytes bytes → Took stated_bytes (StatedIn least) bytes (next_stated least bytes)
unfolding next_stated
stated_took least bytes fits =
    took_bind (to_be_bytes w16) (NumberFits least) stated_bytes (StatedIn least) bytes bytes (next_number least bytes) _ (number_took least bytes fits) (λ pc r1 e1 m1 f1.
    took_bind (to_be_bytes w16) (λ n. n < 2 ^ 16) stated_bytes (StatedIn least) r1 bytes (spelled (next_u2 r1)) _ (u2_took r1 m1) (λ count r2 e2 m2 f2.
    took_bind (flat_map type_bytes) (Types count) stated_bytes (StatedIn least) r2 bytes (next_types count r2) _ (types_took count r2 m2) (λ locals r3 e3 m3 f3.
    took_bind (λ b. b ∷ []) (λ b. b < 2 ^ 8) stated_bytes (StatedIn least) r3 bytes (spelled (next_u1 r3)) _ (u1_took r3 m3) (λ depth r4 e4 m4 f4.
    took_bind (flat_map type_bytes) (Types depth) stated_bytes (StatedIn least) r4 bytes (next_types depth r4) _ (types_took depth r4 m4) (λ operands r5 e5 m5 f5.
    (text pc count depth locals operands r1 r2 r3 r4 r5 e1 e2 e3 e4 e5 f3.0 f5.0, m5, (record { pc = f1.0; locals = fitted (length locals) count (2 ^ 16) f3.0 f2; depth = fitted (length operands) depth (2 ^ 8) f5.0 f4; each_local = types_each locals f3.1; each_operand = types_each operands f5.1 }, f1.1)))))))
  where
    fitted : (n m top : ℕ) → n ≡ m → m < top → n < top
    fitted n m top e lt = rw e lt

    text : (pc count depth : ℕ) (locals operands : List StatedType) (r1 r2 r3 r4 r5 : List ℕ) → bytes ≡ to_be_bytes w16 pc ++ r1 → r1 ≡ to_be_bytes w16 count ++ r2 → r2 ≡ flat_map type_bytes locals ++ r3
        → r3 ≡ depth ∷ r4 → r4 ≡ flat_map type_bytes operands ++ r5 → length locals ≡ count → length operands ≡ depth
        → bytes ≡ stated_bytes (record { pc = pc; locals = locals; operands = operands }) ++ r5
    text pc count depth locals operands r1 r2 r3 r4 r5 e1 e2 e3 e4 e5 n k =
        rw (e1, e2, e3, e4, e5, ← n, ← k) (ap (λ (w : List ℕ). to_be_bytes w16 pc ++ (to_be_bytes w16 (length locals) ++ w)) (sym (append_assoc (flat_map type_bytes locals) (length operands ∷ flat_map type_bytes operands) r5)))

stated_again : (least : ℕ) (s : Stated) (rest : List ℕ) → StatedIn least s → next_stated least (stated_bytes s ++ rest) ≡ Ok (read_as s rest)
unfolding next_stated
stated_again least s rest fits =
    let behind : List ℕ = flat_map type_bytes s.locals ++ length s.operands ∷ flat_map type_bytes s.operands in
    let pc = number_again least s.pc (to_be_bytes w16 (length s.locals) ++ (behind ++ rest)) (fits.0.pc, fits.1) in
    let count : 256 * (length s.locals / 256 % 256) + length s.locals % 256 ≡ length s.locals = let h = fits.0.locals in omega arith in
    let locals = types_again s.locals (length s.operands ∷ (flat_map type_bytes s.operands ++ rest)) fits.0.each_local in
    let operands = types_again s.operands rest fits.0.each_operand in
    rw (pc, count, append_assoc (flat_map type_bytes s.locals) (length s.operands ∷ flat_map type_bytes s.operands) rest, locals, operands) refl

-- ---- so many states

abbrev pub States : ℕ → List Stated → Type 0
States least ss = Chain next_stated (λ s. s.pc + 1) stated_bytes StatedIn least ss

states_each : (least : ℕ) (ss : List Stated) → States least ss → AllByRecursion IsStated ss × PcsAscend least ss
states_each least [] h = (tt, tt)
states_each least (s ∷ ss) h = let r = states_each (s.pc + 1) ss h.1 in ((h.0.0, r.0), (h.0.1, r.1))

states_from : (least : ℕ) (ss : List Stated) → AllByRecursion IsStated ss → PcsAscend least ss → States least ss
states_from least [] h a = tt
states_from least (s ∷ ss) h a = ((h.0, a.0), states_from (s.pc + 1) ss h.1 a.1)

-- ---- a row

abbrev pub RowIn : ℕ → Row → Type 0
RowIn least r = IsRow r × (least ≤ r.offset)

row_took : (least : ℕ) (bytes : List ℕ) → IsBytes bytes → Took row_bytes (RowIn least) bytes (next_row least bytes)
unfolding next_row
row_took least bytes fits =
    took_bind (to_be_bytes w16) (NumberFits least) row_bytes (RowIn least) bytes bytes (next_number least bytes) _ (number_took least bytes fits) (λ offset r1 e1 m1 f1.
    took_bind (to_be_bytes w16) (NumberFits 1) row_bytes (RowIn least) r1 bytes (next_number 1 r1) _ (number_took 1 r1 m1) (λ count r2 e2 m2 f2.
    took_bind (flat_map stated_bytes) (λ ss. (length ss ≡ count) × States 0 ss) row_bytes (RowIn least) r2 bytes (next_states count 0 r2) _
    (repeat_took next_stated (λ s. s.pc + 1) stated_bytes StatedIn (λ s bs f. stated_took s bs f) count 0 r2 m2) (λ ss r3 e3 m3 f3.
    whole offset count ss r1 r2 r3 e1 e2 e3 m3 f1 f2 f3)))
  where
    whole : (offset count : ℕ) (ss : List Stated) (r1 r2 r3 : List ℕ) → bytes ≡ to_be_bytes w16 offset ++ r1 → r1 ≡ to_be_bytes w16 count ++ r2 → r2 ≡ flat_map stated_bytes ss ++ r3 → IsBytes r3
        → NumberFits least offset → NumberFits 1 count → (length ss ≡ count) × States 0 ss → Took row_bytes (RowIn least) bytes (Ok (read_as (record { offset = offset; states = ss }) r3))
    whole offset count ss r1 r2 r3 e1 e2 e3 m3 f1 f2 f3 =
        let n = f3.0 in
        let h = states_each 0 ss f3.1 in
        let text : bytes ≡ row_bytes (record { offset = offset; states = ss }) ++ r3 = rw (e1, e2, e3, ← n) refl in
        (text, m3, (record { offset = f1.0; some = omega arith; count = omega arith; each = h.0; ascend = h.1 }, f1.1))

row_again : (least : ℕ) (r : Row) (rest : List ℕ) → RowIn least r → next_row least (row_bytes r ++ rest) ≡ Ok (read_as r rest)
unfolding next_row
row_again least r rest fits =
    let offset = number_again least r.offset (to_be_bytes w16 (length r.states) ++ (flat_map stated_bytes r.states ++ rest)) (fits.0.offset, fits.1) in
    let count = number_again 1 (length r.states) (flat_map stated_bytes r.states ++ rest) (fits.0.count, fits.0.some) in
    let states = repeat_again next_stated (λ s. s.pc + 1) stated_bytes StatedIn (λ s e q f. stated_again s e q f) 0 r.states rest (states_from 0 r.states fits.0.each fits.0.ascend) in
    rw (offset, count, states) refl

-- ---- a whole certificate

abbrev pub RowsFrom : ℕ → List Row → Type 0
RowsFrom least rs = Chain next_row (λ r. r.offset + 1) row_bytes RowIn least rs

rows_each : (least : ℕ) (rs : List Row) → RowsFrom least rs → AllByRecursion IsRow rs × OffsetsAscend least rs
rows_each least [] h = (tt, tt)
rows_each least (r ∷ rs) h = let o = rows_each (r.offset + 1) rs h.1 in ((h.0.0, o.0), (h.0.1, o.1))

rows_from : (least : ℕ) (rs : List Row) → AllByRecursion IsRow rs → OffsetsAscend least rs → RowsFrom least rs
rows_from least [] h a = tt
rows_from least (r ∷ rs) h a = ((h.0, a.0), rows_from (r.offset + 1) rs h.1 a.1)

cert_took : (bytes : List ℕ) → IsBytes bytes → Took spelling IsCert bytes (next_cert bytes)
unfolding next_cert
cert_took bytes fits =
    took_bind (to_be_bytes w16) (λ n. n < 2 ^ 16) spelling IsCert bytes bytes (spelled (next_u2 bytes)) _ (u2_took bytes fits) (λ count r1 e1 m1 lt1.
    took_bind (flat_map row_bytes) (λ rs. (length rs ≡ count) × RowsFrom 0 rs) spelling IsCert r1 bytes (next_rows count 0 r1) _
    (repeat_took next_row (λ r. r.offset + 1) row_bytes RowIn (λ s bs f. row_took s bs f) count 0 r1 m1) (λ rs r2 e2 m2 len.
    ended count rs r1 r2 e1 e2 lt1 len (length r2 == 0) refl))
  where
    ended : (count : ℕ) (rs : List Row) (r1 r2 : List ℕ) → bytes ≡ to_be_bytes w16 count ++ r1 → r1 ≡ flat_map row_bytes rs ++ r2 → count < 2 ^ 16 → (length rs ≡ count) × RowsFrom 0 rs
        → (b : Bool) → (length r2 == 0) ≡ b → Took spelling IsCert bytes (cond b (Ok (read_as rs [])) (Err no_spelling))
    ended count rs r1 r2 e1 e2 lt1 len false test = tt
    ended count rs r1 r2 e1 e2 lt1 len true test =
        let n = len.0 in
        let none : r2 ≡ [] = nil_from_length r2 (eqb-true _ _ test) in
        let h = rows_each 0 rs len.1 in
        let text : bytes ≡ spelling rs ++ [] = rw (e1, e2, none, ← n) refl in
        (text, tt, record { count = omega arith; each = h.0; ascend = h.1 })

pub cert_again : (rs : List Row) → IsCert rs → next_cert (spelling rs) ≡ Ok (read_as rs [])
unfolding next_cert
cert_again rs fits =
    let n : 256 * (length rs / 256 % 256) + length rs % 256 ≡ length rs = let h = fits.count in omega arith in
    let all : next_rows (length rs) 0 (flat_map row_bytes rs) ≡ Ok (read_as rs []) =
    ap (λ (w : List ℕ). next_rows (length rs) 0 w) (sym (append-nil (flat_map row_bytes rs)))
    ∙ repeat_again next_row (λ r. r.offset + 1) row_bytes RowIn (λ s e r f. row_again s e r f) 0 rs [] (rows_from 0 rs fits.each fits.ascend) in
    rw (n, all) refl

bytes_fit : (bytes : List ℕ) → ((i : ℕ) → get_or bytes i 0 < 256) → IsBytes bytes
bytes_fit [] h = tt
bytes_fit (b ∷ bytes) h = (h 0, bytes_fit bytes (λ i. h (suc i)))

-- what is read is a certificate, and spelled so
pub is_found : (bytes : List ℕ) (rs : List Row) → ((i : ℕ) → get_or bytes i 0 < 256) → next_cert bytes ≡ Ok (read_as rs []) → IsCert rs × (bytes ≡ spelling rs)
is_found bytes rs fits e =
    let t = took_some spelling IsCert bytes (next_cert bytes) rs [] (cert_took bytes (bytes_fit bytes fits)) e in
    (t.1, t.0 ∙ append-nil (spelling rs))

-- where the bytes are a spelling, what is read is what they spell
pub is_only : (bytes : List ℕ) (found rs : List Row) → next_cert bytes ≡ Ok (read_as found []) → IsCert rs → bytes ≡ spelling rs → found ≡ rs
is_only bytes found rs e is text =
    same (read_as found []) (read_as rs []) (sym e ∙ ap next_cert text ∙ cert_again rs is)
  where
    same : (a b : Read (List Row)) → ◌≡◌ {A = Result (Read (List Row)) NoSpelling} (Ok a) (Ok b) → a.value ≡ b.value
    same a b h = ap (λ (r : Read (List Row)). r.value) (let k : a ≡ b = cc in k)

-- and the only refusal is that memory ran out
pub memory_only : (refusal : Refusal) (bytes : List ℕ) (rs : List Row) → Fails refusal (next_cert bytes) → IsCert rs → bytes ≡ spelling rs → refusal ≡ Memory
memory_only Memory bytes rs h is text = refl
memory_only Unspelled bytes rs h is text = absurd (clash (read_as rs []) (sym h ∙ ap next_cert text ∙ cert_again rs is))
  where
    clash : (a : Read (List Row)) → ◌≡◌ {A = Result (Read (List Row)) NoSpelling} (Err no_spelling) (Ok a) → ⊥
    clash a e = cc

-- so such bytes are never told to be no certificate
pub never_refused : (X : Type 0) (result : Result X LoadFault) (f : LoadFault) (refusal : Refusal) → result ≡ Err f → f ≡ fault_of refusal → refusal ≡ Memory → result ≡ Err fault.BadCertificate → ⊥
never_refused X result f refusal is_err told is_memory refused =
    let e : f ≡ fault.Memory = told ∙ ap fault_of is_memory in
    absurd cc

-- two certificates with one spelling are one
pub one_spelling : (a b : List Row) → IsCert a → IsCert b → spelling a ≡ spelling b → a ≡ b
one_spelling a b is_a is_b e = is_only (spelling a) a b (cert_again a is_a) is_b e
