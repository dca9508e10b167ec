-- Private. A descriptor takes at least one byte. The lemma stands here, since the row's law takes it from specs alone.
use Rattle.std.specs.Prelude.{◌≡◌, ℕ, ◌+◌, ◌/◌, ◌≤◌, Bool, true, false, cond, List, [], ◌∷◌, length, drop, take, None}
use Rattle.std.specs.Prelude.{Some, Ok, nat_lt}
use Rattle.std.proofs.Common.{ap, arith, length-drop, suc, sym, ◌-◌, ◌∙◌, refl}
use Rattle.std.proofs.lemmas.Bool.{ltb-false}
use Rattle.jc_base.specs.declared.class_ref.ClassRef.{ClassRef}
use Rattle.jc_base.specs.Cursor.{Read, next_bytes, field}
use Rattle.jc_base.specs.PlacedRows.{Shrinks, IsInFront}
use Rattle.jc_base.proofs.Binding.{the_ok, bind_ok}
use Rattle.jc_base.specs.Signature.{Signature}
use Rattle.jc_cap.specs.Descriptor.{next_descriptor, signature_of}
use Rattle.jc_cap.specs.Nibbles.{next_nibbles}

bytes_keep : (tag n : ℕ) (bytes : List ℕ) (x : Read (List ℕ)) → field tag (next_bytes n bytes) ≡ Ok x
    → length x.rest ≤ length bytes
bytes_keep tag n bytes x e = part (nat_lt (length bytes) n) e
  where
    part : (b : Bool) → field tag (cond b None (Some (record { value = take n bytes; rest = drop n bytes }))) ≡ Ok x
        → length x.rest ≤ length bytes
    part true h = absurd cc
    part false h =
        let e : length (drop n bytes) ≡ length x.rest = ap (λ (r : Read (List ℕ)). length r.rest) (the_ok _ x h) in
        omega (arith, length-drop n bytes)

nibbles_keep : (n : ℕ) (bytes : List ℕ) (x : Read (List ℕ)) → next_nibbles n bytes ≡ Ok x → length x.rest ≤ length bytes
unfolding next_nibbles
nibbles_keep n bytes x e =
    let a = bind_ok (field 11 (next_bytes ((n + 1) / 2) bytes)) _ x e in
    let k = bytes_keep 11 ((n + 1) / 2) bytes a.0 a.1 in
    let h : length a.0.rest ≡ length x.rest = ap (λ (r : Read (List ℕ)). length r.rest) (the_ok _ x a.2) in
    omega arith

pub descriptor_shrinks : Shrinks next_descriptor
unfolding next_descriptor
descriptor_shrinks [] x e = absurd cc
descriptor_shrinks (count ∷ bytes) x e =
    let a = bind_ok (next_nibbles count bytes) _ x e in
    let b = bind_ok (signature_of a.0.value) _ x a.2 in
    let k = nibbles_keep count bytes a.0 a.1 in
    let h : length a.0.rest ≡ length x.rest = ap (λ (r : Read (Signature ClassRef)). length r.rest) (the_ok _ x b.2) in
    omega arith

-- ---- the end of the bytes is left

bytes_left : (tag n : ℕ) (bytes : List ℕ) (x : Read (List ℕ)) → field tag (next_bytes n bytes) ≡ Ok x
    → (n ≤ length bytes) × (x.rest ≡ drop n bytes)
bytes_left tag n bytes x e = part (nat_lt (length bytes) n) (ltb-false (length bytes) n) e
  where
    part : (b : Bool) → (b ≡ false → n ≤ length bytes)
        → field tag (cond b None (Some (record { value = take n bytes; rest = drop n bytes }))) ≡ Ok x
        → (n ≤ length bytes) × (x.rest ≡ drop n bytes)
    part true l h = absurd cc
    part false l h = (l refl, sym (ap (λ (r : Read (List ℕ)). r.rest) (the_ok _ x h)))

nibbles_left : (n : ℕ) (bytes : List ℕ) (x : Read (List ℕ)) → next_nibbles n bytes ≡ Ok x
    → ((n + 1) / 2 ≤ length bytes) × (x.rest ≡ drop ((n + 1) / 2) bytes)
unfolding next_nibbles
nibbles_left n bytes x e =
    let a = bind_ok (field 11 (next_bytes ((n + 1) / 2) bytes)) _ x e in
    let k = bytes_left 11 ((n + 1) / 2) bytes a.0 a.1 in
    (k.0, sym (ap (λ (r : Read (List ℕ)). r.rest) (the_ok _ x a.2)) ∙ k.1)

pub descriptor_in_front : IsInFront next_descriptor
unfolding next_descriptor
descriptor_in_front [] x e = absurd cc
descriptor_in_front (count ∷ bytes) x e =
    let a = bind_ok (next_nibbles count bytes) _ x e in
    let b = bind_ok (signature_of a.0.value) _ x a.2 in
    let k = nibbles_left count bytes a.0 a.1 in
    let rest : x.rest ≡ drop ((count + 1) / 2) bytes =
    sym (ap (λ (r : Read (Signature ClassRef)). r.rest) (the_ok _ x b.2)) ∙ k.1 in
    let le = k.0 in
    let size : length x.rest ≡ length bytes - (count + 1) / 2 = ap length rest ∙ length-drop ((count + 1) / 2) bytes in
    let n : suc ((count + 1) / 2) ≡ suc (length bytes) - length x.rest = omega arith in
    rest ∙ ap (λ n. drop n (count ∷ bytes)) n
