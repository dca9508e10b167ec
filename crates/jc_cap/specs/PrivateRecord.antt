-- Private. A record takes at least one byte. The lemma stands here, since the row's law takes it from specs alone.
use Rattle.std.specs.Prelude.{◌≡◌, ℕ, zero, suc, ◌*◌, ◌%◌, ◌≤◌, Bool, true, false, cond, List, [], ◌∷◌, length, drop}
use Rattle.std.specs.Prelude.{take, None, Some, Result, Ok, nat_lt}
use Rattle.std.proofs.Common.{ap, arith, length-drop}
use Rattle.jc_base.specs.Cursor.{Read, next_u1, next_u2, next_bytes, field}
use Rattle.jc_base.specs.PlacedRows.{Shrinks}
use Rattle.jc_base.specs.Rows.{repeat}
use Rattle.jc_base.specs.Results.{◌>>=◌}
use Rattle.jc_base.specs.declared.fault.LoadFault.{LoadFault}
use Rattle.jc_base.proofs.Binding.{the_ok, bind_ok}
use Rattle.jc_cap.specs.Interfaces.{next_superinterface, next_implemented}
use Rattle.jc_cap.specs.Record.{next_table_size, next_methods, next_interface, next_class_record, next_body}
use Rattle.jc_cap.specs.Record.{next_record}

-- reading leaves no more bytes than there were
abbrev pub Leaves : {A : Type 0} → List ℕ → Result (Read A) LoadFault → Type 0
Leaves {A = A} bytes read = (x : Read A) → read ≡ Ok x → length x.rest ≤ length bytes

leaves_value : {A : Type 0} (bytes : List ℕ) (value : A) (rest : List ℕ) → length rest ≤ length bytes
    → Leaves bytes (Ok (record { value = value; rest = rest }))
leaves_value {A = A} bytes value rest h x e =
    let k : length rest ≡ length x.rest = ap (λ (r : Read A). length r.rest) (the_ok _ x e) in
    omega arith

leaves_bind : {A B : Type 0} (bytes : List ℕ) (read : Result (Read A) LoadFault)
    (next : Read A → Result (Read B) LoadFault) → Leaves bytes read
    → ((x : Read A) → length x.rest ≤ length bytes → Leaves bytes (next x)) → Leaves bytes (read >>= next)
leaves_bind bytes read next h k y e =
    let a = bind_ok read next y e in
    k a.0 (h a.0 a.1) y a.2

leaves_more : {A : Type 0} (bytes rest : List ℕ) (read : Result (Read A) LoadFault) → length rest ≤ length bytes
    → Leaves rest read → Leaves bytes read
leaves_more bytes rest read h k x e = let m = k x e in omega arith

leaves_choice : {A : Type 0} (bytes : List ℕ) (b : Bool) (r s : Result (Read A) LoadFault) → Leaves bytes r
    → Leaves bytes s → Leaves bytes (cond b r s)
leaves_choice bytes true r s h k = h
leaves_choice bytes false r s h k = k

leaves_u1 : (tag : ℕ) (bytes : List ℕ) → Leaves bytes (field tag (next_u1 bytes))
leaves_u1 tag [] x e = absurd cc
leaves_u1 tag (b ∷ bytes) x e = leaves_value (b ∷ bytes) b bytes (omega arith) x e

leaves_u2 : (tag : ℕ) (bytes : List ℕ) → Leaves bytes (field tag (next_u2 bytes))
leaves_u2 tag (a ∷ b ∷ bytes) x e = leaves_value (a ∷ b ∷ bytes) _ bytes (omega arith) x e
leaves_u2 tag _ x e = absurd cc

leaves_bytes : (tag n : ℕ) (bytes : List ℕ) → Leaves bytes (field tag (next_bytes n bytes))
leaves_bytes tag n bytes = part (nat_lt (length bytes) n)
  where
    part : (b : Bool)
        → Leaves bytes (field tag (cond b None (Some (record { value = take n bytes; rest = drop n bytes }))))
    part true x e = absurd cc
    part false x e = leaves_value bytes _ (drop n bytes) (omega (arith, length-drop n bytes)) x e

leaves_repeat : {A : Type 0} (next_row : List ℕ → Result (Read A) LoadFault)
    → ((bytes : List ℕ) → Leaves bytes (next_row bytes)) → (n : ℕ) (bytes : List ℕ)
    → Leaves bytes (repeat next_row n bytes)
unfolding repeat
leaves_repeat next_row h zero bytes = leaves_value bytes [] bytes (omega arith)
leaves_repeat next_row h (suc n) bytes =
    leaves_bind bytes _ _ (h bytes) (λ first k.
    leaves_bind bytes _ _ (leaves_more bytes first.rest _ k (leaves_repeat next_row h n first.rest)) (λ more m.
    leaves_value bytes _ more.rest m))

leaves_superinterface : (bytes : List ℕ) → Leaves bytes (next_superinterface bytes)
unfolding next_superinterface
leaves_superinterface bytes =
    leaves_bind bytes _ _ (leaves_u2 6 bytes) (λ number k.
    leaves_value bytes _ number.rest k)

leaves_implemented : (bytes : List ℕ) → Leaves bytes (next_implemented bytes)
unfolding next_implemented
leaves_implemented bytes =
    leaves_bind bytes _ _ (leaves_u2 6 bytes) (λ number k.
    leaves_bind bytes _ _ (leaves_more bytes number.rest _ k (leaves_u1 6 number.rest)) (λ count k.
    leaves_bind bytes _ _ (leaves_more bytes count.rest _ k (leaves_bytes 6 count.value count.rest)) (λ indexes k.
    leaves_value bytes _ indexes.rest k)))

leaves_table_size : (bytes : List ℕ) → Leaves bytes (next_table_size bytes)
unfolding next_table_size
leaves_table_size bytes =
    leaves_bind bytes _ _ (leaves_u1 6 bytes) (λ base k.
    leaves_bind bytes _ _ (leaves_more bytes base.rest _ k (leaves_u1 6 base.rest)) (λ count k.
    leaves_value bytes _ count.rest k))

leaves_methods : (count : ℕ) (bytes : List ℕ) → Leaves bytes (next_methods count bytes)
unfolding next_methods
leaves_methods count bytes =
    leaves_bind bytes _ _ (leaves_bytes 6 (2 * count) bytes) (λ methods k.
    leaves_value bytes _ methods.rest k)

leaves_interface : (count : ℕ) (bytes : List ℕ) → Leaves bytes (next_interface count bytes)
unfolding next_interface
leaves_interface count bytes =
    leaves_bind bytes _ _ (leaves_repeat next_superinterface leaves_superinterface count bytes) (λ interfaces k.
    leaves_value bytes _ interfaces.rest k)

leaves_class : (count : ℕ) (bytes : List ℕ) → Leaves bytes (next_class_record count bytes)
unfolding next_class_record
leaves_class count bytes =
    leaves_bind bytes _ _ (leaves_u2 6 bytes) (λ superclass k.
    leaves_bind bytes _ _ (leaves_more bytes superclass.rest _ k (leaves_u1 6 superclass.rest)) (λ size k.
    leaves_bind bytes _ _ (leaves_more bytes size.rest _ k (leaves_bytes 6 2 size.rest)) (λ references k.
    leaves_bind bytes _ _ (leaves_more bytes references.rest _ k (leaves_table_size references.rest)) (λ public_size k.
    leaves_bind bytes _ _ (leaves_more bytes public_size.rest _ k (leaves_table_size public_size.rest))
    (λ package_size k.
    leaves_bind bytes _ _
    (leaves_more bytes package_size.rest _ k (leaves_methods public_size.value.count package_size.rest))
    (λ public_offsets k.
    leaves_bind bytes _ _
    (leaves_more bytes public_offsets.rest _ k (leaves_methods package_size.value.count public_offsets.rest))
    (λ package_offsets k.
    leaves_bind bytes _ _ (leaves_more bytes package_offsets.rest _ k
    (leaves_repeat next_implemented leaves_implemented count package_offsets.rest)) (λ interfaces k.
    leaves_value bytes _ interfaces.rest k))))))))

leaves_body : (front : ℕ) (bytes : List ℕ) → Leaves bytes (next_body front bytes)
unfolding next_body
leaves_body front bytes =
    leaves_choice bytes _ _ _
    (leaves_bind bytes _ _ (leaves_interface (front % 16) bytes) (λ found k. leaves_value bytes _ found.rest k))
    (leaves_bind bytes _ _ (leaves_class (front % 16) bytes) (λ found k. leaves_value bytes _ found.rest k))

pub record_shrinks : Shrinks next_record
unfolding next_record
record_shrinks [] x e = absurd cc
record_shrinks (front ∷ bytes) x e =
    let h = leaves_bind bytes _ _ (leaves_body front bytes) (λ body k. leaves_value bytes _ body.rest k) x e in
    omega arith
