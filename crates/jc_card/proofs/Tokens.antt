-- What is read of bytes: the tokens of a pool are bytes, and rows that a byte counts are few.
use Rattle.std.proofs.Common.{◌≡◌, ℕ, zero, suc, ◌*◌, ◌+◌, ◌<◌, ◌≤◌, Bool, cond, nat_eq}
use Rattle.std.proofs.Common.{List, [], ◌∷◌, length, Result, Ok, Err, IfOk, subst, arith, refl, ap}
use Rattle.std.specs.Prelude.{⊤}
use Rattle.std.specs.List.{AllByRecursion}
use Rattle.jc_base.specs.Cursor.{Read, field, next_bytes, next_u1, next_u2, whole}
use Rattle.jc_base.specs.PlacedRows.{placed_rows}
use Rattle.jc_base.specs.Results.{◌>>=◌}
use Rattle.jc_base.specs.Rows.{repeat}
use Rattle.jc_base.specs.Tag.{constant_pool_tag, descriptor_tag}
use Rattle.jc_base.specs.declared.fault.LoadFault.{LoadFault}
use Rattle.jc_base.specs.declared.fault.LoadFault.TheVariants.{Malformed}
use Rattle.jc_cap_desc.specs.ClassRow.{next_class_row}
use Rattle.jc_cap_desc.specs.Component.{layout_of}
use Rattle.jc_cap_desc.specs.Types.{descriptor_of}
use Rattle.jc_cap_desc.specs.declared.component.DescriptorInfo.{DescriptorInfo}
use Rattle.jc_cap.specs.Descriptor.{next_descriptor}
use Rattle.jc_cap.specs.Entry.{as_entry, next_entry, next_external}
use Rattle.jc_cap.specs.Entry.{next_internal, next_member_ref, next_static_ref, next_tagged_entry}
use Rattle.jc_cap.specs.Pool.{pool_of}
use Rattle.jc_cap.specs.declared.entry.MemberRef.{MemberRef}
use Rattle.jc_cap.specs.declared.entry.PoolEntry.{PoolEntry}
use Rattle.jc_cap.specs.declared.entry.PoolEntry.TheVariants.{Classref, InstanceFieldref, VirtualMethodref}
use Rattle.jc_cap.specs.declared.entry.PoolEntry.TheVariants.{SuperMethodref, StaticFieldref, StaticMethodref}
use Rattle.jc_machine.specs.Accepted.{HaveByteTokens}
use Rattle.jc_card.proofs.Cut.{AllBytes}

-- ---- reading

-- what is read has a property, and leaves bytes
abbrev Reads : {A E : Type 0} → (A → Type 0) → Result (Read A) E → Type 0
Reads P r = IfOk r (λ x. P x.value × AllBytes x.rest)

-- of any value
abbrev Any : {A : Type 0} → A → Type 0
Any value = ⊤

-- one part behind another
reads_then : {A B E : Type 0} (P : A → Type 0) (Q : B → Type 0) (r : Result (Read A) E)
    (f : Read A → Result (Read B) E) → Reads P r
    → ((x : Read A) → P x.value → AllBytes x.rest → Reads Q (f x)) → Reads Q (r >>= f)
reads_then P Q r f h1 h2 = grind arith

reads_either : {A E : Type 0} (P : A → Type 0) (b : Bool) (r s : Result (Read A) E) → Reads P r → Reads P s
    → Reads P (cond b r s)
reads_either P b r s h1 h2 = grind arith

reads_u1 : (tag : ℕ) (bytes : List ℕ) → AllBytes bytes → Reads (λ n. n < 256) (field tag (next_u1 bytes))
reads_u1 tag bytes h1 = grind arith

reads_u2 : (tag : ℕ) (bytes : List ℕ) → AllBytes bytes → Reads Any (field tag (next_u2 bytes))
reads_u2 tag bytes h1 = grind arith

-- rows
module _ {A E : Type 0} (next_row : List ℕ → Result (Read A) E) (P : A → Type 0)
    (each : (bytes : List ℕ) → AllBytes bytes → Reads P (next_row bytes)) where
  reads_rows : (n : ℕ) (bytes : List ℕ) → AllBytes bytes → Reads (AllByRecursion P) (repeat next_row n bytes)
  unfolding repeat
  reads_rows zero bytes all = (tt, all)
  reads_rows (suc n) bytes all =
      reads_then P (AllByRecursion P) (next_row bytes) _ (each bytes all) (λ first here left.
      reads_then (AllByRecursion P) (AllByRecursion P) (repeat next_row n first.rest) _ (reads_rows n first.rest left)
      (λ more there behind. ((here, there), behind)))

reads_whole : {A E : Type 0} (P : A → Type 0) (fault : E) (r : Result (Read A) E) → Reads P r → IfOk (whole fault r) P
reads_whole P fault r h1 = grind (arith, nat_eq)

-- ---- the entries of a pool

abbrev HasByteToken : PoolEntry → Type 0
HasByteToken (Classref class) = ⊤
HasByteToken (InstanceFieldref field) = ⊤
HasByteToken (VirtualMethodref method) = method.token < 256
HasByteToken (SuperMethodref method) = ⊤
HasByteToken (StaticFieldref place) = ⊤
HasByteToken (StaticMethodref place) = ⊤

abbrev ByteToken : MemberRef → Type 0
ByteToken ref = ref.token < 256

reads_member_ref : (bytes : List ℕ) → AllBytes bytes → Reads ByteToken (next_member_ref bytes)
unfolding next_member_ref
reads_member_ref bytes all = grind (arith, reads_then, reads_u2, reads_u1)

reads_internal : (bytes : List ℕ) → AllBytes bytes → Reads Any (next_internal bytes)
reads_internal bytes all = grind (arith, reads_then, reads_u2)

reads_external : (import : ℕ) (bytes : List ℕ) → AllBytes bytes → Reads Any (next_external import bytes)
reads_external import bytes all = grind (arith, reads_then, reads_u1)

reads_static_ref : (bytes : List ℕ) → AllBytes bytes → Reads Any (next_static_ref bytes)
unfolding next_static_ref
reads_static_ref bytes all = grind (arith, reads_then, reads_u1, reads_either, reads_internal, reads_external)

reads_entry : {A : Type 0} (P : A → Type 0) (entry : A → PoolEntry) → ((a : A) → P a → HasByteToken (entry a))
    → (r : Result (Read A) LoadFault) → Reads P r → Reads HasByteToken (as_entry entry r)
reads_entry P entry has r reads = reads_then P HasByteToken r _ reads (λ x here left. (has x.value here, left))

reads_tagged : (tag : ℕ) (bytes : List ℕ) → AllBytes bytes → Reads HasByteToken (next_tagged_entry tag bytes)
unfolding next_tagged_entry
reads_tagged tag bytes all = grind (arith, reads_member_ref, reads_static_ref, reads_either, reads_entry)

reads_entries : (bytes : List ℕ) → AllBytes bytes → Reads HasByteToken (next_entry bytes)
unfolding next_entry
reads_entries bytes all = grind (arith, reads_then, reads_u1, reads_tagged)

pool_read : (r : Result (Read ℕ) LoadFault) → Reads Any r
    → IfOk (r >>= λ count. whole (Malformed constant_pool_tag) (repeat next_entry count.value count.rest))
    (AllByRecursion HasByteToken)
pool_read (Err fault) reads = tt
pool_read (Ok count) reads =
    reads_whole (AllByRecursion HasByteToken) (Malformed constant_pool_tag)
    (repeat next_entry count.value count.rest)
    (reads_rows next_entry HasByteToken reads_entries count.value count.rest reads.1)

all_tokens : (info : List ℕ) → AllBytes info → IfOk (pool_of info) (AllByRecursion HasByteToken)
unfolding pool_of
all_tokens info all = pool_read (field constant_pool_tag (next_u2 info)) (reads_u2 constant_pool_tag info all)

-- so it is of each
token_at : (pool : List PoolEntry) → AllByRecursion HasByteToken pool → HaveByteTokens pool
token_at [] all index ref e = absurd cc
token_at (entry ∷ pool) all zero ref e = grind arith
token_at (entry ∷ pool) all (suc index) ref e = token_at pool all.1 index ref e

pub pool_tokens : (info : List ℕ) (pool : List PoolEntry) → AllBytes info → pool_of info ≡ Ok pool
    → HaveByteTokens pool
pool_tokens info pool all e = grind (arith, token_at, all_tokens)

-- ---- the rows of classes

-- what comes of one step behind another
pub ok_then : {A B E : Type 0} (Q : B → Type 0) (r : Result A E) (f : A → Result B E)
    → ((x : A) → r ≡ Ok x → IfOk (f x) Q) → IfOk (r >>= f) Q
ok_then Q r f h1 = grind arith

pub of_ok : {A E : Type 0} (P : A → Type 0) (r : Result A E) (x : A) → r ≡ Ok x → IfOk r P → P x
of_ok P r x e h = subst (λ r. IfOk r P) e h

module _ {A E : Type 0} (next_row : List ℕ → Result (Read A) E) where
  rows_counted : (n : ℕ) (bytes : List ℕ) → IfOk (repeat next_row n bytes) (λ all. length all.value ≡ n)
  unfolding repeat
  rows_counted zero bytes = refl
  rows_counted (suc n) bytes =
      ok_then (λ all. length all.value ≡ suc n) (next_row bytes) _ (λ first here.
      ok_then (λ all. length all.value ≡ suc n) (repeat next_row n first.rest) _ (λ more there.
      ap suc (of_ok (λ all. length all.value ≡ n) (repeat next_row n first.rest) more there
      (rows_counted n first.rest))))

abbrev HasFewRows : DescriptorInfo → Type 0
HasFewRows found = length found.classes ≤ 255

few_in_layout : (info : List ℕ) → AllBytes info → IfOk (layout_of info) HasFewRows
unfolding layout_of
few_in_layout info all =
    ok_then HasFewRows (field descriptor_tag (next_u1 info)) _ (λ count is.
    ok_then HasFewRows (repeat next_class_row count.value count.rest) _ (λ classes are.
    ok_then HasFewRows (field descriptor_tag (next_u2 classes.rest)) _ (λ pool_count counted.
    ok_then HasFewRows (field descriptor_tag (next_bytes (2 * pool_count.value) pool_count.rest)) _ (λ offsets read.
    ok_then HasFewRows (placed_rows next_descriptor (2 + 2 * pool_count.value) classes.rest) _ (λ types there.
    let byte : count.value < 256
    = (of_ok (λ x. (x.value < 256) × AllBytes x.rest) (field descriptor_tag (next_u1 info)) count is
    (reads_u1 descriptor_tag info all)).0 in
    let rows = of_ok (λ x. length x.value ≡ count.value) (repeat next_class_row count.value count.rest) classes are
    (rows_counted next_class_row count.value count.rest) in
    omega (arith, byte, rows))))))

-- a byte counts them
pub few_rows : (info : List ℕ) (found : DescriptorInfo) → AllBytes info → descriptor_of info ≡ Ok found
    → length found.classes ≤ 255
few_rows info found all e = grind (arith, of_ok, ok_then, few_in_layout)
