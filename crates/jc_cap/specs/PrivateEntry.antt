-- Private. Each entry takes four bytes. The lemma stands here, since the row's law takes it from specs alone.
use Rattle.std.specs.Prelude.{ℕ, ◌-◌, ◌==◌, Bool, true, false, cond, List, [], ◌∷◌, Result, Err, nat_lt}
use Rattle.std.proofs.Common.{ap, sym, ◌∙◌, arith}
use Rattle.jc_base.specs.Cursor.{Read}
use Rattle.jc_base.specs.Rows.{HasSize}
use Rattle.jc_base.specs.declared.fault.LoadFault.{LoadFault}
use Rattle.jc_base.proofs.Binding.{the_ok, bind_ok}
use Rattle.jc_cap.specs.declared.entry.MemberRef.{MemberRef}
use Rattle.jc_cap.specs.declared.entry.StaticRef.{StaticRef}
use Rattle.jc_cap.specs.declared.entry.PoolEntry.{PoolEntry}
use Rattle.jc_cap.specs.declared.entry.PoolEntry.TheVariants.{Classref, InstanceFieldref, VirtualMethodref}
use Rattle.jc_cap.specs.declared.entry.PoolEntry.TheVariants.{SuperMethodref, StaticFieldref, StaticMethodref}
use Rattle.jc_cap.specs.Entry.{next_member_ref, next_static_ref, next_internal, next_external, as_entry}
use Rattle.jc_cap.specs.Entry.{next_tagged_entry, next_entry}

size_if : {A : Type 0} (n : ℕ) (b : Bool) (f g : List ℕ → Result (Read A) LoadFault) → HasSize n f → HasSize n g
    → HasSize n (λ bytes. cond b (f bytes) (g bytes))
size_if n true f g t u = t
size_if n false f g t u = u

size_as : {A : Type 0} (n : ℕ) (entry : A → PoolEntry) (f : List ℕ → Result (Read A) LoadFault) → HasSize n f
    → HasSize n (λ bytes. as_entry entry (f bytes))
size_as n entry f t bytes x e =
    let a = bind_ok (f bytes) _ x e in
    let h = t bytes a.0 a.1 in
    (ap (λ (r : Read PoolEntry). r.rest) (sym (the_ok _ x a.2)) ∙ h.0, h.1)

size_none : {A : Type 0} (n : ℕ) (fault : LoadFault) → HasSize {A = A} n (λ bytes. Err fault)
size_none n fault bytes x e = absurd cc

member_size : HasSize 3 next_member_ref
unfolding next_member_ref
member_size (a ∷ b ∷ c ∷ bytes) x e = (ap (λ (r : Read MemberRef). r.rest) (sym (the_ok _ x e)), omega arith)
member_size _ x e = absurd cc

internal_size : HasSize 2 next_internal
internal_size (a ∷ b ∷ bytes) x e = (ap (λ (r : Read StaticRef). r.rest) (sym (the_ok _ x e)), omega arith)
internal_size _ x e = absurd cc

external_size : (import : ℕ) → HasSize 2 (next_external import)
external_size import (a ∷ b ∷ bytes) x e = (ap (λ (r : Read StaticRef). r.rest) (sym (the_ok _ x e)), omega arith)
external_size import _ x e = absurd cc

static_size : HasSize 3 next_static_ref
unfolding next_static_ref
static_size [] x e = absurd cc
static_size (front ∷ bytes) x e =
    let h = size_if 2 (nat_lt front 0x80) next_internal (next_external (front - 0x80)) internal_size
    (external_size (front - 0x80)) bytes x e in
    (h.0, omega arith)

tagged_size : (tag : ℕ) → HasSize 3 (next_tagged_entry tag)
unfolding next_tagged_entry
tagged_size tag =
    size_if 3 (tag == 1) _ _ (size_as 3 (λ m. Classref m.class) next_member_ref member_size)
    (size_if 3 (tag == 2) _ _ (size_as 3 InstanceFieldref next_member_ref member_size)
    (size_if 3 (tag == 3) _ _ (size_as 3 VirtualMethodref next_member_ref member_size)
    (size_if 3 (tag == 4) _ _ (size_as 3 SuperMethodref next_member_ref member_size)
    (size_if 3 (tag == 5) _ _ (size_as 3 StaticFieldref next_static_ref static_size)
    (size_if 3 (tag == 6) _ _ (size_as 3 StaticMethodref next_static_ref static_size)
    (size_none 3 _))))))

pub entry_has_size : HasSize 4 next_entry
unfolding next_entry
entry_has_size [] x e = absurd cc
entry_has_size (tag ∷ bytes) x e = let h = tagged_size tag bytes x e in (h.0, omega arith)
