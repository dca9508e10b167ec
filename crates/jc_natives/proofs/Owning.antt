-- What is the active context's own may be used in each way.
use Rattle.std.proofs.Common.{◌≡◌, inl, inr, ℕ, zero, suc, ◌<◌, ◌≤◌, false, ◌&&◌, List, [], ◌∷◌, length, slice_get}
use Rattle.std.proofs.Common.{None, Some, refl, arith}
use Rattle.std.proofs.lemmas.Bool.{both_ways, eq-eqb}
use Rattle.std.specs.Option.{option_map_or}
use Rattle.jc_firewall.specs.Own.{OwnIsAllowed}
use Rattle.jc_firewall.specs.Verdict.{is_never_stored, row_of, stores_reference, verdict_for_runtime}
use Rattle.jc_firewall.specs.declared.access.Facts.{Facts}
use Rattle.jc_natives.specs.Checks.{access_of}
use Rattle.jc_natives.specs.PrivateSeen.{NativeInput}
use Rattle.jc_natives.specs.PrivateTests.{by_verdict, used}
use Rattle.jc_natives.specs.PrivateAtOnce.{IsGlobal}
use Rattle.jc_natives.specs.declared.row.Use.{Use}
use Rattle.jc_natives.specs.declared.row.Use.TheVariants.{Loads, Stores}
use Rattle.jc_store.specs.Heap.{Object, object_at}
use Rattle.jc_store.specs.Store.{IsOwn, IsReference, Store}

-- no use stores a reference
stores_none : (way : Use) → (stores_reference (access_of way) && option_map_or is_never_stored None false) ≡ false
stores_none way = grind arith

-- the runtime may use each object in each way
runtime_may : (s : NativeInput) (way : Use) (number : ℕ) (f : Facts)
    → (by_verdict s way number (verdict_for_runtime (row_of (access_of way) f) f)).thrown ≡ None
runtime_may s way number f = grind (arith, f)

pub own_passes : OwnIsAllowed → (s : NativeInput) (store : Store) (way : Use) (number : ℕ) → s.objects ≡ store.objects
    → IsOwn store number s.active.context → (used s way number).thrown ≡ None
own_passes law s store way number same own = grind (arith, runtime_may, both_ways, eq-eqb, stores_none)

-- and each context may load and store components of a global array
module _ (s : NativeInput) (store : Store) (number : ℕ) (same : s.objects ≡ store.objects) (o : Object ℕ)
    (there : object_at store.objects number ≡ Some o) (global : IsGlobal o.kind) where
  pub global_loads : (used s Loads number).thrown ≡ None
  global_loads = grind (arith, runtime_may, both_ways)

  pub global_stores : (used s Stores number).thrown ≡ None
  global_stores = grind (arith, runtime_may, both_ways)

-- 0, and each number up to that of the last object, is that of null or of an object that is there
got : {A : Type 0} (xs : List A) (n : ℕ) → n < length xs → (x : A) × (slice_get xs n ≡ Some x)
got [] n h = absurd (omega (arith, h))
got (x ∷ xs) zero h = (x, refl)
got (x ∷ xs) (suc n) h = got xs n (omega (arith, h))

pub reference_within : (store : Store) (number : ℕ) → number ≤ length store.objects → IsReference store number
reference_within store zero within = inl refl
reference_within store (suc n) within =
    let g = got store.objects n (omega (arith, within)) in inr (record { object = g.0; is = g.1 })
