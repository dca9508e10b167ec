-- Objects of heaps by their numbers.
use Rattle.std.proofs.Common.{◌≡◌, ◌≢◌, ℕ, zero, suc, ◌<◌, ◌≤◌, List, [], ◌∷◌, length, slice_get, Some, None, refl}
use Rattle.std.proofs.Common.{arith}
use Rattle.std.proofs.lemmas.Option.{slice_get_past}
use Rattle.jc_store.specs.Heap.{Heap, object_at}
use Rattle.jc_store.specs.Store.{IsThere, Store}

got : {A : Type 0} (xs : List A) (n : ℕ) → n < length xs → (x : A) × (slice_get xs n ≡ Some x)
got [] n h = absurd (omega (arith, h))
got (x ∷ xs) zero h = (x, refl)
got (x ∷ xs) (suc n) h = got xs n (omega (arith, h))

pub there : (s : Store) (number : ℕ) → number ≢ 0 → number ≤ length s.objects → IsThere s number
there s zero h low = absurd (h refl)
there s (suc n) h low = let g = got s.objects n (omega (arith, low)) in record { object = g.0; is = g.1 }

pub not_there : {V : Type 0} (heap : Heap V) (number : ℕ) → length heap < number → object_at heap number ≡ None
not_there heap zero h = refl
not_there heap (suc n) h = slice_get_past heap n (omega (arith, h))
