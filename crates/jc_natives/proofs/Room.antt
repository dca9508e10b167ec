-- Whether there is room for one object more.
use Rattle.std.proofs.Common.{◌≡◌, ◌⊎◌, ℕ, ◌≤◌, ◌<◌, ◌&&◌, Bool, true, false, nat_le, arith}
use Rattle.std.proofs.lemmas.Bool.{le-leb, le-ltb, lt-leb, lt-ltb, ltb-false, ltb-true}
use Rattle.jc_natives.specs.Cells.{has_room}
use Rattle.jc_store.specs.Store.{IsFull, Store}

no_second : (a b : Bool) → b ≡ false → (a && b) ≡ false
no_second a b h1 = grind arith

pub full_has_none : (s : Store) (size : ℕ) → IsFull s size → has_room s.most_objects s.most_cells s.objects size ≡ false
full_has_none s size h1 = grind (arith, nat_le, le-ltb, no_second, lt-leb)

cases : (a b : ℕ) → (a < b) ⊎ (b ≤ a)
cases a b = grind (arith, ltb-true, ltb-false)

pub not_full_has_some : (s : Store) (size : ℕ) → (IsFull s size → ⊥)
    → has_room s.most_objects s.most_cells s.objects size ≡ true
not_full_has_some s size h = grind (arith, cases, nat_le, lt-ltb, le-leb)
